-- Every figure that a stream returns fits its place in the number: the totals of both productions are no more than the commands, and than
-- the stock, and the looks no more than 10.
use mathlib.Core.Path.{◌≡◌, refl}
use mathlib.Core.List.{List}
use Prim.Native.Nat.{ℕ, suc}
use native.Mathlib.Omega.{arith}
use Rattle.packing.specs.Limits.{most_commands}
use Rattle.packing.specs.Streams.{Read, accepted, refused, verdict}
use Rattle.packing.specs.Run.{result}
use Rattle.packing.proofs.Limits.{in_limits}
use Rattle.packing.proofs.Reached.{both_in_stock}
use Rattle.packing.proofs.Running.{shelved_few}
use Rattle.packing.proofs.Looks.{height_least, most_few}
use Rattle.packing.proofs.Accepted.{accepted_whole}
use Rattle.packing.proofs.Offsets.{Short, verdict_short}
use Rattle.codes.specs.Codes.{FiguresFit}

pub figures_fit : (stream : List ℕ) (words : ℕ) → FiguresFit (result (verdict stream words))
figures_fit stream words = go (verdict stream words) refl (verdict_short stream words)
  where
    go : (v : Read) → verdict stream words ≡ v → Short (suc most_commands) 0 stream v → FiguresFit (result v)
    go (accepted o cs) e h =
        let w = accepted_whole words o cs stream e in
        let stock = (in_limits o w.opening_is_good).stock in
        (omega (arith, shelved_few o cs, w.commands_few), (omega (arith, both_in_stock o cs, stock), omega (arith, most_few o cs, (height_least o.stock).least 9 stock.1)))
    go (refused reason at) e h = omega arith
