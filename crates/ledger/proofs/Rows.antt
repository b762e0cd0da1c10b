-- The first rows of a ledger are those of the bins.
use mathlib.Core.Path.{◌≡◌, sym, ◌∙◌}
use mathlib.Core.List.{List, map}
use Prim.Native.Nat.{◌≤◌}
use native.Mathlib.Omega.{arith}
use lib.ListN.{length, take, length-map}
use lib.Seq.{length-take-le, get_or-take, ext_get_or}
use Rattle.packing.specs.declared.Opening.{Opening}
use Rattle.packing.specs.Bins.{Packing, opened}
use Rattle.ledger.specs.declared.Row.{Row}
use Rattle.ledger.specs.Rows.{places, blank}
use Rattle.ledger.specs.Records.{row_of, Records}

pub bins_rows : {o : Opening} {ledger : List Row} {p : Packing} → Records o ledger p → opened p ≤ places → take (opened p) ledger ≡ map (row_of o) p.bins
bins_rows {o} {ledger} {p} k few =
    let count : length (take (opened p) ledger) ≡ opened p = length-take-le (opened p) ledger (omega (arith, k.whole)) in
    let all : length (map (row_of o) p.bins) ≡ opened p = length-map p.bins (row_of o) in
    ext_get_or blank (take (opened p) ledger) (map (row_of o) p.bins) (count ∙ sym all)
    (λ i l. get_or-take (opened p) ledger i blank (omega (arith, count)) ∙ k.row i (omega (arith, count)))
