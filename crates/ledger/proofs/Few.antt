-- How many items a packing holds: no row says more, one more is held when one is placed, and as many when one is settled.
use mathlib.Core.Path.{◌≡◌}
use mathlib.Core.List.{List, [], ◌∷◌, map}
use Prim.Native.Nat.{ℕ, zero, suc, ◌+◌, ◌≤◌, ◌<◌}
use native.Mathlib.Omega.{arith}
use lib.ListN.{length, get_or}
use Rattle.packing.specs.declared.Opening.{Opening}
use Rattle.packing.specs.Prelude.{total}
use Rattle.packing.specs.SizeClasses.{is_a}
use Rattle.packing.specs.Bins.{Item, Bin, Packing, kind}
use Rattle.packing.specs.Placing.{class_of, target, takes, placed}
use Rattle.packing.specs.Settling.{settling}
use Rattle.packing.proofs.Weights.{keep_few, weight_ones, put_weight}
use Rattle.packing.proofs.Settling.{settled_weight}
use Rattle.ledger.specs.declared.Row.{Row}
use Rattle.ledger.specs.Rows.{places, blank, row_at}
use Rattle.ledger.specs.Records.{row_of, items_held, Records}

pub record FewIn (row : Row) (most : ℕ) : Type 0 where
  pub held : row.held ≤ most
  pub a_held : row.held_a ≤ most

few_at : (o : Opening) (bins : List Bin) (i : ℕ) → FewIn (get_or (map (row_of o) bins) i blank) (total (map (λ b. length b.items) bins))
unfolding total
few_at o [] i = record { held = omega arith; a_held = omega arith }
few_at o (b ∷ bs) zero = record { held = omega arith; a_held = omega (arith, keep_few (λ j. is_a (kind o j)) b.items) }
few_at o (b ∷ bs) (suc i) = let further = few_at o bs i in record { held = omega (arith, further.held); a_held = omega (arith, further.a_held) }

pub few_held : {o : Opening} {ledger : List Row} {p : Packing} → Records o ledger p → (place : ℕ) → place < places → FewIn (row_at ledger place) (items_held p)
few_held {o = o} {p = p} k place l = rw (k.row place l) (few_at o p.bins place)

pub held_placed : (o : Opening) (p : Packing) (i : Item) → items_held (placed o p i) ≡ items_held p + 1
unfolding placed
held_placed o p i =
    omega (arith, weight_ones p.bins, weight_ones (placed o p i).bins, put_weight (λ j. 1) (takes o p i) (class_of (target o p i)) i p.bins)

pub held_settled : (named size : ℕ) (p : Packing) → items_held (settling named size p) ≡ items_held p
unfolding settling
held_settled named size p = omega (arith, weight_ones p.bins, weight_ones (settling named size p).bins, settled_weight named size (λ j. 1) p.bins)
