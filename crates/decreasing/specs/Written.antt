-- The answers as they are written: an item's number goes to its place when the item is packed. It is what a function that packs one item after the other
-- promises; Claims says that the row is then the one of Repack.
use Rattle.std.specs.Prelude.{◌-◌, set, ◌∷◌}
use Rattle.packing.specs.Prelude.{ℕ, List, []}
use Rattle.packing.specs.Bins.{Item, Packing}
use Rattle.decreasing.specs.Repack.{bin_for, next}

module _ (capacity : ℕ) where
  -- These items go to a packing one after the other.
  unfoldable pub written : Packing → List Item → (row : List ℕ) → List ℕ
  written p [] row = row
  written p (i ∷ is) row = written (next capacity p i) is (set row (i.command - 1) (bin_for capacity i p))
