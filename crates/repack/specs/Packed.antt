-- The items of a row's words packed one after the other.
use Rattle.std.specs.Prelude.{◌/◌, get_or, ◌%◌, ◌≤◌, ◌<◌, ◌≡◌}
use Rattle.packing.specs.Prelude.{ℕ, List, map, foldl, length}
use Rattle.packing.specs.Limits.{most_capacity, most_rows}
use Rattle.packing.specs.Bins.{Item, empty, opened}
use Rattle.decreasing.specs.Repack.{next}
use Rattle.decreasing.specs.Written.{written}
use Rattle.ordering.specs.declared.Order.TheVariants.{LargestFirst}
use Rattle.sorted_sizes.specs.Words.{item_of}

-- Each of the words has a size from 1 to the capacity, and a place among the answers.
pub record Packable (capacity : ℕ) (words answers : List ℕ) : Type 0 where
  pub few : length words ≤ most_rows
  pub capacity_most : capacity ≤ most_capacity
  pub each : (k : ℕ) → k < length words → (get_or words k 0 / most_rows < capacity) × (get_or words k 0 % most_rows < length answers)

-- Their items.
abbrev pub items_of : (capacity : ℕ) (words : List ℕ) → List Item
items_of capacity words = map (item_of LargestFirst capacity) words

pub record Packed (capacity : ℕ) (words row : List ℕ) (count : ℕ) (exit : List ℕ) : Type 0 where
  pub counted : count ≡ opened (foldl (next capacity) empty (items_of capacity words))
  pub numbers_written : exit ≡ written capacity empty (items_of capacity words) row
