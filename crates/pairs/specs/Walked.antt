-- The walk over the words of both rows: one sound tried beside one picture, and all of them.
use Rattle.std.specs.Prelude.{get_or, set, ◌+◌, ◌%◌, ◌≤◌, ◌<◌, ◌≡◌}
use Rattle.packing.specs.Prelude.{ℕ, suc, Bool, true, false, List, map, reverse, length}
use Rattle.packing.specs.Limits.{most_rows}
use Rattle.packing.specs.Bins.{Item}
use Rattle.ordering.specs.declared.Order.TheVariants.{SmallestFirst}
use Rattle.sorted_sizes.specs.Words.{item_of}
use Rattle.matching.specs.Pairs.{Pair, matched}
use Rattle.matching.specs.Written.{written}

module _ (capacity : ℕ) where
  -- The item of a word of either row.
  abbrev pub item : (word : ℕ) → Item
  item = item_of SmallestFirst capacity

  -- A picture's word and a sound's: whether they are paired, and the answers then.
  pub record Tried (picture sound : ℕ) (row : List ℕ) (fits : Bool) (exit : List ℕ) : Type 0 where
    pub paired : (item picture).size + (item sound).size ≤ capacity → (fits ≡ true) × (exit ≡ set row (picture % most_rows) (suc (sound % most_rows)))
    pub passed : capacity < (item picture).size + (item sound).size → (fits ≡ false) × (exit ≡ row)

  -- The pairs of the words of one row, from the front, and those of the other, from the back.
  abbrev pub pairs_of : (pictures sounds : List ℕ) → List Pair
  pairs_of pictures sounds = matched capacity (map item pictures) (reverse (map item sounds))

  pub record Walked (pictures sounds row : List ℕ) (count : ℕ) (exit : List ℕ) : Type 0 where
    pub counted : count ≡ length (pairs_of pictures sounds)
    pub places_written : exit ≡ written (pairs_of pictures sounds) row

-- Each picture has an answer.
abbrev pub Walkable : (pictures row : List ℕ) → Type 0
Walkable pictures row = (k : ℕ) → k < length pictures → get_or pictures k 0 % most_rows < length row
