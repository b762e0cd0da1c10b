-- Algorithm PM: each picture, from the smallest, with the largest sound that fits beside it; and what the call of a pairing gives.
use Rattle.std.specs.Prelude.{◌+◌, ◌∷◌, ◌++◌, if◌then◌else◌}
use Rattle.packing.specs.Prelude.{ℕ, Bool, List, [], map, reverse, length, drop, ◌=?◌, ◌≤?◌, Ok, Err}
use Rattle.packing.specs.Refusing.{RowResult, PairResult}
use Rattle.packing.specs.Bins.{Item}
use Rattle.ordering.specs.Items.{items}
use Rattle.ordering.specs.Ordered.{smallest_first}

pub record Pair : Type 0 where
  pub picture : Item
  pub sound : Item

-- The place of the sound that the picture of this place has, or 0.
unfoldable pub sound_of : (place : ℕ) → List Pair → ℕ
sound_of place [] = 0
sound_of place (p ∷ ps) = if p.picture.command =? place then p.sound.command else sound_of place ps

module _ (capacity : ℕ) where
  -- The two go on one cartridge.
  abbrev pub fit : (picture sound : Item) → Bool
  fit y z = y.size + z.size ≤? capacity

  -- Of sounds from the largest down, those from the first on that fits beside the picture.
  unfoldable pub fitting : (picture : Item) (sounds : List Item) → List Item
  fitting y [] = []
  fitting y (z ∷ zs) = if fit y z then z ∷ zs else fitting y zs

  -- "Each with the largest sound that fits among those counted smaller than the last one used, stopping when there is none." The sounds, from the largest
  -- down, are those counted smaller than the last one used.
  unfoldable pub matched : (pictures sounds : List Item) → List Pair
  matched [] zs = []
  matched (y ∷ ys) zs = elim (fitting y zs) [
    | [] ↦ []
    | z ∷ smaller ↦ record { picture = y; sound = z } ∷ matched ys smaller
  ]

  module _ (pictures sounds : List ℕ) where
    -- "Pictures from the smallest", and the sounds from the largest: "equal sizes in row order, the later one counted larger".
    abbrev pub pairs : List Pair
    pairs = matched (smallest_first (items 1 pictures)) (reverse (smallest_first (items 1 sounds)))

    -- "For each picture write its sound's place, from 1 in the sounds' row, or 0."
    abbrev pub sound_places : List ℕ
    sound_places = map (λ i. sound_of i.command pairs) (items 1 pictures)

    -- "The number of pairs."
    abbrev pub pair_count : ℕ
    pair_count = length pairs

    -- What is returned, by what the checks of the rows come to.
    abbrev pub pair_result : RowResult → PairResult
    pair_result (Ok passed) = Ok pair_count
    pair_result (Err refusal) = Err refusal

    -- The answer row at exit: words past the last picture are untouched, and of a refused call all are.
    abbrev pub places_at_exit : RowResult → (row : List ℕ) → List ℕ
    places_at_exit (Ok passed) row = sound_places ++ drop (length pictures) row
    places_at_exit (Err refusal) row = row
