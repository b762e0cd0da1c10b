-- The rows that are sorted and walked over are paired by Algorithm PM, where the answers are cleared first.
use mathlib.Core.Path.{◌≡◌, ◌∙◌, ap}
use mathlib.Core.List.{List, ◌++◌}
use Prim.Native.Nat.{ℕ}
use lib.ListN.{length, drop, replicate}
use Rattle.packing.specs.Rows.{SoundPair}
use Rattle.ordering.specs.declared.Order.TheVariants.{SmallestFirst}
use Rattle.sorted_sizes.specs.Words.{InLimits}
use Rattle.sorted_sizes.specs.Sorted.{Sorted}
use Rattle.sorted_sizes.proofs.Sorting.{sound_limits}
use Rattle.matching.specs.Pairs.{pairs, sound_places}
use Rattle.matching.specs.Written.{written}
use Rattle.matching.proofs.Written.{written_all}
use Rattle.pairs.specs.Walked.{pairs_of, Walked}

module _ (c : ℕ) (pictures sounds answers : List ℕ) (g : SoundPair c (length answers) pictures sounds) where
  pub pictures_limits : InLimits c pictures
  pictures_limits = sound_limits c pictures g.capacity_is_good g.pictures_few g.pictures_good

  pub sounds_limits : InLimits c sounds
  sounds_limits = sound_limits c sounds g.capacity_is_good g.sounds_few g.sounds_good

  module _ (rising falling : List ℕ) (s : Sorted SmallestFirst c pictures rising) (t : Sorted SmallestFirst c sounds falling)
      (row : List ℕ) (e : row ≡ replicate (length pictures) 0 ++ drop (length pictures) answers) where
    the_pairs : pairs_of c rising falling ≡ pairs c pictures sounds
    the_pairs = rw (s.in_order, t.in_order)

    module _ (count : ℕ) (exit : List ℕ) (w : Walked c rising falling row count exit) where
      pub walked_answers : exit ≡ sound_places c pictures sounds ++ drop (length pictures) answers
      walked_answers =
          w.places_written ∙ ap (λ ps. written ps row) the_pairs ∙ ap (written (pairs c pictures sounds)) e
          ∙ written_all c pictures sounds (drop (length pictures) answers)
