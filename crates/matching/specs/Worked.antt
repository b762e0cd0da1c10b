-- Pairings computed at capacity 10: the answers, the number of pairs, and what the call gives.
use Rattle.std.specs.Prelude.{◌≡◌, ◌∷◌}
use Rattle.packing.specs.Prelude.{ℕ, refl, List, [], map}
use Rattle.packing.specs.Refusals.{Returned, figures, refusal, pair_gives}
use Rattle.packing.specs.Rows.{check_limits, check_sizes, check_pair}
use Rattle.ordering.specs.Items.{items}
use Rattle.ordering.specs.Ordered.{insert, ordered}
use Rattle.matching.specs.Pairs.{sound_of, fitting, matched, sound_places, pair_count, pair_result, places_at_exit}

pub record Case : Type 0 where
  pub pictures : List ℕ
  pub sounds : List ℕ
  pub answers : List ℕ
  pub count : ℕ

unfoldable pub table : List Case
table =
    -- From the smallest picture: the 2 has the 8, the 5 the later 3, the 7 the earlier 3, and the 6, too large for the 5, is passed over.
    record { pictures = 7 ∷ 2 ∷ 5 ∷ []; sounds = 3 ∷ 8 ∷ 3 ∷ 6 ∷ []; answers = 1 ∷ 2 ∷ 3 ∷ []; count = 3 } ∷
    -- Of equal pictures the earlier comes first, and of equal sounds the later is taken first.
    record { pictures = 5 ∷ 5 ∷ 5 ∷ []; sounds = 4 ∷ 4 ∷ 6 ∷ []; answers = 2 ∷ 1 ∷ 0 ∷ []; count = 2 } ∷
    -- What fits exactly, and what is one unit too much.
    record { pictures = 4 ∷ []; sounds = 6 ∷ 7 ∷ 6 ∷ []; answers = 3 ∷ []; count = 1 } ∷
    record { pictures = 9 ∷ 8 ∷ []; sounds = 3 ∷ []; answers = 0 ∷ 0 ∷ []; count = 0 } ∷
    record { pictures = []; sounds = 1 ∷ []; answers = []; count = 0 } ∷
    []

pub record Works : Type 0 where
  pub answers_are : map (λ c. sound_places 10 c.pictures c.sounds) table ≡ map (λ c. c.answers) table
  pub counts_are : map (λ c. pair_count 10 c.pictures c.sounds) table ≡ map (λ c. c.count) table

pub works : Works
unfolding table items insert ordered sound_of fitting matched
works = record { answers_are = refl; counts_are = refl }

-- What the call gives where so many words are lent.
abbrev pub given : (words : ℕ) (pictures sounds : List ℕ) → Returned
given words pictures sounds = pair_gives (pair_result 10 pictures sounds (check_pair 10 words pictures sounds))

pub record Gives : Type 0 where
  pub paired : given 2 (4 ∷ 5 ∷ []) (5 ∷ 5 ∷ []) ≡ figures (2 ∷ [])
  pub bad_sound : given 2 (4 ∷ 5 ∷ []) (5 ∷ 11 ∷ []) ≡ refusal 13 4
  pub few_words : given 1 (4 ∷ 5 ∷ []) (5 ∷ []) ≡ refusal 22 0
  -- Words past the last picture, and those of a refused call.
  pub past_the_last : places_at_exit 10 (5 ∷ 6 ∷ []) (5 ∷ []) (check_pair 10 3 (5 ∷ 6 ∷ []) (5 ∷ [])) (7 ∷ 7 ∷ 7 ∷ []) ≡ 1 ∷ 0 ∷ 7 ∷ []
  pub none_written : places_at_exit 10 (5 ∷ 6 ∷ []) (0 ∷ []) (check_pair 10 3 (5 ∷ 6 ∷ []) (0 ∷ [])) (7 ∷ 7 ∷ 7 ∷ []) ≡ 7 ∷ 7 ∷ 7 ∷ []

pub gives : Gives
unfolding items insert ordered sound_of fitting matched check_limits check_sizes
gives = record { paired = refl; bad_sound = refl; few_words = refl; past_the_last = refl; none_written = refl }
