-- What is promised of a pairing, of every capacity and every two rows.
use Rattle.std.specs.Prelude.{get_or, ◌+◌, ◌≤◌, ◌≡◌, ◌∷◌, ◌++◌}
use Rattle.packing.specs.Prelude.{ℕ, zero, suc, List, [], map, length, replicate, keep, Memᴰ, ◌<?◌}
use Rattle.packing.specs.Bins.{Item}
use Rattle.matching.specs.Pairs.{Pair, fitting, pairs, sound_places, pair_count}
use Rattle.matching.specs.Written.{written}

-- What stands at a place of a row, from 1.
abbrev pub at : List ℕ → (place : ℕ) → ℕ
at row zero = 0
at row (suc n) = get_or row n 0

-- No number stands in the list twice.
abbrev pub Once : List ℕ → Type 0
Once [] = Unit {0}
Once (n ∷ ns) = (Memᴰ n ns → ⊥) × Once ns

-- The place of a picture in its row, and of a sound in its own, from 1.
pub record Places : Type 0 where
  pub picture : ℕ
  pub sound : ℕ

abbrev pub places_of : Pair → Places
places_of p = record { picture = p.picture.command; sound = p.sound.command }

module _ (capacity : ℕ) (pictures sounds : List ℕ) where
  -- The places are of the two rows, and what stands there goes on one cartridge.
  pub record Fit (picture sound : ℕ) : Type 0 where
    pub picture_there : (1 ≤ picture) × (picture ≤ length pictures)
    pub sound_there : (1 ≤ sound) × (sound ≤ length sounds)
    pub fits : at pictures picture + at sounds sound ≤ capacity

  -- A way of pairing the two rows, whoever made it: no picture and no sound twice, and each pair fits.
  pub record Pairing (ps : List Places) : Type 0 where
    pub pictures_once : Once (map (λ p. p.picture) ps)
    pub sounds_once : Once (map (λ p. p.sound) ps)
    pub each_fits : (p : Places) → Memᴰ p ps → Fit p.picture p.sound

  abbrev answers : List ℕ
  answers = sound_places capacity pictures sounds

  pub record PairPromises : Type 0 where
    -- A word for each picture, and each pair that is named fits.
    pub one_each : length answers ≡ length pictures
    pub named_fit : (i : ℕ) → 1 ≤ at answers i → Fit i (at answers i)
    -- "No master is used twice": a picture has one word, and no sound stands in two.
    pub sounds_once : (i j : ℕ) → 1 ≤ at answers i → at answers i ≡ at answers j → i ≡ j
    -- The number returned is that of the words above 0.
    pub counted : length (keep (λ n. 0 <? n) answers) ≡ pair_count capacity pictures sounds
    -- "No other way of pairing gives more pairs", and this is one.
    pub is_pairing : Pairing (map places_of (pairs capacity pictures sounds))
    pub none_more : (ps : List Places) → Pairing ps → length ps ≤ pair_count capacity pictures sounds

-- Proved in ../proofs/Promises.antt.
abbrev pub PairsPromised : Type 0
PairsPromised = (capacity : ℕ) (pictures sounds : List ℕ) → PairPromises capacity pictures sounds

-- "Stopping when there is none": where a picture finds no sound, no later one would, which is no smaller. So to go on would change no answer. Proved in
-- ../proofs/Steps.antt.
abbrev pub NoneLater : Type 0
NoneLater = (capacity : ℕ) (y later : Item) (sounds : List Item) → y.size ≤ later.size → fitting capacity y sounds ≡ [] → fitting capacity later sounds ≡ []

-- The answers written pair after pair, where 0 stands for each picture, are those of the pairs. Proved in ../proofs/Written.antt.
abbrev pub WrittenAll : Type 0
WrittenAll =
    (capacity : ℕ) (pictures sounds rest : List ℕ)
    → written (pairs capacity pictures sounds) (replicate (length pictures) 0 ++ rest) ≡ sound_places capacity pictures sounds ++ rest
