-- What the calls over rows of sizes refuse (document 02, from point 10 on).
use Rattle.std.specs.Prelude.{◌≤◌, ◌≡◌, ◌↔◌, ◌∷◌, ◌++◌, if◌then◌else◌}
use Rattle.packing.specs.Prelude.{ℕ, suc, max, true, List, [], Memᴰ, length, ◌≤?◌, RowReason}
use Rattle.packing.specs.Refusing.{RowResult, refuse, pass, pass_if, ◌and_then◌}
use Rattle.packing.specs.Limits.{within, capacity_good, most_rows}

-- 11, and 12 where the longest row has so many sizes.
unfoldable pub check_limits : (capacity longest : ℕ) → RowResult
check_limits capacity longest = pass_if (capacity_good capacity) RowReason.CapacityOutside 0 and_then pass_if (longest ≤? most_rows) RowReason.TooLong 0

-- 13, at the first size that is 0 or above the capacity, where the places are counted on from this one.
unfoldable pub check_sizes : (capacity place : ℕ) (sizes : List ℕ) → RowResult
check_sizes capacity place [] = pass
check_sizes capacity place (s ∷ ss) = if within 1 capacity s then check_sizes capacity (suc place) ss else refuse RowReason.SizeOutside place

-- 22, where so many answer words are lent, and so many are needed.
abbrev pub check_words : (needed words : ℕ) → RowResult
check_words needed words = pass_if (needed ≤? words) RowReason.TooFewWords 0

-- "22 with place 0, answer row shorter than the sizes, after the checker's 11, 12 (the row alone) and 13 in that order." So many answer words are lent.
abbrev pub check_row : (capacity words : ℕ) (sizes : List ℕ) → RowResult
check_row capacity words sizes =
    check_limits capacity (length sizes) and_then check_sizes capacity 1 sizes and_then check_words (length sizes) words

-- "Refusals 11, 12 (either row above 4,096), 13 (pictures, then sounds, whose places count on after the last picture) and 22 (fewer answer words than
-- pictures) apply in that order."
abbrev pub check_pair : (capacity words : ℕ) (pictures sounds : List ℕ) → RowResult
check_pair capacity words pictures sounds =
    check_limits capacity (max (length pictures) (length sounds)) and_then
    check_sizes capacity 1 (pictures ++ sounds) and_then
    check_words (length pictures) words

-- What a row is that is not refused.
pub record SoundRow (capacity words : ℕ) (sizes : List ℕ) : Type 0 where
  pub capacity_is_good : capacity_good capacity ≡ true
  pub rows_good : length sizes ≤ most_rows
  pub sizes_good : (s : ℕ) → Memᴰ s sizes → (1 ≤ s) × (s ≤ capacity)
  pub words_enough : length sizes ≤ words

-- A row is refused exactly when it is not such a one. Proved in ../proofs/Rows.antt.
abbrev pub RowsExact : Type 0
RowsExact = (capacity words : ℕ) (sizes : List ℕ) → (check_row capacity words sizes ≡ pass) ↔ SoundRow capacity words sizes

-- What two rows are that are not refused.
pub record SoundPair (capacity words : ℕ) (pictures sounds : List ℕ) : Type 0 where
  pub capacity_is_good : capacity_good capacity ≡ true
  pub pictures_few : length pictures ≤ most_rows
  pub sounds_few : length sounds ≤ most_rows
  pub pictures_good : (s : ℕ) → Memᴰ s pictures → (1 ≤ s) × (s ≤ capacity)
  pub sounds_good : (s : ℕ) → Memᴰ s sounds → (1 ≤ s) × (s ≤ capacity)
  pub words_enough : length pictures ≤ words

-- Two rows are refused exactly when they are not such. Proved in ../proofs/Rows.antt.
abbrev pub PairExact : Type 0
PairExact =
    (capacity words : ℕ) (pictures sounds : List ℕ)
    → (check_pair capacity words pictures sounds ≡ pass) ↔ SoundPair capacity words pictures sounds
