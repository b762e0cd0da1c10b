-- Rows of sizes are refused exactly when they are not sound: each test of the chain as the inequality that it is.
use Prim.Native.Nat.{ℕ, suc, ◌+◌, ◌≤◌, max}
use mathlib.Core.Path.{◌≡◌, refl}
use mathlib.Core.Bool.{Bool, true, false}
use mathlib.Core.List.Memᴰ
use mathlib.Core.List.{List, [], ◌∷◌, ◌++◌, Memᴰ}
use native.Mathlib.Omega.{arith}
use borrow.Author.Tests.{leb-true, le-leb}
use lib.Dec.{leb}
use lib.ListN.{length}
use Rattle.std.specs.Prelude.{if◌then◌else◌}
use Rattle.packing.specs.Prelude.{RowReason, Ok, Err}
use Rattle.packing.specs.Refusing.{RowResult, refuse, pass, pass_if, ◌and_then◌}
use Rattle.packing.specs.Limits.{within, capacity_good, most_rows}
use Rattle.packing.specs.Rows.{check_limits, check_sizes, check_words, check_row, check_pair, SoundRow, RowsExact, SoundPair, PairExact}
use Rattle.packing.proofs.Tests.{clash, each_cons, each_append}
use Rattle.packing.proofs.Limits.{within_limits, limits_within}

module _ (c : ℕ) where
  none_bad : (place : ℕ) (sizes : List ℕ) → check_sizes c place sizes ≡ pass → (s : ℕ) → Memᴰ s sizes → (1 ≤ s) × (s ≤ c)
  unfolding check_sizes
  none_bad place [] h = λ s m. absurd (Memᴰ.not-nil m)
  none_bad place (s ∷ ss) h = go (within 1 c s) refl h (none_bad (suc place) ss)
    where
      go : (t : Bool) → within 1 c s ≡ t → (if t then check_sizes c (suc place) ss else refuse RowReason.SizeOutside place) ≡ pass
          → (check_sizes c (suc place) ss ≡ pass → (x : ℕ) → Memᴰ x ss → (1 ≤ x) × (x ≤ c))
          → (x : ℕ) → Memᴰ x (s ∷ ss) → (1 ≤ x) × (x ≤ c)
      go true e h r = each_cons (λ x. (1 ≤ x) × (x ≤ c)) (within_limits 1 c s e) (r h)
      go false e h r = clash (cc)

  all_good : (place : ℕ) (sizes : List ℕ) → ((s : ℕ) → Memᴰ s sizes → (1 ≤ s) × (s ≤ c)) → check_sizes c place sizes ≡ pass
  unfolding check_sizes
  all_good place [] h = refl
  all_good place (s ∷ ss) h =
      let here = h s (Memᴰ.head refl) in
      rw (limits_within 1 c s here.0 here.1) (all_good (suc place) ss (λ x m. h x (Memᴰ.tail m)))

-- What the tests ask.
record Passes (c longest : ℕ) (sizes : List ℕ) (needed words : ℕ) : Type 0 where
  capacity_is_good : capacity_good c ≡ true
  rows_good : longest ≤ most_rows
  sizes_good : (s : ℕ) → Memᴰ s sizes → (1 ≤ s) × (s ≤ c)
  words_enough : needed ≤ words

-- In a chain that comes to nothing, none refuses.
none_refuses : (first later : RowResult) → (first and_then later) ≡ pass → (first ≡ pass) × (later ≡ pass)
none_refuses (Ok tt) later h = (refl, h)
none_refuses (Err r) later h = clash (cc)

good_where : (t : Bool) (reason : RowReason) → pass_if t reason 0 ≡ pass → t ≡ true
good_where true reason h = refl
good_where false reason h = clash (cc)

module _ (c longest : ℕ) where
  limits_good : check_limits c longest ≡ pass → (capacity_good c ≡ true) × (longest ≤ most_rows)
  unfolding check_limits
  limits_good h =
      let both = none_refuses (pass_if (capacity_good c) RowReason.CapacityOutside 0) (pass_if (leb longest most_rows) RowReason.TooLong 0) h in
      (good_where (capacity_good c) RowReason.CapacityOutside both.0, leb-true longest most_rows (good_where (leb longest most_rows) RowReason.TooLong both.1))

  pub rows_few : check_limits c longest ≡ pass → longest ≤ most_rows
  rows_few h = (limits_good h).1

module _ (c longest : ℕ) (sizes : List ℕ) (needed words : ℕ) where
  abbrev chain : RowResult
  chain = check_limits c longest and_then check_sizes c 1 sizes and_then check_words needed words

  sound_passes : chain ≡ pass → Passes c longest sizes needed words
  sound_passes h =
      let both = none_refuses (check_limits c longest) (check_sizes c 1 sizes and_then check_words needed words) h in
      let rest = none_refuses (check_sizes c 1 sizes) (check_words needed words) both.1 in
      record {
        capacity_is_good = (limits_good c longest both.0).0;
        rows_good = rows_few c longest both.0;
        sizes_good = none_bad c 1 sizes rest.0;
        words_enough = leb-true needed words (good_where (leb needed words) RowReason.TooFewWords rest.1);
      }

  passes_sound : Passes c longest sizes needed words → chain ≡ pass
  unfolding check_limits
  passes_sound g =
      rw (g.capacity_is_good, le-leb longest most_rows g.rows_good, all_good c 1 sizes g.sizes_good, le-leb needed words g.words_enough)

module _ (c words : ℕ) (sizes : List ℕ) where
  pub passed_sound : check_row c words sizes ≡ pass → SoundRow c words sizes
  passed_sound h =
      let g = sound_passes c (length sizes) sizes (length sizes) words h in
      record { capacity_is_good = g.capacity_is_good; rows_good = g.rows_good; sizes_good = g.sizes_good; words_enough = g.words_enough }

  pub sound_passed : SoundRow c words sizes → check_row c words sizes ≡ pass
  sound_passed g =
      passes_sound c (length sizes) sizes (length sizes) words
      (record { capacity_is_good = g.capacity_is_good; rows_good = g.rows_good; sizes_good = g.sizes_good; words_enough = g.words_enough })

pub rows_exact : RowsExact
rows_exact c words sizes = (passed_sound c words sizes, sound_passed c words sizes)

module _ (c words : ℕ) (pictures sounds : List ℕ) where
  abbrev longest : ℕ
  longest = max (length pictures) (length sounds)

  pub passed_pair : check_pair c words pictures sounds ≡ pass → SoundPair c words pictures sounds
  passed_pair h =
      let g = sound_passes c longest (pictures ++ sounds) (length pictures) words h in
      record {
        capacity_is_good = g.capacity_is_good;
        pictures_few = omega (arith, g.rows_good);
        sounds_few = omega (arith, g.rows_good);
        pictures_good = λ s m. g.sizes_good s (Memᴰ.append_left sounds m);
        sounds_good = λ s m. g.sizes_good s (Memᴰ.append_right pictures m);
        words_enough = g.words_enough;
      }

  pair_passed : SoundPair c words pictures sounds → check_pair c words pictures sounds ≡ pass
  pair_passed g =
      passes_sound c longest (pictures ++ sounds) (length pictures) words
      (record {
        capacity_is_good = g.capacity_is_good;
        rows_good = omega (arith, g.pictures_few, g.sounds_few);
        sizes_good = each_append (λ s. (1 ≤ s) × (s ≤ c)) pictures sounds g.pictures_good g.sounds_good;
        words_enough = g.words_enough;
      })

pub pair_exact : PairExact
pair_exact c words pictures sounds = (passed_pair c words pictures sounds, pair_passed c words pictures sounds)

-- Two rows as one: the places of the second count on.
pub check_both : (c place : ℕ) (first second : List ℕ) → check_sizes c place (first ++ second) ≡ (check_sizes c place first and_then check_sizes c (place + length first) second)
unfolding check_sizes
check_both c place [] second = let here : place + 0 ≡ place = omega arith in rw here
check_both c place (s ∷ ss) second = go (within 1 c s) (check_both c (suc place) ss second)
  where
    go : (t : Bool) → check_sizes c (suc place) (ss ++ second) ≡ (check_sizes c (suc place) ss and_then check_sizes c (suc place + length ss) second)
        → (if t then check_sizes c (suc place) (ss ++ second) else refuse RowReason.SizeOutside place)
        ≡ ((if t then check_sizes c (suc place) ss else refuse RowReason.SizeOutside place) and_then check_sizes c (place + suc (length ss)) second)
    go true r = let on : place + suc (length ss) ≡ suc place + length ss = omega arith in rw on r
    go false r = refl
