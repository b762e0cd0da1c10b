-- The opening of a stream, test by test.
use mathlib.Core.Path.{◌≡◌, refl}
use mathlib.Core.Bool.{true, false, false≢true}
use mathlib.Core.List.{List, [], ◌∷◌}
use Prim.Native.Nat.{ℕ, ◌≤◌, ◌<◌}
use native.Mathlib.Omega.{arith}
use lib.ListN.{length, drop}
use borrow.Author.Tests.{lt-ltb, le-ltb}
use Rattle.packing.specs.Prelude.{NoOpening, CutShort, OutsideLimits}
use Rattle.packing.specs.Limits.{opening_good, most_commands}
use Rattle.packing.specs.Streams.{is_opening, opening_width, first_byte, opening_length, behind_opening, opening_of, refused, commands, read}

pub read_none : (s : List ℕ) → length s ≡ 0 → read s ≡ refused NoOpening 0
unfolding read
read_none [] h = refl
read_none (b ∷ s) h = absurd (omega arith)

pub read_other : (s : List ℕ) → is_opening (first_byte s) ≡ false → read s ≡ refused NoOpening 0
unfolding read
read_other [] t = refl
read_other (b ∷ s) t = rw t

pub read_cut : (s : List ℕ) → is_opening (first_byte s) ≡ true → length s < opening_length s → read s ≡ refused CutShort 0
unfolding read
read_cut [] t l = absurd (false≢true t)
read_cut (b ∷ s) t l =
    let short : length s < opening_width b = omega arith in
    rw (t, lt-ltb (length s) (opening_width b) short)

module _ (b : ℕ) (s : List ℕ) (t : is_opening b ≡ true) (l : opening_width b ≤ length s) where
  outside : opening_good (opening_of b s) ≡ false → read (b ∷ s) ≡ refused OutsideLimits 0
  unfolding read
  outside e = rw (t, le-ltb (length s) (opening_width b) l, e)

  good : opening_good (opening_of b s) ≡ true → read (b ∷ s) ≡ commands (opening_of b s) most_commands (opening_length (b ∷ s)) (behind_opening (b ∷ s))
  unfolding read
  good e = rw (t, le-ltb (length s) (opening_width b) l, e)

pub read_outside : (s : List ℕ) → opening_length s ≤ length s → is_opening (first_byte s) ≡ true → opening_good (opening_of (first_byte s) (drop 1 s)) ≡ false
    → read s ≡ refused OutsideLimits 0
read_outside [] h t e = absurd (omega arith)
read_outside (b ∷ s) h t e = outside b s t (omega arith) e

pub read_good : (s : List ℕ) → opening_length s ≤ length s → is_opening (first_byte s) ≡ true → opening_good (opening_of (first_byte s) (drop 1 s)) ≡ true
    → read s ≡ commands (opening_of (first_byte s) (drop 1 s)) most_commands (opening_length s) (behind_opening s)
read_good [] h t e = absurd (omega arith)
read_good (b ∷ s) h t e = good b s t (omega arith) e
