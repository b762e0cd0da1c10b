-- A figure for each t: the pictures below t, and the sounds that fit beside t. No pairing has more pairs: in each pair one of the two is counted, and no
-- place is used twice.
use Prim.Native.Nat.{ℕ, zero, suc, ◌+◌, ◌≤◌}
use mathlib.Core.Path.{◌≡◌, refl}
use mathlib.Core.Bool.{Bool}
use mathlib.Core.List.{List, [], ◌∷◌, map, Memᴰ}
use native.Mathlib.Omega.{arith}
use native.Mathlib.Decide.{dec_le}
use borrow.Author.Tests.{le-leb, lt-ltb}
use lib.Dec.{leb, ltb}
use lib.ListN.{length, get_or, set}
use lib.Seq.{get_or-set_other}
use Rattle.packing.specs.Prelude.{total}
use Rattle.packing.proofs.Weights.{one_for}
use Rattle.matching.specs.Claims.{at, Once, Places, Fit, Pairing}

-- What stands at some places of a row, added up: no more than the whole, if no place is taken twice.
picked : (row places : List ℕ) → ℕ
picked row [] = 0
picked row (n ∷ ns) = at row n + picked row ns

clear : List ℕ → (place : ℕ) → List ℕ
clear row zero = row
clear row (suc n) = set row n 0

set_total : (row : List ℕ) (n : ℕ) → total row ≡ get_or row n 0 + total (set row n 0)
unfolding total
set_total [] n = refl
set_total (s ∷ row) zero = omega arith
set_total (s ∷ row) (suc n) = omega (arith, set_total row n)

clear_total : (row : List ℕ) (n : ℕ) → total row ≡ at row n + total (clear row n)
unfolding clear
clear_total row zero = omega arith
clear_total row (suc n) = set_total row n

clear_other : (row : List ℕ) (n m : ℕ) → (n ≡ m → ⊥) → at (clear row n) m ≡ at row m
unfolding clear
clear_other row zero m h = refl
clear_other row (suc n) zero h = refl
clear_other row (suc n) (suc m) h = get_or-set_other row n m 0 0 (λ e. h (omega arith))

clear_picked : (row : List ℕ) (n : ℕ) (ns : List ℕ) → (Memᴰ n ns → ⊥) → picked (clear row n) ns ≡ picked row ns
unfolding picked
clear_picked row n [] h = refl
clear_picked row n (m ∷ ns) h =
    omega (arith, clear_other row n m (λ e. h (Memᴰ.head e)), clear_picked row n ns (λ r. h (Memᴰ.tail r)))

picked_few : (row places : List ℕ) → Once places → picked row places ≤ total row
unfolding picked
picked_few row [] h = omega arith
picked_few row (n ∷ ns) h = omega (arith, clear_total row n, clear_picked row n ns h.0, picked_few (clear row n) ns h.1)

-- 1 where a size of the row passes a test.
abbrev marks : (test : ℕ → Bool) → List ℕ → List ℕ
marks test row = map (one_for test) row

at_marks : (test : ℕ → Bool) (row : List ℕ) (n : ℕ) → 1 ≤ n → n ≤ length row → at (marks test row) n ≡ one_for test (at row n)
at_marks test row zero h r = absurd (omega arith)
at_marks test [] (suc n) h r = absurd (omega arith)
at_marks test (s ∷ row) (suc zero) h r = refl
at_marks test (s ∷ row) (suc (suc n)) h r = at_marks test row (suc n) (omega arith) (omega arith)

module _ (c t : ℕ) where
  abbrev pub is_below : (size : ℕ) → Bool
  is_below s = ltb s t

  abbrev pub is_beside : (size : ℕ) → Bool
  is_beside s = leb (s + t) c

  module _ (pictures sounds : List ℕ) where
    one_of_two : (i j : ℕ) → Fit c pictures sounds i j → 1 ≤ at (marks is_below pictures) i + at (marks is_beside sounds) j
    one_of_two i j h =
        rw (at_marks is_below pictures i h.picture_there.0 h.picture_there.1, at_marks is_beside sounds j h.sound_there.0 h.sound_there.1)
        (elim (dec_le t (at pictures i)) [
          | yes p ↦ rw (le-leb (at sounds j + t) c (omega (arith, h.fits))) (omega arith)
          | no p ↦ rw (lt-ltb (at pictures i) t (omega arith)) (omega arith)
        ])

    each_counted : (ps : List Places) → ((p : Places) → Memᴰ p ps → Fit c pictures sounds p.picture p.sound)
        → length ps ≤ picked (marks is_below pictures) (map (λ p. p.picture) ps) + picked (marks is_beside sounds) (map (λ p. p.sound) ps)
    unfolding picked
    each_counted [] h = omega arith
    each_counted (p ∷ ps) h =
        omega (arith, one_of_two p.picture p.sound (h p (Memᴰ.head refl)), each_counted ps (λ q m. h q (Memᴰ.tail m)))

    pub pairing_few : (ps : List Places) → Pairing c pictures sounds ps → length ps ≤ total (marks is_below pictures) + total (marks is_beside sounds)
    pairing_few ps h =
        omega
        (arith, each_counted ps h.each_fits, picked_few (marks is_below pictures) (map (λ p. p.picture) ps) h.pictures_once, picked_few (marks is_beside sounds) (map (λ p. p.sound) ps) h.sounds_once)
