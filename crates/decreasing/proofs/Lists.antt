-- Lists: what holds of a list cut in two, and of lists poured into one.
use Prim.Native.Nat.{ℕ, ◌+◌, ◌≤◌}
use mathlib.Core.Path.{◌≡◌, refl}
use mathlib.Core.List.{List, [], ◌∷◌, ◌++◌, flatten}
use native.Mathlib.Omega.{arith}
use lib.ListN.{length, length-append}
use Rattle.worst_case.proofs.Lists.{All, Pairs, sum, measure, loads, items}

-- From 1 to the capacity.
abbrev pub Within : (c n : ℕ) → Type 0
Within c n = (1 ≤ n) × (n ≤ c)

-- What holds of all, or of every two in order, where the list is cut in two.
module _ {A : Type 0} where
  pub rest : (Q : A → Type 0) (S T : List A) → All Q (S ++ T) → All Q T
  rest Q [] T h = h
  rest Q (a ∷ S) T h = rest Q S T h.1

  pub rest_pairs : (R : A → A → Type 0) (S T : List A) → Pairs R (S ++ T) → Pairs R T
  rest_pairs R [] T h = h
  rest_pairs R (a ∷ S) T h = rest_pairs R S T h.1

  pub cross : (R : A → A → Type 0) (S T : List A) → Pairs R (S ++ T) → All (λ a. All (R a) T) S
  cross R [] T h = tt
  cross R (a ∷ S) T h = (rest (R a) S T h.0, cross R S T h.1)

pub measure_both : (f : List ℕ → ℕ) (S T : List (List ℕ)) → measure f (S ++ T) ≡ measure f S + measure f T
measure_both f [] T = omega arith
measure_both f (b ∷ S) T = omega (arith, measure_both f S T)

-- The sizes of some bins in one list.
sum_both : (b l : List ℕ) → sum (b ++ l) ≡ sum b + sum l
sum_both [] l = omega arith
sum_both (s ∷ b) l = omega (arith, sum_both b l)

all_both : (Q : ℕ → Type 0) (b l : List ℕ) → All Q b → All Q l → All Q (b ++ l)
all_both Q [] l h r = r
all_both Q (s ∷ b) l h r = (h.0, all_both Q b l h.1 r)

pub record Poured (T : List (List ℕ)) : Type 0 where
  pub its_sum : sum (flatten T) ≡ loads T
  pub its_length : length (flatten T) ≡ items T

pub poured : (T : List (List ℕ)) → Poured T
unfolding flatten
poured [] = record { its_sum = refl; its_length = refl }
poured (b ∷ T) =
    let r = poured T in
    record { its_sum = omega (arith, sum_both b (flatten T), r.its_sum); its_length = omega (arith, length-append b (flatten T), r.its_length) }

pub all_poured : (Q : ℕ → Type 0) (T : List (List ℕ)) → All (All Q) T → All Q (flatten T)
unfolding flatten
all_poured Q [] h = tt
all_poured Q (b ∷ T) h = all_both Q b (flatten T) h.0 (all_poured Q T h.1)
