-- First fit on a plain list, by places: what is found is the first place with enough, and nothing is found where no place has.
use mathlib.Core.Path.{◌≡◌, refl, ap}
use mathlib.Core.List.{List, [], ◌∷◌}
use Prim.Native.Nat.{ℕ, zero, suc, ◌+◌, ◌≤◌, ◌<◌}
use native.Mathlib.Decide.{dec_le}
use native.Mathlib.Omega.{arith}
use lib.Dec.{leb, ltb}
use mathlib.Core.Bool.{Bool, true, false, not, cond}
use lib.ListN.{length, get_or}
use borrow.Author.Tests.{le-leb, lt-leb, lt-ltb, le-ltb}
use Rattle.std.specs.Prelude.{Option, Some, None}
use Rattle.std.specs.Option.{option_map}
use Rattle.std.specs.List.{position_or_len}
use Rattle.tournament.specs.LowestFit.{lowest_fit}

-- Place i is the first of the list that holds need or more.
pub record Lowest (need : ℕ) (vs : List ℕ) (i : ℕ) : Type 0 where
  pub inside : i < length vs
  pub enough : need ≤ get_or vs i 0
  pub before : (k : ℕ) → k < i → get_or vs k 0 < need

-- No place of the list does.
abbrev pub Lacking : (need : ℕ) → List ℕ → Type 0
Lacking need vs = (k : ℕ) → k < length vs → get_or vs k 0 < need

-- What a search says of the list, by its answer.
abbrev pub Meaning : (need : ℕ) → List ℕ → Option ℕ → Type 0
Meaning need vs (Some i) = Lowest need vs i
Meaning need vs None = Lacking need vs

-- First fit by the first place and those after it.
one_on : (n l : ℕ) → cond (ltb (1 + n) (suc l)) (Some (1 + n)) None ≡ option_map suc (cond (ltb n l) (Some n) None)
one_on n l = elim (dec_le l n) [
  | yes y ↦ rw (le-ltb n l y, le-ltb (1 + n) (suc l) (omega arith))
  | no y ↦ rw (lt-ltb n l (omega arith), lt-ltb (1 + n) (suc l) (omega arith)) (ap Some (omega arith))
]

pub fit_cons : (need v : ℕ) (vs : List ℕ) → lowest_fit need (v ∷ vs) ≡ cond (leb need v) (Some 0) (option_map suc (lowest_fit need vs))
unfolding lowest_fit
fit_cons need v vs = go (leb need v)
  where
    go : (t : Bool) → (let n = cond (not t) (1 + position_or_len (leb need) vs) 0 in cond (ltb n (suc (length vs))) (Some n) None)
        ≡ cond t (Some 0) (option_map suc (cond (ltb (position_or_len (leb need) vs) (length vs)) (Some (position_or_len (leb need) vs)) None))
    go true = rw (lt-ltb 0 (suc (length vs)) (omega arith))
    go false = one_on (position_or_len (leb need) vs) (length vs)

-- Too little at the first place, and at the n after it.
none_before : (need v : ℕ) (vs : List ℕ) (n : ℕ) → v < need → ((k : ℕ) → k < n → get_or vs k 0 < need)
    → (k : ℕ) → k < suc n → get_or (v ∷ vs) k 0 < need
none_before need v vs n l before zero b = l
none_before need v vs n l before (suc k) b = before k (omega arith)

one_further : (need v : ℕ) (vs : List ℕ) (f : Option ℕ) → v < need → Meaning need vs f → Meaning need (v ∷ vs) (option_map suc f)
one_further need v vs (Some i) l m = record {
  inside = omega (arith, m.inside);
  enough = m.enough;
  before = none_before need v vs i l m.before;
}
one_further need v vs None l m = none_before need v vs (length vs) l m

pub meaning : (need : ℕ) (vs : List ℕ) → Meaning need vs (lowest_fit need vs)
unfolding lowest_fit
meaning need [] = λ k b. absurd (omega arith)
meaning need (v ∷ vs) = elim (dec_le need v) [
  | yes y ↦ rw (fit_cons, le-leb need v y) (record { inside = omega arith; enough = y; before = λ k b. absurd (omega arith) })
  | no y ↦ rw (fit_cons, lt-leb need v (omega (arith, y))) (one_further need v vs (lowest_fit need vs) (omega (arith, y)) (meaning need vs))
]

-- Only what first fit answers has its meaning.
pub meant : (need : ℕ) (vs : List ℕ) (f : Option ℕ) → Meaning need vs f → f ≡ lowest_fit need vs
unfolding lowest_fit
meant need [] (Some i) m = absurd (omega (arith, m.inside))
meant need [] None m = refl
meant need (v ∷ vs) (Some zero) m = rw (fit_cons, le-leb need v m.enough)
meant need (v ∷ vs) (Some (suc i)) m =
    let later : Lowest need vs i = record { inside = omega (arith, m.inside); enough = m.enough; before = λ k b. m.before (suc k) (omega arith) } in
    rw (fit_cons, lt-leb need v (m.before zero (omega arith))) (ap (option_map suc) (meant need vs (Some i) later))
meant need (v ∷ vs) None m = rw (fit_cons, lt-leb need v (m zero (omega arith))) (ap (option_map suc) (meant need vs None (λ k b. m (suc k) (omega arith))))
