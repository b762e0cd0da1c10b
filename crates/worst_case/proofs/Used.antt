-- A plan uses at most as many bins as its entries have numbers to name: a plan that passes with k, at most k.
use Prim.Native.Nat.{ℕ, zero, suc, ◌+◌, ◌≤◌}
use mathlib.Core.Path.{◌≡◌, refl, ap, ◌∙◌}
use mathlib.Core.Bool.{Bool, true, false, ◌||◌, false≢true}
use mathlib.Core.List.{List, [], ◌∷◌, Memᴰ}
use native.Mathlib.Omega.{arith}
use borrow.Author.Tests.{eqb-true, eqb-false}
use lib.Dec.{eqb}
use Rattle.packing.specs.declared.{Entry.Entry}
use Rattle.std.specs.Prelude.{if◌then◌else◌}
use Rattle.packing.specs.Prelude.{any}
use Rattle.packing.specs.Refusing.{pass}
use Rattle.packing.specs.Plans.{check}
use Rattle.packing.specs.Compared.{used}
use Rattle.worst_case.proofs.Above.{bit}
use Rattle.worst_case.proofs.PlanFits.{passed_fits}

-- How many of the numbers from 1 to k pass.
passing : (k : ℕ) → (ℕ → Bool) → ℕ
passing zero test = 0
passing (suc k) test = bit (test (suc k)) + passing k test

passing_few : (k : ℕ) (test : ℕ → Bool) → passing k test ≤ k
unfolding passing
passing_few zero test = omega arith
passing_few (suc k) test = go (test (suc k)) (passing_few k test)
  where
    go : (t : Bool) → passing k test ≤ k → bit t + passing k test ≤ suc k
    go true h = omega arith
    go false h = omega arith

-- With one number more that passes.
module _ (b : ℕ) (test : ℕ → Bool) where
  abbrev more : ℕ → Bool
  more n = eqb b n || test n

  passing_grows : (k : ℕ) → passing k test ≤ passing k more
  unfolding passing
  passing_grows zero = omega arith
  passing_grows (suc k) = go (eqb b (suc k)) (test (suc k)) (passing_grows k)
    where
      go : (a t : Bool) → passing k test ≤ passing k more → bit t + passing k test ≤ bit (a || t) + passing k more
      go true true h = omega arith
      go true false h = omega arith
      go false t h = omega arith

  passing_adds : (k : ℕ) → 1 ≤ b → b ≤ k → (if test b then 0 else 1) + passing k test ≤ passing k more
  unfolding passing
  passing_adds zero from to = omega arith
  passing_adds (suc k) from to = go (eqb b (suc k)) (test (suc k)) refl (passing_adds k from) (passing_grows k) refl
    where
      go : (a t : Bool) → eqb b (suc k) ≡ a → (b ≤ k → (if test b then 0 else 1) + passing k test ≤ passing k more) → passing k test ≤ passing k more
          → test (suc k) ≡ t → (if test b then 0 else 1) + (bit t + passing k test) ≤ bit (a || t) + passing k more
      go true t e r g h = alike (test b) t (ap test (eqb-true b (suc k) e) ∙ h) g
        where
          alike : (u t : Bool) → u ≡ t → passing k test ≤ passing k more → (if u then 0 else 1) + (bit t + passing k test) ≤ 1 + passing k more
          alike true true q g = omega arith
          alike true false q g = omega arith
          alike false true q g = absurd (false≢true q)
          alike false false q g = omega arith
      go false t e r g h = omega (arith, r (omega (arith, eqb-false b (suc k) e)))

used_numbers : (k : ℕ) (plan : List Entry) → ((e : Entry) → Memᴰ e plan → (1 ≤ e.bin) × (e.bin ≤ k)) → used plan ≤ passing k (λ n. any (λ f. eqb f.bin n) plan)
unfolding used any
used_numbers k [] h = omega arith
used_numbers k (e ∷ es) h =
    let here = h e (Memᴰ.head refl) in
    omega (arith, used_numbers k es (λ x m. h x (Memᴰ.tail m)), passing_adds e.bin (λ n. any (λ f. eqb f.bin n) es) k here.0 here.1)

pub used_few : (k : ℕ) (plan : List Entry) → ((e : Entry) → Memᴰ e plan → (1 ≤ e.bin) × (e.bin ≤ k)) → used plan ≤ k
used_few k plan h = omega (arith, used_numbers k plan h, passing_few k (λ n. any (λ f. eqb f.bin n) plan))

pub used_declared : (c k : ℕ) (plan : List Entry) (sizes : List ℕ) → check c k plan sizes ≡ pass → used plan ≤ k
used_declared c k plan sizes ok = used_few k plan (passed_fits c k plan sizes ok).bins_good
