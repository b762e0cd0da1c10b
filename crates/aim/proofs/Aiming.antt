-- The tree that is searched has the model's target, and the phase is the model's count of B2 items modulo m.
use mathlib.Core.Path.{◌≡◌, refl, sym, ap, ◌∙◌}
use mathlib.Core.Bool.{Bool, true, false}
use Prim.Native.Nat.{ℕ, zero, suc, ◌+◌, ◌%◌, ◌≤◌, ◌<◌}
use native.Mathlib.Nat.{suc-mod, mod-lt, mod_self, mod-eq_of_lt, add-zero}
use native.Mathlib.Numerals.{add-one}
use native.Mathlib.Decide.{ℕ_discrete}
use native.Mathlib.Omega.{arith}
use lib.Dec.{eqb}
use borrow.Author.Tests.{eq-eqb, ne_eqb}
use Rattle.packing.specs.declared.{Opening.Opening, SizeClass.SizeClass}
use Rattle.packing.specs.declared.SizeClass.TheVariants.{A, B1, B2, X}
use Rattle.std.specs.Prelude.{if◌then◌else◌}
use Rattle.packing.specs.SizeClasses.{is_a, count_b2, number_of}
use Rattle.packing.specs.Placing.{to_class, beside_a, target_of}
use Rattle.aim.specs.Aims.{aim, home, tree_for, a_for, only_a, phase_after}

-- One more B2 ends the phase, or it is one further on.
b2_phase : (before phase m : ℕ) → phase ≡ before % m → phase < m → suc before % m ≡ (if eqb (phase + 1) m then 0 else phase + 1)
b2_phase before phase m e l =
    let further : suc before % m ≡ (phase + 1) % m = suc-mod before m ∙ ap (λ (x : ℕ). x % m) (omega arith) in
    elim (ℕ_discrete (phase + 1) m) [
      | yes h ↦ rw (eq-eqb (phase + 1) m h) (further ∙ ap (λ (x : ℕ). x % m) h ∙ mod_self m)
      | no h ↦ rw (ne_eqb (phase + 1) m h) (further ∙ mod-eq_of_lt (omega (arith, h)))
    ]

pub aims : (o : Opening) (before phase : ℕ) (k : SizeClass) → phase ≡ before % o.m → phase < o.m
    → target_of o before k ≡ aim (tree_for k phase o.m)
aims o before phase A e l = refl
aims o before phase B1 e l = refl
aims o before phase X e l = refl
aims o before phase B2 e l = rw (b2_phase before phase o.m e l) (go (eqb (phase + 1) o.m))
  where
    go : (last : Bool) → (if eqb (if last then 0 else phase + 1) 0 then beside_a else to_class 3) ≡ aim (if last then 0 else 3)
    go true = refl
    go false = rw (ne_eqb (phase + 1) 0 (λ q. omega arith))

-- An A adds one to the A's of its bin, and no other item does.
pub as_for : (phase m : ℕ) (k : SizeClass) → a_for (tree_for k phase m) ≡ (if is_a k then 1 else 0)
as_for phase m A = refl
as_for phase m B1 = refl
as_for phase m X = refl
as_for phase m B2 = go (eqb (phase + 1) m)
  where
    go : (last : Bool) → a_for (if last then 0 else 3) ≡ 0
    go true = refl
    go false = refl

-- So it is by its size class.
pub only_a_lem : (k : SizeClass) → number_of only_a k ≡ (if is_a k then 1 else 0)
only_a_lem A = refl
only_a_lem B1 = refl
only_a_lem B2 = refl
only_a_lem X = refl

pub only_a_few : (k : SizeClass) → number_of only_a k ≤ 1
only_a_few A = omega arith
only_a_few B1 = omega arith
only_a_few B2 = omega arith
only_a_few X = omega arith

pub a_few : (tree : ℕ) → a_for tree ≤ 1
a_few tree = go (eqb tree 1)
  where
    go : (x : Bool) → (if x then 1 else 0) ≤ 1
    go true = omega arith
    go false = omega arith

pub phases : (before phase m : ℕ) (k : SizeClass) → phase ≡ before % m → phase < m → phase_after (tree_for k phase m) phase ≡ (before + count_b2 k) % m
phases before phase m A e l = rw add-zero e
phases before phase m B1 e l = rw add-zero e
phases before phase m X e l = rw add-zero e
phases before phase m B2 e l = rw (add-one before, b2_phase before phase m e l) (go (eqb (phase + 1) m))
  where
    go : (last : Bool) → phase_after (if last then 0 else 3) phase ≡ (if last then 0 else phase + 1)
    go true = refl
    go false = refl

pub phase_below : (phase m : ℕ) (k : SizeClass) → phase < m → phase_after (tree_for k phase m) phase < m
phase_below phase m k l = rw (phases phase phase m k (sym (mod-eq_of_lt l)) l) (mod-lt (phase + count_b2 k) (omega arith))

pub tree_below : (phase m : ℕ) (k : SizeClass) → tree_for k phase m < 5
tree_below phase m A = omega arith
tree_below phase m B1 = omega arith
tree_below phase m X = omega arith
tree_below phase m B2 = go (eqb (phase + 1) m)
  where
    go : (last : Bool) → (if last then 0 else 3) < 5
    go true = omega arith
    go false = omega arith

-- The class of the bins that a tree shows is a class, and for each tree but 0 its own number.
pub home_positive : (n : ℕ) → 1 ≤ home n
home_positive zero = omega arith
home_positive (suc n) = omega arith

pub home_below : (n : ℕ) → n < 5 → home n < 5
home_below zero l = omega arith
home_below (suc n) l = l

pub home_same : (n : ℕ) → (n ≡ 0 → ⊥) → n ≡ home n
home_same zero z = absurd (z refl)
home_same (suc n) z = refl
