-- The size class by the whole units of the parts of the capacity.
use Prim.Native.Nat.{ℕ, ◌+◌, ◌*◌, ◌/◌, ◌%◌, ◌≤◌, ◌<◌}
use mathlib.Core.Path.{◌≡◌, refl, sym, ◌∙◌}
use mathlib.Core.Bool.{Bool, true, false}
use native.Mathlib.Omega.{arith}
use native.Mathlib.Decide.{dec_le}
use borrow.Author.Tests.{ltb-true, ltb-false, lt-ltb, le-ltb}
use lib.Dec.{ltb}
use Rattle.packing.specs.declared.PerClass.{PerClass}
use Rattle.packing.specs.declared.SizeClass.TheVariants.{A, B1, B2, X}
use Rattle.std.specs.Prelude.{if◌then◌else◌}
use Rattle.packing.specs.Prelude.{◌<?◌}
use Rattle.packing.specs.SizeClasses.{size_class, number_of}

-- Two tests that hold and fail together are one.
same_test : (a b c d : ℕ) → (a < b → c < d) → (b ≤ a → d ≤ c) → ltb a b ≡ ltb c d
same_test a b c d holds fails = elim (dec_le b a) [
  | yes l ↦ le-ltb a b l ∙ sym (le-ltb c d (fails l))
  | no l ↦ lt-ltb a b (omega (arith, l)) ∙ sym (lt-ltb c d (holds (omega (arith, l))))
]

-- The class by the whole units of the parts: a size is above a part exactly when it is above these. A size above the half is above both other parts.
pub by_parts : (c s : ℕ) (n : PerClass)
    → (if c / 3 <? s then (if 2 * (c / 5) + 2 * (c % 5) / 5 <? s then (if c / 2 <? s then n.a else n.b1) else n.b2) else n.x)
    ≡ number_of n (size_class c s)
unfolding size_class
by_parts c s n =
    rw (
      same_test (c / 2) s c (2 * s) (λ l. omega arith) (λ l. omega arith),
      same_test (2 * (c / 5) + 2 * (c % 5) / 5) s (2 * c) (5 * s) (λ l. omega arith) (λ l. omega arith),
      same_test (c / 3) s c (3 * s) (λ l. omega arith) (λ l. omega arith),
    )
    (go (ltb c (2 * s)) (ltb (2 * c) (5 * s)) (ltb c (3 * s)) refl refl refl)
  where
    go : (a b x : Bool) → ltb c (2 * s) ≡ a → ltb (2 * c) (5 * s) ≡ b → ltb c (3 * s) ≡ x
        → (if x then (if b then (if a then n.a else n.b1) else n.b2) else n.x) ≡ number_of n (if a then A else if b then B1 else if x then B2 else X)
    go true true true p q r = refl
    go true true false p q r = absurd (omega (arith, ltb-true, ltb-false))
    go true false x p q r = absurd (omega (arith, ltb-true, ltb-false))
    go false true true p q r = refl
    go false true false p q r = absurd (omega (arith, ltb-true, ltb-false))
    go false false true p q r = refl
    go false false false p q r = refl
