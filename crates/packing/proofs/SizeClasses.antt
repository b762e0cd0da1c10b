-- Size classes: exactly one case applies to a size, and its inequalities hold.
use Prim.Native.Nat.{ℕ, ◌*◌}
use mathlib.Core.Path.{◌≡◌, refl}
use mathlib.Core.Bool.{Bool, true, false}
use native.Mathlib.Omega.{arith}
use borrow.Author.Tests.{ltb-true, ltb-false}
use lib.Dec.{ltb}
use Rattle.std.specs.Prelude.{if◌then◌else◌}
use Rattle.packing.specs.Prelude.{SizeClass, A, B1, B2, X}
use Rattle.packing.specs.SizeClasses.{size_class}
use Rattle.packing.specs.Claims.{Bounds}

-- A size lies within the bounds of its class: its own test held and those before it failed.
pub class_bounds : (c s : ℕ) → Bounds c s (size_class c s)
unfolding size_class
class_bounds c s = go (ltb c (2 * s)) (ltb (2 * c) (5 * s)) (ltb c (3 * s)) refl refl refl
  where
    go : (a b x : Bool) → ltb c (2 * s) ≡ a → ltb (2 * c) (5 * s) ≡ b → ltb c (3 * s) ≡ x → Bounds c s (if a then A else if b then B1 else if x then B2 else X)
    go true b x p q r = omega (arith, ltb-true)
    go false true x p q r = omega (arith, ltb-true, ltb-false)
    go false false true p q r = omega (arith, ltb-true, ltb-false)
    go false false false p q r = omega (arith, ltb-false)

-- The bounds of two classes do not meet, so the bounds tell the class.
pub bounds_class : (c s : ℕ) (k : SizeClass) → Bounds c s k → k ≡ size_class c s
bounds_class c s k h = one k (size_class c s) h (class_bounds c s)
  where
    one : (k l : SizeClass) → Bounds c s k → Bounds c s l → k ≡ l
    one A A p q = refl
    one A B1 p q = absurd (omega arith)
    one A B2 p q = absurd (omega arith)
    one A X p q = absurd (omega arith)
    one B1 A p q = absurd (omega arith)
    one B1 B1 p q = refl
    one B1 B2 p q = absurd (omega arith)
    one B1 X p q = absurd (omega arith)
    one B2 A p q = absurd (omega arith)
    one B2 B1 p q = absurd (omega arith)
    one B2 B2 p q = refl
    one B2 X p q = absurd (omega arith)
    one X A p q = absurd (omega arith)
    one X B1 p q = absurd (omega arith)
    one X B2 p q = absurd (omega arith)
    one X X p q = refl
