-- Facts about truth values, cases and members that several arguments use.
use Prim.Native.Nat.{ℕ}
use mathlib.Core.Path.{◌≡◌, refl, sym, subst}
use mathlib.Core.Bool.{Bool, true, false, ◌&&◌, false≢true}
use mathlib.Core.List.Memᴰ
use mathlib.Core.List.{List, [], ◌∷◌, ◌++◌, map, Memᴰ}
use native.Mathlib.Omega.{arith}
use Rattle.std.specs.Prelude.{if◌then◌else◌}
use Rattle.packing.specs.Prelude.{keep}

-- Two cases of a type are not equal: `cc` makes of such an equation that 0 is 1.
pub clash : {A : Type 0} → ◌≡◌ {A = ℕ} 0 1 → A
clash e = absurd (omega (arith, e))

pub both_true : (a b : Bool) → (a && b) ≡ true → (a ≡ true) × (b ≡ true)
both_true true b h = (refl, h)
both_true false b h = absurd (false≢true h)

-- What holds of the first member and of the rest holds of each.
pub each_cons : {A : Type 0} (P : A → Type 0) {a : A} {l : List A} → P a → ((x : A) → Memᴰ x l → P x) → (x : A) → Memᴰ x (a ∷ l) → P x
each_cons P h r x (Memᴰ.head e) = subst P (sym e) h
each_cons P h r x (Memᴰ.tail m) = r x m

pub each_map : {A B : Type 0} (f : A → B) (P : B → Type 0) (l : List A) → ((x : A) → Memᴰ x l → P (f x)) → (y : B) → Memᴰ y (map f l) → P y
each_map f P [] h = λ y m. absurd (Memᴰ.not-nil m)
each_map f P (a ∷ l) h = each_cons P (h a (Memᴰ.head refl)) (each_map f P l (λ x m. h x (Memᴰ.tail m)))

pub each_append : {A : Type 0} (P : A → Type 0) (l r : List A) → ((x : A) → Memᴰ x l → P x) → ((x : A) → Memᴰ x r → P x)
    → (x : A) → Memᴰ x (l ++ r) → P x
each_append P [] r h k = k
each_append P (a ∷ l) r h k = each_cons P (h a (Memᴰ.head refl)) (each_append P l r (λ x m. h x (Memᴰ.tail m)) k)

-- Also of each that passes a test.
pub each_keep : {A : Type 0} (test : A → Bool) (P : A → Type 0) (l : List A) → ((x : A) → Memᴰ x l → P x) → (x : A) → Memᴰ x (keep test l) → P x
unfolding keep
each_keep test P [] h = λ x m. absurd (Memᴰ.not-nil m)
each_keep test P (a ∷ l) h = go (test a) (each_keep test P l (λ x m. h x (Memᴰ.tail m)))
  where
    go : (t : Bool) → ((x : _) → Memᴰ x (keep test l) → P x) → (x : _) → Memᴰ x (if t then a ∷ keep test l else keep test l) → P x
    go true r = each_cons P (h a (Memᴰ.head refl)) r
    go false r = r
