-- What a test keeps of a list that is appended, mapped, reversed, or kept by another test.
use mathlib.Core.Path.{◌≡◌, refl, sym, ap, ◌∙◌}
use mathlib.Core.Bool.{Bool, true, false, not, false≢true}
use mathlib.Core.List.{List, [], ◌∷◌, ◌++◌, map, reverse_aux, Memᴰ}
use Rattle.std.specs.Prelude.{if◌then◌else◌}
use Rattle.packing.specs.Prelude.{keep}
use Rattle.packing.proofs.Tests.{clash}

module _ {A : Type 0} (test : A → Bool) where
  pub keep_append : (l r : List A) → keep test (l ++ r) ≡ keep test l ++ keep test r
  unfolding keep
  keep_append [] r = refl
  keep_append (a ∷ l) r = go (test a) (keep_append l r)
    where
      go : (t : Bool) → keep test (l ++ r) ≡ keep test l ++ keep test r
          → (if t then a ∷ keep test (l ++ r) else keep test (l ++ r)) ≡ (if t then a ∷ keep test l else keep test l) ++ keep test r
      go true e = ap (λ rest. a ∷ rest) e
      go false e = e

  pub keep_reversed : (l r : List A) → keep test (reverse_aux l r) ≡ reverse_aux (keep test l) (keep test r)
  unfolding keep
  keep_reversed [] r = refl
  keep_reversed (a ∷ l) r = go (test a) refl (keep_reversed l (a ∷ r))
    where
      go : (t : Bool) → test a ≡ t → keep test (reverse_aux l (a ∷ r)) ≡ reverse_aux (keep test l) (keep test (a ∷ r))
          → keep test (reverse_aux l (a ∷ r)) ≡ reverse_aux (if t then a ∷ keep test l else keep test l) (keep test r)
      go true e h = rw e at h
      go false e h = rw e at h

-- A function goes into both cases of a test; so it goes into what is kept, where one test agrees with another through it.
pub if_map : {A B : Type 0} (g : A → B) (t : Bool) (x y : A) → g (if t then x else y) ≡ (if t then g x else g y)
if_map g true x y = refl
if_map g false x y = refl

pub keep_map : {A B : Type 0} (g : A → B) (test : A → Bool) (other : B → Bool) (l : List A) → ((a : A) → Memᴰ a l → other (g a) ≡ test a)
    → keep other (map g l) ≡ map g (keep test l)
unfolding keep
keep_map g test other [] r = refl
keep_map g test other (a ∷ l) r =
    cc (r a (Memᴰ.head refl), keep_map g test other l (λ x m. r x (Memᴰ.tail m)), if_map (map g) (test a) (a ∷ keep test l) (keep test l))

-- A second test that lets all of them by changes nothing; one that lets none of them by leaves none.
module _ {A : Type 0} (test other : A → Bool) where
  pub keep_within : ((a : A) → test a ≡ true → other a ≡ true) → (l : List A) → keep test (keep other l) ≡ keep test l
  unfolding keep
  keep_within h [] = refl
  keep_within h (a ∷ l) = go (test a) (other a) refl refl (keep_within h l)
    where
      go : (t u : Bool) → test a ≡ t → other a ≡ u → keep test (keep other l) ≡ keep test l
          → keep test (if u then a ∷ keep other l else keep other l) ≡ (if t then a ∷ keep test l else keep test l)
      go true true x y e = rw (x, e)
      go true false x y e = absurd (false≢true (sym y ∙ h a x))
      go false true x y e = rw (x, e)
      go false false x y e = e

  pub keep_apart : ((a : A) → test a ≡ true → other a ≡ false) → (l : List A) → keep test (keep other l) ≡ []
  unfolding keep
  keep_apart h [] = refl
  keep_apart h (a ∷ l) = go (test a) (other a) refl refl (keep_apart h l)
    where
      go : (t u : Bool) → test a ≡ t → other a ≡ u → keep test (keep other l) ≡ [] → keep test (if u then a ∷ keep other l else keep other l) ≡ []
      go true true x y e = absurd (false≢true (sym (h a x) ∙ y))
      go false true x y e = rw x e
      go t false x y e = e

-- Where a test keeps nothing, the others are all.
pub keep_others : {A : Type 0} (test : A → Bool) (l : List A) → keep test l ≡ [] → keep (λ a. not (test a)) l ≡ l
unfolding keep
keep_others test [] e = refl
keep_others test (a ∷ l) e = go (test a) e (keep_others test l)
  where
    go : (t : Bool) → (if t then a ∷ keep test l else keep test l) ≡ [] → (keep test l ≡ [] → keep (λ a. not (test a)) l ≡ l)
        → (if not t then a ∷ keep (λ a. not (test a)) l else keep (λ a. not (test a)) l) ≡ a ∷ l
    go true e r = clash (cc)
    go false e r = ap (λ rest. a ∷ rest) (r e)

-- In either order two tests keep the same.
pub keep_swap : {A : Type 0} (test other : A → Bool) (l : List A) → keep test (keep other l) ≡ keep other (keep test l)
unfolding keep
keep_swap test other [] = refl
keep_swap test other (a ∷ l) = go (test a) (other a) refl refl (keep_swap test other l)
  where
    go : (t u : Bool) → test a ≡ t → other a ≡ u → keep test (keep other l) ≡ keep other (keep test l)
        → keep test (if u then a ∷ keep other l else keep other l) ≡ keep other (if t then a ∷ keep test l else keep test l)
    go true true x y e = rw (x, y, e)
    go true false x y e = rw (y, e)
    go false true x y e = rw (x, e)
    go false false x y e = e
