-- Searches in lists: what passes a test in one that is appended, mapped, reversed, or kept by another test.
use mathlib.Core.Path.{◌≡◌, refl, sym, ap, ◌∙◌}
use mathlib.Core.Logic.{⊎_elim}
use mathlib.Core.Bool.{Bool, true, false, not, ◌&&◌, ◌||◌, true≢false, false≢true}
use mathlib.Core.List.Memᴰ
use mathlib.Core.List.{List, [], ◌∷◌, ◌++◌, map, reverse_aux, Memᴰ}
use Rattle.std.specs.Prelude.{if◌then◌else◌}
use Rattle.packing.specs.Prelude.{any, keep}

module _ {A : Type 0} where
  -- Tests that pass the same, and one that passes nothing.
  any_same : (test other : A → Bool) → ((a : A) → test a ≡ other a) → (l : List A) → any test l ≡ any other l
  unfolding any
  any_same test other h [] = refl
  any_same test other h (a ∷ l) = rw (h a, any_same test other h l)

  any_none : (test : A → Bool) → ((a : A) → test a ≡ false) → (l : List A) → any test l ≡ false
  unfolding any
  any_none test h [] = refl
  any_none test h (a ∷ l) = rw (h a) (any_none test h l)

  -- A test that passes no less.
  pub any_weaker : (test other : A → Bool) → ((a : A) → test a ≡ true → other a ≡ true) → (l : List A) → any test l ≡ true → any other l ≡ true
  unfolding any
  any_weaker test other h [] e = e
  any_weaker test other h (a ∷ l) e = go (test a) refl e (any_weaker test other h l)
    where
      either : (t : Bool) → (t || true) ≡ true
      either true = refl
      either false = refl

      go : (t : Bool) → test a ≡ t → (t || any test l) ≡ true → (any test l ≡ true → any other l ≡ true) → (other a || any other l) ≡ true
      go true q e r = rw (h a q)
      go false q e r = rw (r e) (either (other a))

module _ {A : Type 0} (test : A → Bool) where
  -- Where some pass, one does.
  pub record Found (l : List A) : Type 0 where
    pub member : A
    pub among : Memᴰ member l
    pub passes : test member ≡ true

  pub found : (l : List A) → any test l ≡ true → Found l
  unfolding any
  found [] e = absurd (false≢true e)
  found (a ∷ l) e = go (test a) refl e (found l)
    where
      go : (t : Bool) → test a ≡ t → (t || any test l) ≡ true → (any test l ≡ true → Found l) → Found (a ∷ l)
      go true q e r = record { member = a; among = Memᴰ.head refl; passes = q }
      go false q e r = let f = r e in record { member = f.member; among = Memᴰ.tail f.among; passes = f.passes }

  -- And where one does, some do.
  pub any_member : (l : List A) (a : A) → Memᴰ a l → test a ≡ true → any test l ≡ true
  unfolding any
  any_member [] a m e = absurd (Memᴰ.not-nil m)
  any_member (b ∷ l) a m e = ⊎_elim (λ same. rw (← same, e)) (λ later. rw (any_member l a later e) (either (test b))) (Memᴰ.cases_cons m)
    where
      either : (t : Bool) → (t || true) ≡ true
      either true = refl
      either false = refl

  pub any_append : (l r : List A) → any test (l ++ r) ≡ (any test l || any test r)
  unfolding any
  any_append [] r = refl
  any_append (a ∷ l) r = rw (any_append l r) (assoc (test a) (any test l) (any test r))
    where
      assoc : (x y z : Bool) → (x || (y || z)) ≡ ((x || y) || z)
      assoc true y z = refl
      assoc false y z = refl

  pub any_reversed : (l r : List A) → any test (reverse_aux l r) ≡ (any test l || any test r)
  unfolding any
  any_reversed [] r = refl
  any_reversed (a ∷ l) r = any_reversed l (a ∷ r) ∙ swap (any test l) (test a) (any test r)
    where
      swap : (x y z : Bool) → (x || (y || z)) ≡ ((y || x) || z)
      swap true true z = refl
      swap true false z = refl
      swap false true z = refl
      swap false false z = refl

  pub any_keep : (other : A → Bool) (l : List A) → any test (keep other l) ≡ any (λ a. other a && test a) l
  unfolding any keep
  any_keep other [] = refl
  any_keep other (a ∷ l) = go (other a) (any_keep other l)
    where
      go : (t : Bool) → any test (keep other l) ≡ any (λ a. other a && test a) l
          → any test (if t then a ∷ keep other l else keep other l) ≡ ((t && test a) || any (λ a. other a && test a) l)
      go true e = ap (λ rest. test a || rest) e
      go false e = e

  -- As much passes if no such member is left out, and nothing if all such are.
  pub any_stays : (other : A → Bool) → ((a : A) → (other a && test a) ≡ test a) → (l : List A) → any test (keep other l) ≡ any test l
  any_stays other h l = any_keep other l ∙ any_same (λ a. other a && test a) test h l

  pub any_less : (other : A → Bool) (l : List A) → any test l ≡ false → any test (keep other l) ≡ false
  unfolding any keep
  any_less other [] e = refl
  any_less other (a ∷ l) e = go (other a) (test a) refl e (any_less other l)
    where
      go : (u t : Bool) → test a ≡ t → (t || any test l) ≡ false → (any test l ≡ false → any test (keep other l) ≡ false)
          → any test (if u then a ∷ keep other l else keep other l) ≡ false
      go u true q e r = absurd (true≢false e)
      go true false q e r = rw q (r e)
      go false false q e r = r e

  pub none_left : (l : List A) → any test (keep (λ a. not (test a)) l) ≡ false
  none_left l = any_keep (λ a. not (test a)) l ∙ any_none (λ a. not (test a) && test a) (λ a. apart (test a)) l
    where
      apart : (t : Bool) → (not t && t) ≡ false
      apart true = refl
      apart false = refl

-- Two tests that agree through a function on each member.
pub any_map : {A B : Type 0} (g : A → B) (test : A → Bool) (other : B → Bool) (l : List A) → ((a : A) → Memᴰ a l → other (g a) ≡ test a)
    → any other (map g l) ≡ any test l
unfolding any
any_map g test other [] r = refl
any_map g test other (a ∷ l) r = cc (r a (Memᴰ.head refl), any_map g test other l (λ x m. r x (Memᴰ.tail m)))

-- A function under which none passes more: where none passed, none does.
pub any_mapped_less : {A B : Type 0} (g : A → B) (test : A → Bool) (other : B → Bool) → ((a : A) → other (g a) ≡ true → test a ≡ true) → (l : List A) → any test l ≡ false
    → any other (map g l) ≡ false
unfolding any
any_mapped_less g test other h [] e = refl
any_mapped_less g test other h (a ∷ l) e = go (test a) (other (g a)) refl refl e (any_mapped_less g test other h l)
  where
    go : (t u : Bool) → test a ≡ t → other (g a) ≡ u → (t || any test l) ≡ false → (any test l ≡ false → any other (map g l) ≡ false) → (u || any other (map g l)) ≡ false
    go true u p q e r = absurd (true≢false e)
    go false true p q e r = absurd (false≢true (sym p ∙ h a q))
    go false false p q e r = r e
