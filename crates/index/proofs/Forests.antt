-- A value stored in one tree of five: all else is as it was.
use mathlib.Core.Path.{◌≡◌, sym, ap, ◌∙◌}
use mathlib.Core.Bool.{◌&&◌, and-true, and-false}
use mathlib.Core.List.{List}
use Prim.Native.Nat.{ℕ, ◌+◌, ◌*◌, ◌<◌}
use native.Mathlib.Decide.{ℕ_discrete}
use native.Mathlib.Omega.{arith}
use lib.Dec.{eqb}
use lib.ListN.{length, get_or}
use lib.Seq.{get_or-set_same, get_or-set_other}
use borrow.Author.Tests.{eq-eqb, ne_eqb}
use Rattle.std.specs.Prelude.{if◌then◌else◌}
use Rattle.tournament.specs.declared.Shape.{Shape}
use Rattle.tournament.specs.Trees.{stride}
use Rattle.climb.specs.Stored.{Stored}
use Rattle.tournament.proofs.Leaves.{leaf_node, leaves_length}
use Rattle.index.specs.Trees.{base, shown_by, shown_at, Forest}

-- Every place of a tree is a leaf of it.
pub leaf_count : {shape : Shape} {t : List ℕ} → Forest shape t → (n : ℕ) → n < 5 → length (shown_by t shape n) ≡ shape.places
leaf_count {shape} {t} f n l = leaves_length t (base n) shape.places (omega (arith, (f.tree n l).words, (f.tree n l).room))

-- Stored in tree h at place i.
module _ {shape : Shape} {t u : List ℕ} {h i free : ℕ} (f : Forest shape t) (few : h < 5) (inside : i < shape.places)
    (s : Stored (base h) shape t i free u) where
  -- a word of another tree
  elsewhere : (n j : ℕ) → (h ≡ n → ⊥) → j < stride → get_or u (base n + j) 0 ≡ get_or t (base n + j) 0
  elsewhere n j z l = s.outside (base n + j) (λ x y. z (omega (arith, f.few)))

  pub still : Forest shape u
  still = record {
    few = f.few;
    tree = λ n l. elim (ℕ_discrete h n) [
      | yes e ↦ rw e at s.tree
      | no e ↦ record {
        power = s.tree.power;
        words = s.tree.words;
        room = (f.tree n l).room;
        right = λ k x y.
            let q : 2 * k + 1 < stride = omega (arith, f.few) in
            rw (elsewhere n k e (omega arith), elsewhere n (2 * k) e (omega arith), elsewhere n (2 * k + 1) e q) ((f.tree n l).right k x y);
      }
    ];
  }

  in_tree : (j : ℕ) → shown_at u shape h j ≡ (if eqb j i then free else shown_at t shape h j)
  in_tree j = ap (λ (vs : List ℕ). get_or vs j 0) s.leaf ∙ elim (ℕ_discrete j i) [
    | yes e ↦ rw (eq-eqb j i e, e) (get_or-set_same (shown_by t shape h) i free 0 (omega (arith, leaf_count f h few)))
    | no e ↦ rw (ne_eqb j i e) (get_or-set_other (shown_by t shape h) i j free 0 e)
  ]

  pub stored : (n j : ℕ) → j < shape.places → shown_at u shape n j ≡ (if eqb j i && eqb h n then free else shown_at t shape n j)
  stored n j l = elim (ℕ_discrete h n) [
    | yes e ↦ rw (eq-eqb h n e, and-true, ← e) (in_tree j)
    | no e ↦ rw (ne_eqb h n e, and-false)
        (leaf_node u (base n) shape.places j l ∙ elsewhere n (shape.places + j) e (omega (arith, f.few)) ∙ sym (leaf_node t (base n) shape.places j l))
  ]
