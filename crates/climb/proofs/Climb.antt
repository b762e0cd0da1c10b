-- The climb: at most one node is wrong, the parent of the node that was set last.
use mathlib.Core.Path.{◌≡◌, refl, sym, ◌∙◌}
use mathlib.Core.List.{List}
use Prim.Native.Nat.{ℕ, ◌+◌, ◌-◌, ◌*◌, ◌/◌, ◌%◌, ◌≤◌, ◌<◌, max}
use native.Mathlib.Decide.{ℕ_discrete}
use native.Mathlib.Omega.{arith}
use lib.ListN.{length, get_or, set, length-set}
use lib.Seq.{get_or-set_same, get_or-set_other}
use Rattle.tournament.specs.declared.Shape.{Shape}
use Rattle.tournament.specs.Trees.{row_words, node, sibling, Right, Tree}
use Rattle.tournament.proofs.Leaves.{leaves_set, leaves_same}
use Rattle.climb.specs.Stored.{Stored}

-- s is the row once the leaf is set, t the row now: node n of t holds v, where it held w. Every node but the parent of n is right, and so was the
-- parent while n held w.
pub record Climb (b places : ℕ) (s t : List ℕ) (n w v : ℕ) : Type 0 where
  pub words : length t ≡ row_words
  pub room : b + 2 * places ≤ row_words
  pub low : 1 ≤ n
  pub high : n < 2 * places
  pub here : node t b n ≡ v
  pub above : 1 < n → node t b (n / 2) ≡ max w (node t b (sibling n))
  pub right : (k : ℕ) → 1 ≤ k → k < places → (k ≡ n / 2 → ⊥) → Right t b k
  pub kept : (k : ℕ) → (b < k → k < b + places → ⊥) → get_or t k 0 ≡ get_or s k 0

-- The children of n / 2 are n and its sibling.
family : (t : List ℕ) (b n : ℕ) → max (node t b n) (node t b (sibling n)) ≡ max (node t b (2 * (n / 2))) (node t b (2 * (n / 2) + 1))
family t b n = elim (ℕ_discrete (n % 2) 0) [
  | yes z ↦ (let x : 2 * (n / 2) ≡ n = omega arith in
      let y : n + 1 - 2 * (n % 2) ≡ n + 1 = omega arith in
      rw (x, y))
  | no z ↦ (let x : 2 * (n / 2) + 1 ≡ n = omega arith in
      let y : n + 1 - 2 * (n % 2) ≡ 2 * (n / 2) = omega arith in
      rw (x, y) (omega arith))
]

-- Node m is set to v, the larger of its children, where every other node was right.
module _ (b places : ℕ) (t : List ℕ) (m v : ℕ) (words : length t ≡ row_words) (room : b + 2 * places ≤ row_words) (low : 1 ≤ m)
    (high : m < 2 * places) where
  abbrev u : List ℕ
  u = set t (b + m) v

  here : node u b m ≡ v
  here = get_or-set_same t (b + m) v 0 (omega arith)

  other : (k : ℕ) → (k ≡ m → ⊥) → node u b k ≡ node t b k
  other k z = get_or-set_other t (b + m) (b + k) v 0 (λ e. z (omega arith))

  module _ (right : (k : ℕ) → 1 ≤ k → k < places → (k ≡ m → ⊥) → Right t b k)
      (larger : m < places → v ≡ max (node t b (2 * m)) (node t b (2 * m + 1))) where
    still_right : (k : ℕ) → 1 ≤ k → k < places → (k ≡ m / 2 → ⊥) → Right u b k
    still_right k x y z = elim (ℕ_discrete k m) [
      | yes q ↦ rw (q, here, other (2 * m) (λ e. omega arith), other (2 * m + 1) (λ e. omega arith)) (larger (omega arith))
      | no q ↦ rw (other k q, other (2 * k) (λ e. z (omega arith)), other (2 * k + 1) (λ e. z (omega arith))) (right k x y q)
    ]

    climb_at : (s : List ℕ) → ((k : ℕ) → (b < k → k < b + places → ⊥) → get_or u k 0 ≡ get_or s k 0) → Climb b places s u m (node t b m) v
    climb_at s kept = record {
      words = simp length-set words;
      room = room;
      low = low;
      high = high;
      here = here;
      above = λ l. rw (other (m / 2) (λ e. omega arith), other (sibling m) (λ e. omega arith))
          (right (m / 2) (omega arith) (omega arith) (λ e. omega arith) ∙ sym (family t b m));
      right = still_right;
      kept = kept;
    }

-- The row once the leaf of a place is set.
abbrev leaf_set : (b : ℕ) (shape : Shape) (t : List ℕ) (place value : ℕ) → List ℕ
leaf_set b shape t place value = set t (b + (shape.places + place)) value

module _ {b : ℕ} {shape : Shape} {t : List ℕ} {place value : ℕ} (tree : Tree b shape t) (inside : place < shape.places) where
  pub climb_start : Climb b shape.places (leaf_set b shape t place value) (leaf_set b shape t place value) (shape.places + place)
      (node t b (shape.places + place)) value
  climb_start =
      climb_at b shape.places t (shape.places + place) value tree.words tree.room (omega arith) (omega arith)
      (λ k x y z. tree.right k x y) (λ l. absurd (omega arith)) _ (λ k h. refl)

  -- The climb ends at the root, or where the parent holds the larger of its children already.
  pub climb_end : {u : List ℕ} {n w v : ℕ} → Climb b shape.places (leaf_set b shape t place value) u n w v
      → (1 < n → node u b (n / 2) ≡ max v (node u b (sibling n))) → Stored b shape t place value u
  climb_end {u} {n} c e = record {
    tree = record {
      power = tree.power;
      words = c.words;
      room = c.room;
      right = λ k x y. elim (ℕ_discrete k (n / 2)) [
        | yes q ↦ rw q (omega (arith, e (omega arith), c.here, family u b n))
        | no q ↦ c.right k x y q
      ];
    };
    leaf = leaves_same _ u b shape.places (simp length-set (omega (arith, tree.words, c.room))) (c.words ∙ simp length-set (sym tree.words))
        (λ i l. c.kept (b + (shape.places + i)) (λ x y. omega arith))
        ∙ leaves_set t b shape.places place value inside;
    outside = λ k h. c.kept k (λ x y. h x (omega arith))
        ∙ get_or-set_other t (b + (shape.places + place)) k value 0 (λ q. h (omega arith) (omega arith));
  }

module _ {b places : ℕ} {s t : List ℕ} {n w v : ℕ} (c : Climb b places s t n w v) (l : 1 < n) where
  -- The parent takes the larger of its children.
  pub climb_next : (x : ℕ) → x ≡ max v (node t b (sibling n)) → Climb b places s (set t (b + n / 2) x) (n / 2) (node t b (n / 2)) x
  climb_next x e =
      climb_at b places t (n / 2) x c.words c.room (omega arith) (omega (arith, c.high)) c.right
      (λ y. omega (arith, c.here, family t b n)) s
      (λ k h. get_or-set_other t (b + n / 2) k x 0 (λ q. h (omega arith) (omega (arith, c.high))) ∙ c.kept k h)
