-- The descent: the leaves below a node are those of its left child and then those of its right child, and no leaf is above its node.
use mathlib.Core.Path.{◌≡◌, refl, ap}
use mathlib.Core.Bool.{Bool, true, false, cond}
use mathlib.Core.List.{List}
use Prim.Native.Nat.{ℕ, zero, suc, ◌+◌, ◌-◌, ◌*◌, ◌^◌, ◌≤◌, ◌<◌}
use native.Mathlib.Nat.{mul-add, add-mul, mul_assoc, one-mul, two-pow-succ, le_of_eq, mul-le-mul_left}
use native.Mathlib.Numerals.{sub-one}
use native.Mathlib.Decide.{dec_le}
use native.Mathlib.Omega.{arith}
use lib.Dec.{leb}
use lib.ListN.{length}
use lib.Pow.{pow_pos}
use borrow.Author.Tests.{le-leb, lt-leb}
use Rattle.tournament.specs.declared.Shape.{Shape}
use Rattle.std.specs.Prelude.{Some, None}
use Rattle.tournament.specs.Trees.{row_words, node, leaves, Tree}
use Rattle.tournament.specs.LowestFit.{lowest_fit}
use Rattle.tournament.specs.Descent.{Under, Descent, First}
use Rattle.tournament.proofs.Powers.{below_power}
use Rattle.tournament.proofs.Fits.{meant}
use Rattle.tournament.proofs.Leaves.{leaf_node, leaves_length}

-- Where the leaves below a node begin and end, a level down.
left_begins : (n h : ℕ) → n * 2 ^ suc h ≡ (2 * n) * 2 ^ h
left_begins n h = rw two-pow-succ (omega (arith, mul-add n (2 ^ h) (2 ^ h), mul_assoc 2 n (2 ^ h)))

ends : (n h : ℕ) → (n + 1) * 2 ^ h ≡ n * 2 ^ h + 2 ^ h
ends n h = omega (arith, add-mul n 1 (2 ^ h), one-mul (2 ^ h))

right_ends : (n h : ℕ) → (n + 1) * 2 ^ suc h ≡ (2 * n + 1 + 1) * 2 ^ h
right_ends n h = omega (arith, left_begins n h, two-pow-succ h, ends n (suc h), ends (2 * n) h, ends (2 * n + 1) h)

-- No leaf below a node is above it.
leaf_below : (t : List ℕ) (b h n k : ℕ) → Under t b n h → n * 2 ^ h ≤ k → k < (n + 1) * 2 ^ h → node t b k ≤ node t b n
unfolding Under
leaf_below t b zero n k u x y = le_of_eq (ap (λ (i : ℕ). node t b i) (omega arith))
leaf_below t b (suc h) n k u x y = elim (dec_le ((2 * n + 1) * 2 ^ h) k) [
  | yes l ↦ omega (arith, leaf_below t b h (2 * n + 1) k u.1.1 l (omega (arith, right_ends n h)), u.0)
  | no l ↦ omega (arith, leaf_below t b h (2 * n) k u.1.0 (omega (arith, left_begins n h)) (omega (arith)), u.0)
]

-- One level of the descent, from node n at height h to its child c at height g: both children stand in the row, the descent goes on at c, and what
-- it finds below c is what is to be found below n.
pub record Level (t : List ℕ) (b n h need c g : ℕ) : Type 0 where
  pub inside : b + (2 * n + 1) < row_words
  pub down : Descent t b c g need
  pub up : (r : ℕ) → First t b c g need r → First t b n h need r

module _ {t : List ℕ} {b n g need : ℕ} (d : Descent t b n (suc g) need) where
  within : b + (2 * n + 1) < row_words
  within = omega (arith, right_ends n g, mul-le-mul_left (2 * n + 1 + 1) (pow_pos g), d.room)

  to_left : need ≤ node t b (2 * n) → Level t b n (suc g) need (2 * n) g
  unfolding Under
  to_left y = record {
    inside = within;
    down = record { under = d.under.1.0; room = omega (arith, right_ends n g, ends (2 * n + 1) g, d.room); enough = y };
    up = λ r f. record {
      low = omega (arith, f.low, left_begins n g);
      high = omega (arith, f.high, right_ends n g, ends (2 * n + 1) g);
      enough = f.enough;
      before = λ k x l. f.before k (omega (arith, left_begins n g)) l;
    };
  }

  to_right : node t b (2 * n) < need → Level t b n (suc g) need (2 * n + 1) g
  unfolding Under
  to_right y = record {
    inside = within;
    down = record { under = d.under.1.1; room = omega (arith, right_ends n g, d.room); enough = omega (arith, d.under.0, d.enough) };
    up = λ r f. record {
      low = omega (arith, f.low, left_begins n g, ends (2 * n) g);
      high = omega (arith, f.high, right_ends n g);
      enough = f.enough;
      before = λ k x l. elim (dec_le ((2 * n + 1) * 2 ^ g) k) [
        | yes q ↦ f.before k q l
        | no q ↦ omega (arith, leaf_below t b g (2 * n) k d.under.1.0 (omega (arith, left_begins n g)) (omega arith))
      ];
    };
  }

pub level : {t : List ℕ} {b n h need : ℕ} → (h ≡ 0 → ⊥) → Descent t b n h need
    → Level t b n h need (cond (leb need (node t b (2 * n))) (2 * n) (2 * n + 1)) (h - 1)
level {h = zero} z d = absurd (z refl)
level {t} {b} {n} {h = suc g} {need} z d = rw (sub-one (suc g)) (elim (dec_le need (node t b (2 * n))) [
  | yes y ↦ rw (le-leb need (node t b (2 * n)) y) (to_left d y)
  | no y ↦ (let l : node t b (2 * n) < need = omega (arith, y) in rw (lt-leb need (node t b (2 * n)) l) (to_right d l))
])

-- The word of a chosen node's left child is the chosen word.
pub word_below : (x : Bool) (b l r : ℕ) → cond x (b + 2 * l) (b + 2 * r) ≡ b + 2 * cond x l r
word_below true b l r = refl
word_below false b l r = refl

-- The descent from the root.
module _ {b : ℕ} {shape : Shape} {t : List ℕ} (tree : Tree b shape t) where
  all_under : (h n : ℕ) → 1 ≤ n → (n + 1) * 2 ^ h ≤ 2 * shape.places → Under t b n h
  unfolding Under
  all_under zero n x y = tt
  all_under (suc h) n x y = (
    tree.right n x (omega (arith, right_ends n h, mul-le-mul_left (2 * n + 1 + 1) (pow_pos h))),
    (
      all_under h (2 * n) (omega arith) (omega (arith, right_ends n h, ends (2 * n + 1) h)),
      all_under h (2 * n + 1) (omega arith) (omega (arith, right_ends n h)),
    ),
  )

  root_under : Under t b 1 shape.height
  root_under = all_under shape.height 1 (omega arith) (omega (arith, tree.power))

  count : length (leaves t b shape.places) ≡ shape.places
  count = leaves_length t b shape.places (omega (arith, tree.words, tree.room))

  -- So many levels can be counted.
  pub height_few : shape.height < row_words
  height_few = omega (arith, tree.power, tree.room, below_power shape.height)

  pub root : (need : ℕ) → need ≤ node t b 1 → Descent t b 1 shape.height need
  root need l = record { under = root_under; room = omega (arith, tree.power, tree.room); enough = l }

  pub root_found : (need leaf : ℕ) → First t b 1 shape.height need leaf
      → Some (leaf - shape.places) ≡ lowest_fit need (leaves t b shape.places)
  root_found need leaf f =
      let place = leaf - shape.places in
      let node_of : shape.places + place ≡ leaf = omega (arith, f.low, tree.power) in
      let inside : place < shape.places = omega (arith, f.high, f.low, tree.power) in
      meant need (leaves t b shape.places) (Some place) (record {
        inside = omega (arith, count);
        enough = rw (leaf_node t b shape.places place inside, node_of) f.enough;
        before = λ k l. let below : k < shape.places = omega arith in
            rw (leaf_node t b shape.places k below)
            (f.before (shape.places + k) (omega (arith, tree.power)) (omega arith));
      })

  pub root_lacking : (need : ℕ) → node t b 1 < need → None ≡ lowest_fit need (leaves t b shape.places)
  root_lacking need l =
      meant need (leaves t b shape.places) None (λ k x.
      let inside : k < shape.places = omega (arith, count) in
      rw (leaf_node t b shape.places k inside)
      (omega (arith, leaf_below t b shape.height 1 (shape.places + k) root_under (omega (arith, tree.power)) (omega (arith, tree.power)))))
