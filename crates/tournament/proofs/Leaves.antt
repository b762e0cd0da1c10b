-- The leaves of a tree as a plain list, and as nodes.
use mathlib.Core.Path.{◌≡◌, sym, ap, ◌∙◌}
use mathlib.Core.List.{List}
use Prim.Native.Nat.{ℕ, ◌+◌, ◌*◌, ◌≤◌, ◌<◌}
use native.Mathlib.Nat.{add_assoc}
use native.Mathlib.Omega.{arith}
use lib.ListN.{length, get_or, take, drop, set, length-take, length-drop}
use lib.Seq.{get_or-take, get_or-drop, ext_get_or, take-set-lt, drop-set-add}
use Rattle.tournament.specs.Trees.{node, leaves}

pub leaf_node : (t : List ℕ) (b places i : ℕ) → i < places → get_or (leaves t b places) i 0 ≡ node t b (places + i)
leaf_node t b places i l =
    get_or-take places (drop (b + places) t) i 0 l ∙ get_or-drop (b + places) t i 0 ∙ ap (λ (k : ℕ). get_or t k 0) (add_assoc b places i)

pub leaves_length : (t : List ℕ) (b places : ℕ) → b + 2 * places ≤ length t → length (leaves t b places) ≡ places
leaves_length t b places l = simp (length-take, length-drop) (omega arith)

-- A word set among the leaves is a place set in their list.
pub leaves_set : (t : List ℕ) (b places i v : ℕ) → i < places → leaves (set t (b + (places + i)) v) b places ≡ set (leaves t b places) i v
leaves_set t b places i v l =
    ap (λ (k : ℕ). take places (drop (b + places) (set t k v))) (sym (add_assoc b places i))
    ∙ ap (take places) (drop-set-add (b + places) t i v)
    ∙ take-set-lt places (drop (b + places) t) i v l

-- Rows that agree on the leaves have the same list of them.
pub leaves_same : (t u : List ℕ) (b places : ℕ) → b + 2 * places ≤ length t → length u ≡ length t
    → ((i : ℕ) → i < places → node u b (places + i) ≡ node t b (places + i)) → leaves u b places ≡ leaves t b places
leaves_same t u b places l e same =
    let lu : length (leaves u b places) ≡ places = leaves_length u b places (omega arith) in
    let lt : length (leaves t b places) ≡ places = leaves_length t b places l in
    ext_get_or 0 (leaves u b places) (leaves t b places) (lu ∙ sym lt)
    (λ i h. let d : i < places = omega arith in
    leaf_node u b places i d ∙ same i d ∙ sym (leaf_node t b places i d))
