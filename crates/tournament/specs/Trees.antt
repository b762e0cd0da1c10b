-- Tournament trees in one row of words, each at a base of its own: "each node holds the largest free space below it".
use Rattle.std.specs.Prelude.{◌≡◌, List, ℕ, ◌+◌, ◌-◌, ◌*◌, ◌%◌, ◌^◌, ◌≤◌, ◌<◌, max, length, get_or, take, drop}
use Rattle.tournament.specs.declared.Shape.{Shape}

-- How far apart the trees of a store stand in the row: as many words as a tree of 512 places takes.
abbrev pub stride : ℕ
stride = 1024

-- A row has room for the five trees of a store, or for one tree of 4,096 places.
abbrev pub row_words : ℕ
row_words = 8 * stride

-- Node n of the tree at base b: the root is node 1, the children of node n are 2n and 2n + 1.
abbrev pub node : (t : List ℕ) (b n : ℕ) → ℕ
node t b n = get_or t (b + n) 0

-- The leaves as a plain list, one a place: they are the nodes from the number of places up.
abbrev pub leaves : (t : List ℕ) (b places : ℕ) → List ℕ
leaves t b places = take places (drop (b + places) t)

-- The other child of the parent of node n.
abbrev pub sibling : ℕ → ℕ
sibling n = n + 1 - 2 * (n % 2)

-- Node n holds the larger of its two children.
abbrev pub Right : (t : List ℕ) (b n : ℕ) → Type 0
Right t b n = node t b n ≡ max (node t b (2 * n)) (node t b (2 * n + 1))

-- A tree of this shape stands at base b of the row t.
pub record Tree (b : ℕ) (shape : Shape) (t : List ℕ) : Type 0 where
  pub power : shape.places ≡ 2 ^ shape.height
  pub words : length t ≡ row_words
  pub room : b + 2 * shape.places ≤ row_words
  pub right : (n : ℕ) → 1 ≤ n → n < shape.places → Right t b n
