-- What a store leaves: one leaf set, its ancestors right again, and everything else as it was.
use Rattle.std.specs.Prelude.{◌≡◌, List, ℕ, ◌+◌, ◌*◌, ◌<◌, get_or, set}
use Rattle.tournament.specs.declared.Shape.{Shape}
use Rattle.tournament.specs.Trees.{leaves, Tree}

-- The row u is the row t after this value is stored at this place of the tree at base b.
pub record Stored (b : ℕ) (shape : Shape) (t : List ℕ) (place value : ℕ) (u : List ℕ) : Type 0 where
  pub tree : Tree b shape u
  pub leaf : leaves u b shape.places ≡ set (leaves t b shape.places) place value
  -- Every word outside the tree.
  pub outside : (k : ℕ) → (b < k → k < b + 2 * shape.places → ⊥) → get_or u k 0 ≡ get_or t k 0
