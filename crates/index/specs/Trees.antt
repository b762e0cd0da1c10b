-- Five trees in one row, and the ledger that they index.
use Rattle.std.specs.Prelude.{◌≡◌, List, ℕ, ◌*◌, ◌≤◌, ◌<◌, get_or}
use Rattle.tournament.specs.declared.Shape.{Shape}
use Rattle.tournament.specs.Trees.{stride, leaves, Tree}
use Rattle.ledger.specs.declared.Row.{Row}
use Rattle.ledger.specs.Rows.{row_at}
use Rattle.ledger.specs.Offers.{offers}

-- The word of the row that tree n stands at.
abbrev pub base : (n : ℕ) → ℕ
base n = stride * n

-- What tree n holds, place by place, and at place i.
abbrev pub shown_by : (trees : List ℕ) → Shape → (n : ℕ) → List ℕ
shown_by trees shape n = leaves trees (base n) shape.places

abbrev pub shown_at : (trees : List ℕ) → Shape → (n i : ℕ) → ℕ
shown_at trees shape n i = get_or (shown_by trees shape n) i 0

-- Five trees of one shape in one row.
pub record Forest (shape : Shape) (trees : List ℕ) : Type 0 where
  pub few : shape.places ≤ 512
  pub tree : (n : ℕ) → n < 5 → Tree (base n) shape trees

-- The trees as an index: place i of tree n shows what row i of the ledger offers in group n, by the row alone.
pub record Indexes (shape : Shape) (trees : List ℕ) (ledger : List Row) : Type 0 where
  pub forest : Forest shape trees
  pub leaf : (n i : ℕ) → n < 5 → i < shape.places → shown_at trees shape n i ≡ offers n (row_at ledger i)
