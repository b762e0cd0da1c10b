-- What is left once a row of the ledger is shown at its place: in the trees of its class what it offers, and everything else as it was.
use Rattle.std.specs.Prelude.{◌≡◌, ◌&&◌, List, ℕ, ◌≤◌, ◌<◌, if◌then◌else◌}
use Rattle.packing.specs.Prelude.{◌=?◌}
use Rattle.tournament.specs.declared.Shape.{Shape}
use Rattle.aim.specs.Aims.{home}
use Rattle.ledger.specs.declared.Row.{Row}
use Rattle.ledger.specs.Offers.{offers}
use Rattle.climb.specs.Stored.{Stored}
use Rattle.index.specs.Trees.{base, shown_at, Forest}

-- The row is that of a bin: its class is one of the four.
pub record Showable (shape : Shape) (trees : List ℕ) (place : ℕ) (row : Row) : Type 0 where
  pub forest : Forest shape trees
  pub inside : place < shape.places
  pub classed : 1 ≤ row.class
  pub class_few : row.class < 5

-- Besides, the tree of its class shows no more than its free space.
pub record Freed (shape : Shape) (trees : List ℕ) (place : ℕ) (row : Row) : Type 0 where
  pub showable : Showable shape trees place row
  pub rises : shown_at trees shape row.class place ≤ row.free

pub record Shown (shape : Shape) (t : List ℕ) (place : ℕ) (row : Row) (u : List ℕ) : Type 0 where
  pub forest : Forest shape u
  pub shown : (n j : ℕ) → n < 5 → j < shape.places
      → shown_at u shape n j ≡ (if (j =? place) && (home n =? row.class) then offers n row else shown_at t shape n j)

-- The free space is stored in the tree of the class, from the trees t on: then what this leaves shows the row.
abbrev pub ShownBeside : (shape : Shape) (place : ℕ) → Row → (trees trees' : List ℕ) → Type 0
ShownBeside shape place row trees trees' =
    (t : List ℕ) → Showable shape t place row → Stored (base row.class) shape t place row.free trees → Shown shape t place row trees'
