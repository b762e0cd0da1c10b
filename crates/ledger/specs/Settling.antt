-- An item of a bin is settled.
use Rattle.std.specs.Prelude.{◌≡◌, List, ℕ, ◌+◌, ◌<◌, set}
use Rattle.ledger.specs.declared.Row.{Row}
use Rattle.ledger.specs.Rows.{places, row_at}

-- The row with so many units more free: the bin keeps its class, its items and its A's.
abbrev pub settled_row : (freed : ℕ) → Row → Row
settled_row freed row = record { class = row.class; free = row.free + freed; held = row.held; held_a = row.held_a }

-- The place is one of the ledger's, and its free space can grow.
pub record Settleable (ledger : List Row) (place freed : ℕ) : Type 0 where
  pub inside : place < places
  pub room : (row_at ledger place).free + freed < 4_294_967_296

pub record HasSettled (ledger : List Row) (place freed : ℕ) (row : Row) (ledger' : List Row) : Type 0 where
  pub row_is : row ≡ settled_row freed (row_at ledger place)
  pub ledger_is : ledger' ≡ set ledger place row
