-- An item is taken out of a bin.
use Rattle.std.specs.Prelude.{◌≡◌, List, ℕ, ◌+◌, ◌-◌, ◌≤◌, ◌<◌, set}
use Rattle.ledger.specs.declared.Row.{Row}
use Rattle.ledger.specs.Rows.{places, row_at}

-- The row with one item of this size less, of which so many are A: the bin keeps its class.
abbrev pub leaving : (size a : ℕ) → Row → Row
leaving size a row = record { class = row.class; free = row.free + size; held = row.held - 1; held_a = row.held_a - a }

-- The place is one of the ledger's, its free space can grow, and it holds such an item.
pub record Leavable (ledger : List Row) (place size a : ℕ) : Type 0 where
  pub inside : place < places
  pub room : (row_at ledger place).free + size < 4_294_967_296
  pub some : 1 ≤ (row_at ledger place).held
  pub some_a : a ≤ (row_at ledger place).held_a

pub record HasLeft (ledger : List Row) (place size a : ℕ) (row : Row) (ledger' : List Row) : Type 0 where
  pub row_is : row ≡ leaving size a (row_at ledger place)
  pub ledger_is : ledger' ≡ set ledger place row
