-- An item is entered in a bin.
use Rattle.std.specs.Prelude.{◌≡◌, List, ℕ, ◌+◌, ◌<◌, set}
use Rattle.ledger.specs.declared.Row.{Row}
use Rattle.ledger.specs.Rows.{places, row_at}

-- The row with one item more, of which so many are A.
abbrev pub entering : (class free a : ℕ) → Row → Row
entering class free a row = record { class = class; free = free; held = row.held + 1; held_a = row.held_a + a }

-- The place is one of the ledger's, and its figures can grow.
pub record Enterable (ledger : List Row) (place a : ℕ) : Type 0 where
  pub inside : place < places
  pub held_few : (row_at ledger place).held < 4_294_967_295
  pub held_a_few : (row_at ledger place).held_a + a < 4_294_967_296

pub record Entered (ledger : List Row) (place class free a : ℕ) (row : Row) (ledger' : List Row) : Type 0 where
  pub row_is : row ≡ entering class free a (row_at ledger place)
  pub ledger_is : ledger' ≡ set ledger place row
