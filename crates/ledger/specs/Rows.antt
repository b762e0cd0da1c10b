-- The rows of the ledger, one for each bin.
use Rattle.std.specs.Prelude.{List, ℕ, get_or}
use Rattle.ledger.specs.declared.Row.{Row}

-- A place for each bin that a stock can have.
abbrev pub places : ℕ
places = 512

-- the row of a bin that is not opened
abbrev pub blank : Row
blank = record { class = 0; free = 0; held = 0; held_a = 0 }

abbrev pub row_at : (ledger : List Row) (place : ℕ) → Row
row_at ledger place = get_or ledger place blank
