-- What the second pass may assume, and what it leaves.
use Rattle.std.specs.Prelude.{◌≡◌, List, ℕ, ◌-◌}
use Rattle.packing.specs.declared.{Opening.Opening, Command.Command}
use Rattle.packing.specs.declared.Production.TheVariants.{First, Second}
use Rattle.packing.specs.Refusals.{word, free_units}
use Rattle.packing.specs.Bins.{Packing, opened}
use Rattle.packing.specs.Streams.{accepted, words_lent, verdict}
use Rattle.packing.specs.Run.{packing, most_looks, row_at_exit}
use Rattle.tournament.specs.declared.Shape.{Shape}
use Rattle.aim.specs.declared.Counters.{Counters}
use Rattle.ledger.specs.declared.Row.{Row}
use Rattle.ledger.specs.Records.{items_held, Records}
use Rattle.engine.specs.declared.Terms.{Terms}
use Rattle.engine.specs.Store.{EmptyStore}

-- What the commands of a production are answered by where the other has opened so many bins.
abbrev pub terms_beside : Opening → Shape → (opened : ℕ) → Terms
terms_beside o shape n = record { opening = o; shape = shape; left = o.stock - n }

-- No stream refusal stops the stream with these rows lent, and it has this opening; with the ledgers lent, the state of each production stands for the empty
-- packing.
pub record Runnable (stream row free_row : List ℕ) (o : Opening) (shape : Shape) (first second : List Row) : Type 0 where
  pub commands : List Command
  pub accepts : verdict stream (words_lent row free_row) ≡ accepted o commands
  pub first_empty : EmptyStore o shape first
  pub second_empty : EmptyStore o shape second

-- What the counters and the ledger of a production tell of its packing.
pub record Tells (o : Opening) (c : Counters) (ledger : List Row) (p : Packing) : Type 0 where
  pub items : c.items ≡ items_held p
  pub bins : c.opened ≡ opened p
  pub records : Records o ledger p

-- Both rows are the model's, and so are the largest looks; and what is left of each production tells of its packing after all commands.
pub record Ran (stream row free_row : List ℕ) (o : Opening) (words free : List ℕ) (first : Counters) (ledger0 : List Row) (second : Counters) (ledger1 : List Row) (looks : ℕ) : Type 0 where
  pub commands : List Command
  pub accepts : verdict stream (words_lent row free_row) ≡ accepted o commands
  pub answers : words ≡ row_at_exit word (accepted o commands) row
  pub frees : free ≡ row_at_exit free_units (accepted o commands) free_row
  pub looks_are : looks ≡ most_looks o commands
  pub first_is : Tells o first ledger0 (packing o First commands)
  pub second_is : Tells o second ledger1 (packing o Second commands)
