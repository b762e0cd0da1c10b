-- The count: a walk over the classes of the places of a stock.
use Rattle.std.specs.Prelude.{◌≡◌, List, map, ℕ, ◌+◌, ◌≤◌, min, length, take}
use Rattle.packing.specs.declared.{Opening.Opening, Tally.Tally}
use Rattle.packing.specs.Bins.{Packing, opened}
use Rattle.packing.specs.Counting.{walk}
use Rattle.ledger.specs.declared.Row.{Row}
use Rattle.ledger.specs.Rows.{places}
use Rattle.ledger.specs.Records.{Records}

-- the class row, as far as the stock goes
abbrev pub classes : (stock : ℕ) (ledger : List Row) → List ℕ
classes stock ledger = map (λ row. row.class) (take stock ledger)

-- The ledger has a place for every bin of the stock.
pub record Countable (ledger : List Row) (stock : ℕ) : Type 0 where
  pub whole : length ledger ≡ places
  pub few : stock ≤ places

pub record Tallied (ledger : List Row) (stock : ℕ) (r : Tally) : Type 0 where
  -- Whatever the rows are, it is the walk over them.
  pub walked : r ≡ walk (classes stock ledger)
  -- Of every packing that they record: the figure is the number of bins opened, the places read are the lesser of the stock and the figure plus one.
  pub model : (o : Opening) (p : Packing) → Records o ledger p → opened p ≤ stock → r ≡ record { figure = opened p; read = min stock (opened p + 1) }
