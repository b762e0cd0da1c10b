-- The state of these trees, rows, notes and counters.
use mathlib.Core.List.{List}
use Prim.Native.Nat.{ℕ}
use Rattle.aim.specs.declared.Counters.{Counters}
use Rattle.ledger.specs.declared.{Row.Row, Note.Note}
use Rattle.engine.specs.Store.{State, state}

abbrev pub state_of : List ℕ → List Row → List Note → Counters → State
state_of trees ledger notes c = state (record { trees = trees; notes = notes }) ledger c
