-- The item of a number is on the shelf, by its note.
use Rattle.std.specs.Prelude.{ℕ, ◌≤◌, ◌<◌}
use Rattle.packing.specs.declared.Opening.{Opening}
use Rattle.tournament.specs.declared.Shape.{Shape}
use Rattle.ledger.specs.Notes.{numbers, note_at}
use Rattle.engine.specs.Store.{State, Sound}

pub record Lies (o : Opening) (shape : Shape) (named : ℕ) (s : State) : Type 0 where
  pub sound : Sound o shape s
  pub numbered : named < numbers
  pub in_a_bin : 1 ≤ (note_at s.store.notes named).bin
