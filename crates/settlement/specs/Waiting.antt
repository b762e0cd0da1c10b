-- The item of a number waits for its size, by its note; and a size is within its range.
use Rattle.std.specs.Prelude.{Bool, ◌&&◌, ℕ, ◌≤◌, ◌<◌}
use Rattle.packing.specs.Prelude.{◌≤?◌}
use Rattle.packing.specs.declared.Opening.{Opening}
use Rattle.packing.specs.Bins.{stored}
use Rattle.tournament.specs.declared.Shape.{Shape}
use Rattle.ledger.specs.declared.Note.{Note}
use Rattle.ledger.specs.Notes.{numbers, note_at}
use Rattle.engine.specs.Store.{State, Sound}

-- The size is within the range of a note, by its words.
abbrev pub in_words : (note : Note) (size : ℕ) → Bool
in_words note size = (note.least ≤? size) && (size ≤? note.greatest)

pub record Waits (o : Opening) (shape : Shape) (named : ℕ) (s : State) : Type 0 where
  pub sound : Sound o shape s
  pub numbered : named < numbers
  pub in_a_bin : 1 ≤ (note_at s.store.notes named).bin
  pub unsettled : 1 ≤ (note_at s.store.notes named).least

pub record Fits (o : Opening) (shape : Shape) (named size : ℕ) (s : State) : Type 0 where
  pub waits : Waits o shape named s
  pub from_least : (note_at s.store.notes named).least ≤ stored o size
  pub to_greatest : stored o size ≤ (note_at s.store.notes named).greatest
