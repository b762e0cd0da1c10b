-- What the functions that print the answers promise to each other.
use Rattle.std.specs.Prelude.{◌≡◌, List, ◌++◌, map, ℕ, ◌≤◌, length}
use Rattle.packing.specs.declared.{Opening.Opening, Command.Command}
use Rattle.packing.specs.Limits.{most_commands}
use Rattle.packing.specs.Refusals.{word, free_units}
use Rattle.packing.specs.Streams.{accepted, verdict}
use Rattle.packing.specs.Run.{answers, outcomes}
use Rattle.text.specs.declared.Text.{Text}
use Rattle.text.specs.Writing.{Room, Appended}
use Rattle.answer_lines.specs.Lines.{lines, most_of_answers}

-- No refusal stops the stream, and the words of the answers to its commands are the first of these, in both rows; each line has room.
pub record Listable (stream words free : List ℕ) (text : Text) : Type 0 where
  pub opening : Opening
  pub commands : List Command
  pub accepts : verdict stream most_commands ≡ accepted opening commands
  pub others : List ℕ
  pub answers : words ≡ map word (outcomes opening commands) ++ others
  pub other_frees : List ℕ
  pub frees : free ≡ map free_units (outcomes opening commands) ++ other_frees
  pub room : Room text most_of_answers

-- The lines of all answers stand behind the text.
pub record Listed (stream : List ℕ) (text text' : Text) : Type 0 where
  pub opening : Opening
  pub commands : List Command
  pub accepts : verdict stream most_commands ≡ accepted opening commands
  pub wrote : Appended text (lines (answers opening commands)) text'
  pub few : length (lines (answers opening commands)) ≤ most_of_answers
