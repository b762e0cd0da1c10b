-- What the functions that print the sheet promise to each other.
use Rattle.std.specs.Prelude.{◌≡◌, true, List, ℕ, ◌+◌, ◌*◌, ◌≤◌, length}
use Rattle.packing.specs.declared.{Opening.Opening, Command.Command}
use Rattle.packing.specs.Limits.{opening_good, most_commands}
use Rattle.ledger.specs.declared.Row.{Row}
use Rattle.ledger.specs.Rows.{places}
use Rattle.text.specs.declared.Text.{Text}
use Rattle.text.specs.Writing.{Room, Appended}
use Rattle.pages.specs.Claims.{pages_of}
use Rattle.pages.specs.Writing.{line_length}
use Rattle.stream.specs.Recorded.{BothRecorded}
use Rattle.sheet.specs.Sheet.{sheet_text}

-- No sheet is longer: a line for each bin, and for each page of all bins and of one more, since each production can leave its last page short.
abbrev pub most_of_a_sheet : ℕ
most_of_a_sheet = line_length * (places + (pages_of places + 1))

-- The ledgers record what some commands left, as many as a stream can have, and there is room for every sheet.
pub record Sheetable (o : Opening) (first second : List Row) (text : Text) : Type 0 where
  pub opening_is_good : opening_good o ≡ true
  pub commands : List Command
  pub commands_few : length commands ≤ most_commands
  pub records : BothRecorded o commands first second
  pub room : Room text most_of_a_sheet

-- The sheet of whatever commands the ledgers record stands behind the text.
abbrev pub Sheeted : (o : Opening) (first second : List Row) (text text' : Text) → Type 0
Sheeted o first second text text' =
    (cs : List Command) → length cs ≤ most_commands → BothRecorded o cs first second → Appended text (sheet_text o cs) text'
