-- The ledgers of an accepted stream tell, with its opening, the sheet.
use mathlib.Core.Path.{◌≡◌}
use mathlib.Core.List.{List}
use Prim.Native.Nat.{ℕ, ◌≤◌}
use lib.ListN.{length, drop}
use Rattle.packing.specs.declared.Opening.{Opening}
use Rattle.packing.specs.Streams.{first_byte, opening_of}
use Rattle.ledger.specs.declared.Row.{Row}
use Rattle.text.specs.declared.Text.{Text}
use Rattle.text.specs.Writing.{Room, Appended}
use Rattle.stream.proofs.Shelved.{Shelved, shelved_whole, shelved_same}
use Rattle.report.specs.Lines.{most_bytes}
use Rattle.report.proofs.Texts.{printing_accepted}
use Rattle.sheet.specs.Sheet.{sheet_text, sheet}
use Rattle.sheet.specs.Writing.{most_of_a_sheet, Sheetable, Sheeted}

module _ {stream : List ℕ} {first second : List Row} (k : Shelved stream first second) (o : Opening) (e : o ≡ opening_of (first_byte stream) (drop 1 stream)) where
  pub shelved_sheetable : (text : Text) → Room text most_of_a_sheet → Sheetable o first second text
  shelved_sheetable text room =
      rw (shelved_same k e)
      (record {
        opening_is_good = (shelved_whole k).opening_is_good;
        commands = k.commands;
        commands_few = (shelved_whole k).commands_few;
        records = k.records;
        room = room;
      })

  pub shelved_sheet : length stream ≤ most_bytes → (text text' : Text) → Sheeted o first second text text' → Appended text (sheet stream) text'
  unfolding sheet
  shelved_sheet short text text' h =
      rw (printing_accepted sheet_text stream short k.opening k.commands k.accepts)
      ((rw (shelved_same k e) at h) k.commands (shelved_whole k).commands_few k.records)
