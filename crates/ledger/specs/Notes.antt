-- The rows by command: for each number the bin that holds the command's item, 0 where it has none on the shelf; the item's stored size, which counts; the
-- least stored size that it can have while it is unsettled, else 0; and the stored size that it was shelved by.
use Rattle.std.specs.Prelude.{◌≡◌, List, [], ◌∷◌, ℕ, suc, length, get_or, if◌then◌else◌}
use Rattle.std.specs.Prelude.{Option, None, Some}
use Rattle.packing.specs.Prelude.{keep, ◌=?◌}
use Rattle.packing.specs.Bins.{Item, Packing, items_of}
use Rattle.packing.specs.Withdrawing.{is_named}
use Rattle.ledger.specs.declared.Note.{Note}

-- A note for each number that a command can have, and for 0, which none has.
abbrev pub numbers : ℕ
numbers = 4_097

-- the note of a command that has no item on the shelf
abbrev pub unnoted : Note
unnoted = record { bin = 0; size = 0; least = 0; greatest = 0 }

abbrev pub note_at : (notes : List Note) (number : ℕ) → Note
note_at notes number = get_or notes number unnoted

-- What a word says of the least: 0, which is the least of no item, that the size is settled.
abbrev pub least_by : (word : ℕ) → Option ℕ
least_by word = if word =? 0 then None else Some word

abbrev pub noted_least : Note → Option ℕ
noted_least note = least_by note.least

-- The item that a note with a bin tells of.
abbrev pub noted_item : (number : ℕ) → Note → Item
noted_item number note = record { command = number; size = note.size; greatest = note.greatest; least = noted_least note }

-- The note once the item is settled: the bin and the size that it was shelved by are as they were.
abbrev pub settled_note : (size : ℕ) → Note → Note
settled_note size note = record { bin = note.bin; size = size; least = 0; greatest = note.greatest }

-- What a note says that a bin holds of its command: the item, or nothing.
abbrev pub noted_in : (bin number : ℕ) → Note → List Item
noted_in bin number note = if note.bin =? bin then noted_item number note ∷ [] else []

-- Each note says of each bin what it holds of the note's command. So at most one item has a number, and the note tells where it lies. (A number past the
-- notes has none.)
pub record Noted (notes : List Note) (p : Packing) : Type 0 where
  pub whole : length notes ≡ numbers
  pub note : (number place : ℕ) → keep (is_named number) (items_of (suc place) p) ≡ noted_in (suc place) number (note_at notes number)
