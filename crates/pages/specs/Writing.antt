-- What the functions that write the pages promise to each other. They read a ledger.
use Rattle.std.specs.Prelude.{◌≡◌, ℕ, suc, ◌+◌, ◌*◌, ◌-◌, ◌^◌, ◌≤◌, ◌<◌, length, take}
use mathlib.Core.List.{List, [], ◌∷◌, map, flatten}
use Rattle.ledger.specs.declared.Row.{Row as LedgerRow}
use Rattle.ledger.specs.Rows.{places, row_at}
use Rattle.text.specs.declared.Text.{Text}
use Rattle.text.specs.Writing.{Room}
use Rattle.pages.specs.Pages.{Row, lines, lines_text}
use Rattle.pages.specs.Claims.{pages_of, with_page}

-- What the sheet tells of a bin, by its row of the ledger.
abbrev pub told : (capacity number : ℕ) (row : LedgerRow) → Row
told capacity number row = record { number = number; class = row.class; load = capacity - row.free; free = row.free; held = row.held }

-- Of the bins of rising numbers, whose rows follow each other.
unfoldable pub told_from : (capacity number : ℕ) (rows : List LedgerRow) → List Row
told_from capacity number [] = []
told_from capacity number (row ∷ rest) = told capacity number row ∷ told_from capacity (suc number) rest

-- Each figure has its place on the line.
pub record Legible (capacity number : ℕ) (row : LedgerRow) : Type 0 where
  pub number_few : number < 10 ^ 4
  pub class_few : row.class < 10 ^ 1
  pub capacity_few : capacity < 10 ^ 8
  pub free_few : row.free ≤ capacity
  pub held_few : row.held < 10 ^ 4

-- A line and its newline.
abbrev pub line_length : ℕ
line_length = 41

-- The lines of so many rows and of their pages.
abbrev pub lines_length : (count : ℕ) → ℕ
lines_length count = line_length * (count + pages_of count)

-- The lines of rows, each behind that of the page which it opens, if it does.
abbrev pub entry_text : (pages : ℕ) → Row → List ℕ
entry_text pages r = lines_text (with_page pages r)

abbrev pub entries_text : (pages : ℕ) → List Row → List ℕ
entries_text pages rs = lines_text (flatten (map (with_page pages) rs))

-- There is room for the line of a cartridge and of the page which it opens, if it does.
pub record Enterable (text : Text) (capacity pages number : ℕ) (row : LedgerRow) : Type 0 where
  pub legible : Legible capacity number row
  pub pages_few : pages ≤ places
  pub room : Room text (length (entry_text pages (told capacity number row)))

-- The lines of all opened bins, by the ledger, behind so many pages.
abbrev pub ledger_text : (ledger : List LedgerRow) (capacity opened pages : ℕ) → List ℕ
ledger_text ledger capacity opened pages = lines_text (lines pages (told_from capacity 1 (take opened ledger)))

-- The first rows of the ledger are legible, as the cartridges of rising numbers, and there is room for their lines and pages.
pub record Legibles (ledger : List LedgerRow) (capacity opened pages : ℕ) (text : Text) : Type 0 where
  pub whole : length ledger ≡ places
  pub opened_few : opened ≤ places
  pub pages_few : pages ≤ places
  pub legible : (place : ℕ) → place < opened → Legible capacity (place + 1) (row_at ledger place)
  pub room : Room text (lines_length opened)
