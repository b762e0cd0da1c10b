-- "A vault sheet for the door": rows first, then pages, then text. Here are the lines of one packing, behind so many pages that stand before them.
use mathlib.Core.List.{List, [], ◌∷◌, ◌++◌, map, flatten}
use Rattle.std.specs.Prelude.{ℕ, zero, suc, ◌-◌, length}
use Prim.Native.Char.{code}
use Rattle.packing.specs.declared.Opening.{Opening}
use Rattle.packing.specs.Bins.{Bin, Packing, load}
use Rattle.fields.specs.Fields.{spaces, right}

-- What stands on the sheet of a cartridge: its number, class, load, free units and masters held.
pub record Row : Type 0 where
  pub number : ℕ
  pub class : ℕ
  pub load : ℕ
  pub free : ℕ
  pub held : ℕ

abbrev pub row_of : Opening → (number : ℕ) → Bin → Row
row_of o number b = record { number = number; class = b.class; load = load b; free = o.capacity - load b; held = length b.items }

-- "Every opened cartridge and no other has one line, in rising number."
unfoldable pub rows_from : Opening → (number : ℕ) → List Bin → List Row
rows_from o number [] = []
rows_from o number (b ∷ bs) = row_of o number b ∷ rows_from o (suc number) bs

abbrev pub rows : Opening → Packing → List Row
rows o p = rows_from o 1 p.bins

-- A line of the sheet: one that opens a page, or a cartridge's.
pub data Line : Type 0 where
  page : (number : ℕ) → Line
  bin : Row → Line

-- "50 cartridge lines a page, each page opened by a further" line, "the page number from 1". So many pages are begun, and the last of them has room
-- for so many lines more. "A short last page is not filled up, and a shelf with none opened prints no page."
unfoldable pub paged : (pages room : ℕ) → List Row → List Line
paged pages room [] = []
paged pages zero (r ∷ rs) = page (suc pages) ∷ bin r ∷ paged (suc pages) 49 rs
paged pages (suc room) (r ∷ rs) = bin r ∷ paged pages room rs

-- "From a new page": whatever room is left on the pages before, none of it is taken.
abbrev pub lines : (pages : ℕ) → List Row → List Line
lines pages rs = paged pages 0 rs

-- What is read off some lines: the numbers of their pages, how many pages they open, and the cartridges' rows.
unfoldable pub page_numbers : List Line → List ℕ
page_numbers [] = []
page_numbers (page number ∷ ls) = number ∷ page_numbers ls
page_numbers (bin r ∷ ls) = page_numbers ls

abbrev pub pages_on : List Line → ℕ
pages_on ls = length (page_numbers ls)

unfoldable pub rows_on : List Line → List Row
rows_on [] = []
rows_on (page number ∷ ls) = rows_on ls
rows_on (bin r ∷ ls) = r ∷ rows_on ls

-- "Cartridge number in 4, a space, class digit, a space, load in 8, a space, free units in 8, a space, masters held in 4, then 11 spaces"; "`PAGE`, a
-- space, the page number from 1 in 3, then spaces".
unfoldable pub characters : Line → List ℕ
characters (page number) = code "P" ∷ code "A" ∷ code "G" ∷ code "E" ∷ (spaces 1 ++ right 3 number ++ spaces 32)
characters (bin r) =
    right 4 r.number ++ spaces 1 ++ right 1 r.class ++ spaces 1 ++ right 8 r.load ++ spaces 1 ++
    right 8 r.free ++ spaces 1 ++ right 4 r.held ++ spaces 11

-- "Each line ends in a newline beyond the 40."
abbrev pub line_text : Line → List ℕ
line_text l = characters l ++ code "\n" ∷ []

abbrev pub lines_text : List Line → List ℕ
lines_text ls = flatten (map line_text ls)
