-- What is promised of the lines of rows whose numbers rise from 1, behind so many pages: where a page opens, and under which number. ../proofs/Lined
-- shows it of every list of such rows.
use Rattle.std.specs.Prelude.{◌≡◌, ℕ, zero, suc, ◌+◌, ◌/◌, ◌%◌, length, if◌then◌else◌}
use mathlib.Core.List.{List, [], ◌∷◌, ◌++◌, map, flatten}
use Rattle.packing.specs.Prelude.{◌=?◌}
use Rattle.pages.specs.Pages.{Row, Line, page, bin, lines, page_numbers, rows_on}

-- so many numbers, rising from the first
unfoldable pub count_up : (first count : ℕ) → List ℕ
count_up first zero = []
count_up first (suc count) = first ∷ count_up (suc first) count

-- So many rows have so many pages.
abbrev pub pages_of : (count : ℕ) → ℕ
pages_of count = (count + 49) / 50

-- The line of a row, behind that of the page which it opens, if it does: rows 1, 51, 101 and so on open the first page, the second, the third and so
-- on behind those before.
abbrev pub with_page : (pages : ℕ) → Row → List Line
with_page pages r = (if r.number % 50 =? 1 then page (pages + r.number / 50 + 1) ∷ [] else []) ++ bin r ∷ []

pub record Lined (pages : ℕ) (rs : List Row) : Type 0 where
  -- Each row has its line, in their order, and no other has one.
  pub rows_are : rows_on (lines pages rs) ≡ rs
  -- A page opens before row 1, 51, 101 and so on, and nowhere else.
  pub opens : lines pages rs ≡ flatten (map (with_page pages) rs)
  -- The numbers of the pages count on, and there are no more pages than the rows need.
  pub numbered : page_numbers (lines pages rs) ≡ count_up (suc pages) (pages_of (length rs))
