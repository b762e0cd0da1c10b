-- "A vault sheet for the door": of a stream, the pages of its two productions, as text.
use Rattle.std.specs.Prelude.{List, ◌++◌, ℕ}
use Rattle.packing.specs.declared.{Opening.Opening, Production.Production, Command.Command}
use Rattle.packing.specs.declared.Production.TheVariants.{First, Second}
use Rattle.packing.specs.Run.{packing}
use Rattle.pages.specs.Pages.{Row, Line, rows, lines, pages_on, lines_text}
use Rattle.report.specs.Lines.{printing}

abbrev pub rows_of : Opening → Production → List Command → List Row
rows_of o q cs = rows o (packing o q cs)

-- "The vault sheet prints production 0 and then 1, each from a new page, page numbers running on": the rows of the one, and then of the other behind
-- the pages of the one. One with no bin has no page.
abbrev pub both_lines : (first second : List Row) → List Line
both_lines first second = lines 0 first ++ lines (pages_on (lines 0 first)) second

abbrev pub sheet_lines : Opening → List Command → List Line
sheet_lines o cs = both_lines (rows_of o First cs) (rows_of o Second cs)

abbrev pub sheet_text : Opening → List Command → List ℕ
sheet_text o cs = lines_text (sheet_lines o cs)

-- "A refused stream prints no sheet, only the `X` or `L` line of `shelve`."
unfoldable pub sheet : (stream : List ℕ) → List ℕ
sheet stream = printing sheet_text stream
