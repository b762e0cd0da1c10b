-- The tables of ../specs/Worked.antt, proved together by theorems that compute over them.
use Rattle.std.specs.Prelude.{◌≡◌, refl, map, replicate}
use mathlib.Core.List.{flatten}
use Rattle.packing.specs.Placing.{first_fit, put, decision, placed}
use Rattle.packing.specs.Run.{shelf_from}
use Rattle.packing.specs.Prelude.{total, any}
use Rattle.packing.specs.SizeClasses.{size_class}
use Rattle.packing.specs.Streams.{widths, lookup, commands, read}
use Rattle.text.specs.Lines.{digits, decimal, line}
use Rattle.pages.specs.Pages.{rows_from, paged, page_numbers, pages_on, characters}
use Rattle.pages.specs.Worked.{some_row}
use Rattle.report.specs.Lines.{text, printing}
use Rattle.report.specs.Worked.{bytes}
use Rattle.sheet.specs.Sheet.{both_lines, sheet}
use Rattle.sheet.specs.Worked.{table, counts}

pub worked_sheets : map (λ c. sheet c.0) table ≡ map (λ c. bytes c.1) table
unfolding table bytes sheet printing text line decimal digits size_class total any first_fit put decision placed shelf_from flatten widths lookup commands read rows_from paged page_numbers characters
worked_sheets = refl

pub worked_pages : map (λ c. pages_on (both_lines (replicate c.0.0 some_row) (replicate c.0.1 some_row))) counts ≡ map (λ c. c.1) counts
unfolding counts paged page_numbers
worked_pages = refl
