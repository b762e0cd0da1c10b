-- The counts of ../specs/Worked.antt, proved together by one theorem that computes over them.
use Rattle.std.specs.Prelude.{◌≡◌, refl, map, replicate}
use Rattle.pages.specs.Pages.{paged, lines, page_numbers, pages_on}
use Rattle.pages.specs.Worked.{some_row, counts}

pub worked_pages : map (λ c. pages_on (lines 0 (replicate c.0 some_row))) counts ≡ map (λ c. c.1) counts
unfolding counts paged page_numbers
worked_pages = refl
