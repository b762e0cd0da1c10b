-- What is promised of the sheet, as statements; ../proofs shows each of every opening and every list of commands, the first of them where the opening
-- is within its limits and the commands are at most 4,096, as in every accepted stream.
use Rattle.std.specs.Prelude.{◌≡◌, ℕ, ◌+◌, length}
use mathlib.Core.List.{List, ◌++◌, map, flatten, Memᴰ}
use Rattle.packing.specs.declared.{Opening.Opening, Production.Production, Command.Command}
use Rattle.packing.specs.declared.Production.TheVariants.{First, Second}
use Rattle.packing.specs.Prelude.{total}
use Rattle.packing.specs.Bins.{opened}
use Rattle.packing.specs.Limits.{most_commands}
use Rattle.packing.specs.Streams.{accepted, verdict}
use Rattle.packing.specs.Run.{packing}
use Rattle.packing.specs.Compared.{shelved_sizes}
use Rattle.pages.specs.Pages.{Row, Line, page_numbers, rows_on, characters}
use Rattle.pages.specs.Claims.{count_up, pages_of, with_page}
use Rattle.sheet.specs.Sheet.{rows_of, sheet_lines}

module _ (o : Opening) (cs : List Command) where
  -- "Each line has exactly 40 characters."
  abbrev pub LinesOf40 : Type 0
  LinesOf40 = (l : Line) → Memᴰ l (sheet_lines o cs) → length (characters l) ≡ 40

  -- "Every opened cartridge and no other has one line, in rising number": the cartridge lines on the sheet are production 0's rows and then 1's, and
  -- the rows of each have the numbers of its bins, from 1 on.
  pub record OneRowEach : Type 0 where
    pub both : rows_on (sheet_lines o cs) ≡ rows_of o First cs ++ rows_of o Second cs
    pub numbers : (q : Production) → map (λ r. r.number) (rows_of o q cs) ≡ count_up 1 (opened (packing o q cs))

  -- "Loads on the sheet must add up to the accepted sizes": in each production, to those still shelved.
  abbrev pub SheetLoadsAddUp : Type 0
  SheetLoadsAddUp = (q : Production) → total (map (λ r. r.load) (rows_of o q cs)) ≡ total (shelved_sizes o q cs)

  -- On each cartridge line, what is free and what is loaded make up the capacity.
  abbrev pub FreeAndLoad : Type 0
  FreeAndLoad = (r : Row) → Memᴰ r (rows_on (sheet_lines o cs)) → r.free + r.load ≡ o.capacity

  -- A page opens before cartridge 1, 51, 101 and so on of each production, and nowhere else: so production 1 starts a new page, however short the last
  -- one is. Its pages count on after those of production 0.
  abbrev pub PagesOpen : Type 0
  PagesOpen =
      sheet_lines o cs
      ≡ flatten (map (with_page 0) (rows_of o First cs)) ++ flatten (map (with_page (pages_of (opened (packing o First cs)))) (rows_of o Second cs))

  -- "Page numbers running on": those on the sheet are 1, 2, 3 and so on, as many as the two productions' pages; none where nothing is opened.
  abbrev pub PagesRunOn : Type 0
  PagesRunOn = page_numbers (sheet_lines o cs) ≡ count_up 1 (pages_of (opened (packing o First cs)) + pages_of (opened (packing o Second cs)))

  -- All of it.
  pub record OfSheet : Type 0 where
    pub lines_of_40 : LinesOf40
    pub one_row_each : OneRowEach
    pub loads_add_up : SheetLoadsAddUp
    pub free_and_load : FreeAndLoad
    pub pages_open : PagesOpen
    pub pages_run_on : PagesRunOn

-- Of every accepted stream.
abbrev pub SheetPromises : (stream : List ℕ) → Type 0
SheetPromises stream = (o : Opening) (cs : List Command) → verdict stream most_commands ≡ accepted o cs → OfSheet o cs
