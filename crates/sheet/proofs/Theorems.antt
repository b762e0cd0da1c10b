-- The statements of ../specs/Claims.antt, proved.
use mathlib.Core.Path.{◌≡◌, ap, ◌∙◌}
use mathlib.Core.Logic.{⊎_elim}
use mathlib.Core.Bool.{true}
use mathlib.Core.List.Memᴰ
use mathlib.Core.List.{List, ◌++◌, map, flatten}
use Prim.Native.Nat.{ℕ, suc, ◌+◌, ◌≤◌}
use native.Mathlib.Omega.{arith}
use lib.ListN.{length}
use lib.Seq.{take-length}
use Rattle.packing.specs.declared.{Opening.Opening, Production.Production, Command.Command}
use Rattle.packing.specs.declared.Production.TheVariants.{First, Second}
use Rattle.packing.specs.Prelude.{total}
use Rattle.packing.specs.Bins.{opened}
use Rattle.packing.specs.Limits.{opening_good, most_commands}
use Rattle.packing.specs.Streams.{accepted, verdict}
use Rattle.packing.specs.Run.{packing, still_shelved}
use Rattle.packing.proofs.Limits.{in_limits}
use Rattle.packing.proofs.Accepted.{accepted_whole}
use Rattle.packing.proofs.Reached.{reached}
use Rattle.packing.proofs.Running.{shelved_few}
use Rattle.packing.proofs.Shelved.{held_shelved}
use Rattle.packing.proofs.Theorems.{loads_add_up}
use Rattle.ledger.specs.Rows.{places}
use Rattle.pages.specs.Pages.{Row, Line, lines, page_numbers, pages_on, rows_on}
use Rattle.pages.specs.Claims.{count_up, pages_of, with_page}
use Rattle.pages.proofs.Bins.{Printable, row_numbers, row_loads, bins_count, bins_lined, bins_pages, row_capacity}
use Rattle.pages.proofs.Forty.{lines_40}
use Rattle.sheet.specs.Sheet.{rows_of, sheet_lines}
use Rattle.sheet.specs.Claims.{LinesOf40, OneRowEach, SheetLoadsAddUp, FreeAndLoad, PagesOpen, PagesRunOn, SheetPromises}
use Rattle.sheet.proofs.Both.{numbers_both, rows_both, count_on}

module _ (o : Opening) (cs : List Command) where
  -- The pages of production 0, as many as its bins have, stand before those of production 1.
  abbrev before : ℕ
  before = pages_on (lines 0 (rows_of o First cs))

  pub before_is : before ≡ pages_of (opened (packing o First cs))
  before_is = bins_pages o 0 (packing o First cs)

  sheet_rows : rows_on (sheet_lines o cs) ≡ rows_of o First cs ++ rows_of o Second cs
  sheet_rows =
      rows_both (lines 0 (rows_of o First cs)) (lines before (rows_of o Second cs))
      ∙ ap (λ (rs : List Row). rs ++ rows_on (lines before (rows_of o Second cs))) (bins_lined o 0 (packing o First cs)).rows_are
      ∙ ap (λ (rs : List Row). rows_of o First cs ++ rs) (bins_lined o before (packing o Second cs)).rows_are

  pub one_row_each : OneRowEach o cs
  one_row_each = record { both = sheet_rows; numbers = λ q. row_numbers o 1 (packing o q cs).bins }

  pub sheet_loads_add_up : SheetLoadsAddUp o cs
  sheet_loads_add_up q = ap total (row_loads o 1 (packing o q cs).bins) ∙ rw take-length at (loads_add_up o q cs (length cs))

  pub free_and_load : FreeAndLoad o cs
  free_and_load r m =
      ⊎_elim (row_capacity o (packing o First cs) (reached o First cs).bins_sound r) (row_capacity o (packing o Second cs) (reached o Second cs).bins_sound r)
      (Memᴰ.append_cases (rows_of o First cs) (rw sheet_rows at m))

  pub pages_open : PagesOpen o cs
  pages_open =
      let second = rows_of o Second cs in
      let first = flatten (map (with_page 0) (rows_of o First cs)) in
      ap (λ (ls : List Line). ls ++ lines before second) (bins_lined o 0 (packing o First cs)).opens
      ∙ ap (λ (k : ℕ). first ++ lines k second) before_is
      ∙ ap (λ (ls : List Line). first ++ ls) (bins_lined o (pages_of (opened (packing o First cs))) (packing o Second cs)).opens

  pub pages_run_on : PagesRunOn o cs
  pages_run_on =
      let p = packing o First cs in
      let q = packing o Second cs in
      let second = rows_of o Second cs in
      let n = pages_of (opened p) in
      let next : suc n ≡ 1 + n = omega arith in
      numbers_both (lines 0 (rows_of o First cs)) (lines before second)
      ∙ ap (λ (k : ℕ). page_numbers (lines 0 (rows_of o First cs)) ++ page_numbers (lines k second)) before_is
      ∙ ap (λ (ns : List ℕ). ns ++ page_numbers (lines n second)) ((bins_lined o 0 p).numbered ∙ ap (λ (k : ℕ). count_up 1 (pages_of k)) (bins_count o p))
      ∙ ap (λ (ns : List ℕ). count_up 1 n ++ ns) ((bins_lined o n q).numbered ∙ ap (λ (k : ℕ). count_up (suc n) (pages_of k)) (bins_count o q))
      ∙ ap (λ (k : ℕ). count_up 1 n ++ count_up k (pages_of (opened q))) next ∙ count_on 1 n (pages_of (opened q))

  module _ (good : opening_good o ≡ true) (few : length cs ≤ most_commands) where
    shelved_each : (q : Production) → length (still_shelved o q cs) ≤ most_commands
    shelved_each First = omega (arith, shelved_few o cs)
    shelved_each Second = omega (arith, shelved_few o cs)

    pub printable : (q : Production) → Printable o (packing o q cs)
    printable q =
        record {
          bins_few = omega (arith, (reached o q cs).stock_lasts, (in_limits o good).stock.1);
          sound = (reached o q cs).bins_sound;
          capacity_few = omega (arith, (in_limits o good).capacity.1);
          items_few = omega (arith, held_shelved o q cs, shelved_each q);
        }

    pub before_few : before ≤ places
    before_few = omega (arith, before_is, (printable First).bins_few)

    pub lines_of_40 : LinesOf40 o cs
    lines_of_40 l m =
        ⊎_elim (lines_40 0 (omega arith) (printable First) l) (lines_40 before before_few (printable Second) l)
        (Memᴰ.append_cases (lines 0 (rows_of o First cs)) m)

-- The same of every accepted stream.
pub lines_of_40_of_stream : (stream : List ℕ) (words : ℕ) (o : Opening) (cs : List Command) → verdict stream words ≡ accepted o cs → LinesOf40 o cs
lines_of_40_of_stream stream words o cs h = let good = accepted_whole words o cs stream h in lines_of_40 o cs good.opening_is_good good.commands_few

-- All that is promised of the sheet of an accepted stream.
pub sheet_promises : (stream : List ℕ) → SheetPromises stream
sheet_promises stream o cs h =
    record {
      lines_of_40 = lines_of_40_of_stream stream most_commands o cs h;
      one_row_each = one_row_each o cs;
      loads_add_up = sheet_loads_add_up o cs;
      free_and_load = free_and_load o cs;
      pages_open = pages_open o cs;
      pages_run_on = pages_run_on o cs;
    }
