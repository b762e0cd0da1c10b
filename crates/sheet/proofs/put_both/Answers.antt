-- `put_both` meets its contract: the lines of production 0, and behind them those of production 1. The bins that are counted are those
-- of each production, after whatever commands the ledgers record.
use Rattle.std.proofs.Common.{arith}
use Rattle.packing.specs.declared.Production.TheVariants.{First, Second}
use Rattle.sheet.proofs.Theorems.{printable}
use Rattle.sheet.proofs.Ledgers.{counted, first_legible, second_legible, sheet_stands}
use Rattle.sheet.proofs.put_both.Goals as goal

pub put_lines-requires : goal.put_lines-requires
put_lines-requires c =
    let g = c.requires in
    let k = g.records in
    first_legible g.opening_is_good g.commands g.commands_few k _ (counted g.opening_is_good First g.commands k.first_is _ c.count-tally0.ensures) _ g.room

pub pages_of-before-requires : goal.pages_of-before-requires
pages_of-before-requires c =
    let g = c.requires in
    omega (
      arith,
      counted g.opening_is_good First g.commands g.records.first_is c.count-tally0.result c.count-tally0.ensures,
      (printable c.args.opening g.commands g.opening_is_good g.commands_few First).bins_few,
    )

pub put_lines-requires-2 : goal.put_lines-requires-2
put_lines-requires-2 c =
    let g = c.requires in
    let good = g.opening_is_good in
    let k = g.records in
    second_legible good g.commands g.commands_few k _ (counted good First g.commands k.first_is _ c.count-tally0.ensures) _ g.room
    c.put_lines.ensures _ (counted good Second g.commands k.second_is _ c.count-tally1.ensures) _ c.pages_of-before.ensures

pub returns : goal.returns
returns c =
    let good = c.requires.opening_is_good in
    λ cs few k. sheet_stands good cs few k _ (counted good First cs k.first_is _ c.count-tally0.ensures) _ c.requires.room
    c.put_lines.ensures _ (counted good Second cs k.second_is _ c.count-tally1.ensures) _ c.pages_of-before.ensures c.put_lines-2.ensures
