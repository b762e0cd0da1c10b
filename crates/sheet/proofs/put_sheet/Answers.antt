-- `put_sheet` meets its contract: each way out prints what the stream's length and verdict tell, and the row has room for it.
use Rattle.std.proofs.Common.{arith}
use Rattle.stream.proofs.Shelved.{shelved, shelved_opening}
use Rattle.report.proofs.Texts.{printing_long, printing_refused}
use Rattle.sheet.specs.Sheet.{sheet_text, sheet}
use Rattle.sheet.proofs.Shelved.{shelved_sheetable, shelved_sheet}
use Rattle.sheet.proofs.put_sheet.Goals as goal

pub returns-then-stream-gt-MOST_BYTES : goal.returns-then-stream-gt-MOST_BYTES
unfolding sheet
returns-then-stream-gt-MOST_BYTES c =
    rw (printing_long sheet_text c.args.stream.now c.if-stream-gt-MOST_BYTES.true) c.put_overlong.ensures

pub opening_of-opening-requires : goal.opening_of-opening-requires
opening_of-opening-requires c =
    let r = c.in-Ok.ensures in
    shelved_opening (shelved r.result r.recorded)

pub put_both-requires : goal.put_both-requires
put_both-requires c =
    let r = c.in-Ok.ensures in
    shelved_sheetable (shelved r.result r.recorded) c.opening_of-opening.result c.opening_of-opening.ensures _ (omega arith)

pub returns-in-Err : goal.returns-in-Err
unfolding sheet
returns-in-Err c =
    rw (printing_refused sheet_text c.args.stream.now c.if-stream-gt-MOST_BYTES.false _ c.in-Err.ensures.result) c.put_refusal.ensures

pub returns-in-Ok : goal.returns-in-Ok
returns-in-Ok c =
    let r = c.in-Ok.ensures in
    let opening = c.opening_of-opening in
    shelved_sheet (shelved r.result r.recorded) opening.result opening.ensures c.if-stream-gt-MOST_BYTES.false _ _ c.put_both.ensures
