-- `put_printed` meets its contract: each way out prints what the stream's length and verdict tell, and the row has room for it.
use Rattle.std.proofs.Common.{◌≡◌, ℕ, ◌≤◌, List, [], ◌∷◌, length, arith}
use Prim.Native.Char.{code}
use Rattle.packing.specs.declared.StreamTotals.{StreamTotals}
use Rattle.packing.specs.Prelude.{Ok}
use Rattle.packing.specs.Limits.{most_commands}
use Rattle.packing.specs.Streams.{verdict}
use Rattle.packing.specs.Run.{result}
use Rattle.text.specs.declared.Text.{Text}
use Rattle.text.specs.Lines.{line}
use Rattle.text.specs.Writing.{Appended}
use Rattle.text.proofs.Texts.{appended_both}
use Rattle.answer_lines.specs.Writing.{Listed}
use Rattle.report.specs.Lines.{answers_text, most_bytes, printed}
use Rattle.report.proofs.Texts.{printing_long, printing_refused, totals_short, printed_accepted}
use Rattle.report.proofs.put_printed.Goals as goal

-- An accepted stream: the lines of its answers are listed. The totals are the last that is printed.
totals_stand : {stream : List ℕ} {text text' text'' : Text} {totals : StreamTotals} → Ok totals ≡ result (verdict stream most_commands) → length stream ≤ most_bytes
    → Listed stream text text' → Appended text' (line (code "T") (totals.items ∷ totals.opened ∷ totals.looks ∷ [])) text'' → Appended text (printed stream) text''
totals_stand {stream} {totals = totals} e short l w =
    rw (printed_accepted stream totals e l.opening l.commands l.accepts short) (appended_both l.wrote w)

pub returns-then-stream-gt-MOST_BYTES : goal.returns-then-stream-gt-MOST_BYTES
unfolding printed
returns-then-stream-gt-MOST_BYTES c =
    rw (printing_long answers_text c.args.stream.now c.if-stream-gt-MOST_BYTES.true) c.put_overlong.ensures

pub put_line-requires : goal.put_line-requires
put_line-requires c = omega (arith, totals_short c.args.stream.now _ c.in-Ok.ensures.result)

pub returns-in-Err : goal.returns-in-Err
unfolding printed
returns-in-Err c =
    rw (printing_refused answers_text c.args.stream.now c.if-stream-gt-MOST_BYTES.false _ c.in-Err.ensures.result) c.put_refusal.ensures

pub returns-in-Ok : goal.returns-in-Ok
returns-in-Ok c = totals_stand c.in-Ok.ensures.result c.if-stream-gt-MOST_BYTES.false c.put_answers.ensures c.put_line.ensures
