-- The lines of the commands past are written (Listing), and as many words are past.
use Rattle.std.specs.Iterator.Adapters.{enumerate_count}
use Rattle.answer_lines.proofs.Listing.{Listing}
use Rattle.answer_lines.proofs.Beside.{Beside}
use Rattle.answer_lines.proofs.put_answers.Given as goal

abbrev pub invariant-loop-done : goal.invariant-loop-done
invariant-loop-done l = record {
  lines : Listing l.stream l.words l.free l.fn.text l.text l.rest (enumerate_count l.done-iterator);
  beside : Beside l.words l.free l.done-iterator;
}
