-- So many spaces are written.
use Rattle.text.specs.Writing.{Appended}
use Rattle.fields.specs.Fields.{spaces}
use Rattle.fields.proofs.put_spaces.Given as goal

abbrev pub invariant-loop : goal.invariant-loop
invariant-loop l = Appended l.fn.text (spaces l.counter) l.text
