-- The figures so far are written, and those to come have room.
use Rattle.text.proofs.Figures.{Figuring}
use Rattle.text.proofs.Text.put_figures.Given as goal

abbrev pub invariant-loop-n : goal.invariant-loop-n
invariant-loop-n l = Figuring l.fn.self l.self l.numbers l.n-index
