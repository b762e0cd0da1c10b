-- `answer_stretch`: every run that had come so far at the beginning has come further, in the same production (Stretching). The measure is the length of the
-- rest.
use Rattle.std.proofs.Common.{length}
use Rattle.engine.specs.Store.{state}
use Rattle.stretch.proofs.Stretching.{Stretching}
use Rattle.stretch.proofs.answer_stretch.Given as goal

abbrev pub invariant-loop-rest : goal.invariant-loop-rest
invariant-loop-rest l =
    Stretching l.terms l.production l.commands l.initial.answers l.initial.free l.answered l.initial.looks.count
    (state l.initial.store l.initial.ledger l.initial.counters) l.rest l.answers l.free l.done l.looks.count
    (state l.store l.ledger l.counters)

abbrev pub decreases-loop-rest : goal.decreases-loop-rest
decreases-loop-rest l = length l.rest
