-- `answer_turns`: every stream that had come so far at the first turn has come further (Turning). The measure is the length of the rest: the first stretch
-- of a turn passes a byte at least.
use Rattle.std.proofs.Common.{length}
use Rattle.engine.specs.Store.{state}
use Rattle.turns.proofs.Going.{Turning}
use Rattle.turns.proofs.answer_turns.Given as goal

abbrev pub invariant-loop-later : goal.invariant-loop-later
invariant-loop-later l =
    Turning l.opening l.shape l.commands l.initial.answers l.initial.free l.initial.turn.done l.initial.turn.looks.count
    (state l.initial.store l.initial.ledger l.initial.turn.counters) l.initial.other l.answers l.free l.later l.turn.done l.turn.looks.count
    (state l.store l.ledger l.turn.counters) (state l.store1 l.other l.second)

abbrev pub decreases-loop-later : goal.decreases-loop-later
decreases-loop-later l = length l.later
