-- What is still to come leads from the pairs and the answers so far to those at the end.
use Rattle.pairs.proofs.Walking.{Underway}
use Rattle.pairs.proofs.walk.Given as goal

abbrev pub invariant-loop-sound : goal.invariant-loop-sound
invariant-loop-sound l = Underway l.capacity l.pictures l.sounds l.initial.answers l.answers l.paired l.sound-iterator.iter.rest.now
