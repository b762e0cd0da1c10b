-- What is still to come leads from the packing and the answers so far to those at the end.
use Rattle.repack.proofs.Packing.{Underway}
use Rattle.repack.proofs.pack.Given as goal

abbrev pub invariant-loop-word : goal.invariant-loop-word
invariant-loop-word l = Underway l.capacity l.words l.initial.answers l.shape l.word-index l.count l.tree l.answers
