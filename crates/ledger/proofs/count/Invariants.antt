-- `count`: every place before the one it stands at is opened and was read.
use Rattle.std.proofs.Common.{◌-◌}
use Rattle.ledger.proofs.Counting.{Passed}
use Rattle.ledger.proofs.count.Given as goal

abbrev pub invariant-loop-place : goal.invariant-loop-place
invariant-loop-place l = Passed l.ledger l.stock l.place l.read

-- the places that are left
abbrev pub decreases-loop-place : goal.decreases-loop-place
decreases-loop-place l = l.stock - l.place
