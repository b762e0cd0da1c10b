-- Every node is right but the parent of n.
use Rattle.std.proofs.Common.{ℕ}
use Rattle.climb.proofs.Climb.{Climb}
use Rattle.climb.proofs.renew.Given as goal

abbrev pub invariant-loop-n : goal.invariant-loop-n
invariant-loop-n l = (w : ℕ) × Climb l.base l.places l.initial.t l.t l.n w l.largest

abbrev pub decreases-loop-n : goal.decreases-loop-n
decreases-loop-n l = l.n
