-- `check_rows`: what is still to come after the first i entries.
use Rattle.packing.specs.Plans.{plan_of}
use Rattle.plan_rows.proofs.Checking.{Checking}
use Rattle.plan_rows.proofs.check_rows.Given as goal

abbrev pub invariant-loop-i : goal.invariant-loop-i
invariant-loop-i l = Checking l.capacity l.k (plan_of l.sizes l.bins) l.items l.loads l.i
