-- `check_plan`: what is still to come after the first i entries.
use Rattle.std.proofs.Common.{length}
use Rattle.plan_rows.proofs.Checking.{Checking}
use Rattle.plan.proofs.check_plan.Given as goal

abbrev pub invariant-loop-i : goal.invariant-loop-i
invariant-loop-i l = Checking l.capacity l.k l.plan l.items l.loads (length l.yielded)
