-- `check_sizes`: what the walk finds from place i on is the answer.
use Rattle.std.proofs.Common.{◌≡◌}
use Rattle.packing.specs.Rows.{check_sizes}
use Rattle.row_limits.proofs.Walked.{rest}
use Rattle.row_limits.proofs.check_sizes.Given as goal

abbrev pub invariant-loop-i : goal.invariant-loop-i
invariant-loop-i l = check_sizes l.capacity l.first l.sizes ≡ rest l.capacity l.first l.i l.sizes
