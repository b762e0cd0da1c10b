-- The climb begins once the leaf is set, and ends at a node that holds its maximum already, or at the root.
use Rattle.std.proofs.Common.{arith}
use Rattle.climb.proofs.Climb.{climb_start, climb_next, climb_end}
use Rattle.climb.proofs.renew.Goals as goal

pub loop-n-init : goal.loop-n-init
loop-n-init c = (_, climb_start c.requires.tree c.requires.inside)

pub returns-then-t-base : goal.returns-then-t-base
returns-then-t-base c =
    climb_end c.requires.tree c.requires.inside c.loop-n.invariant.1
    (λ l. omega (arith, rw c.sibling_of-sibling.ensures at c.max-largest.ensures))

pub loop-n-preserved : goal.loop-n-preserved
loop-n-preserved c =
    (_, climb_next c.loop-n.invariant.1 c.loop-n-test.true _ (rw c.sibling_of-sibling.ensures at c.max-largest.ensures))

pub returns : goal.returns
returns c = climb_end c.requires.tree c.requires.inside c.loop-n.invariant.1 (λ l. absurd (omega arith))
