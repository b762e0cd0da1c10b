-- The climb begins once the leaf is set, and ends at a node that holds as much already, or at the root.
use Rattle.std.proofs.Common.{arith}
use Rattle.tournament.proofs.Leaves.{leaf_node}
use Rattle.climb.proofs.Climb.{climb_start, climb_next, climb_end}
use Rattle.climb.proofs.raise.Goals as goal

pub loop-n-init : goal.loop-n-init
loop-n-init c = (_, climb_start c.requires.tree c.requires.inside, rw (leaf_node, c.requires.inside) at c.requires.rises)

pub returns-then-value-t : goal.returns-then-value-t
returns-then-value-t c =
    let inv = c.loop-n.invariant in
    climb_end c.requires.tree c.requires.inside inv.1 (λ l. omega (arith, inv.1.above l, inv.2))

pub loop-n-preserved : goal.loop-n-preserved
loop-n-preserved c =
    let inv = c.loop-n.invariant in
    let below = inv.1.above c.loop-n-test.true in
    (_, climb_next inv.1 c.loop-n-test.true _ (omega (arith, below)), omega arith)

pub returns : goal.returns
returns c = climb_end c.requires.tree c.requires.inside c.loop-n.invariant.1 (λ l. absurd (omega arith))
