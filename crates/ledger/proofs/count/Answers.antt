-- `count` meets its contract: every place before the one it stands at is opened and was read.
use Rattle.std.proofs.Common.{arith}
use Rattle.ledger.proofs.Counting.{goes_on, ends_early, ends_last, tally}
use Rattle.ledger.proofs.count.Goals as goal

pub loop-place-preserved : goal.loop-place-preserved
loop-place-preserved c = goes_on c.requires c.loop-place.invariant (omega arith) c.if-row-eq0.false

pub returns-then-place-stock : goal.returns-then-place-stock
returns-then-place-stock c = tally c.requires (ends_last c.requires c.loop-place.invariant (omega arith))

pub returns-then-row-eq0 : goal.returns-then-row-eq0
returns-then-row-eq0 c = tally c.requires (ends_early c.requires c.loop-place.invariant (omega arith) c.if-row-eq0.true)
