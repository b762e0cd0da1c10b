-- `put_figures` meets its contract: each turn writes the next figure behind those before it, and the newline comes last.
use Rattle.std.proofs.Common.{arith}
use Rattle.text.proofs.Texts.{appended_both}
use Rattle.text.proofs.Figures.{figuring_room, figuring_next, figuring_end}
use Rattle.text.proofs.Text.put_figures.Goals as goal

pub put_decimal-requires : goal.put_decimal-requires
put_decimal-requires c = omega (arith, figuring_room c.loop-n.invariant c.loop-n-test.true)

pub loop-n-preserved : goal.loop-n-preserved
loop-n-preserved c = figuring_next c.loop-n.invariant c.loop-n-test.true (appended_both c.put_byte.ensures c.put_decimal.ensures)

pub returns : goal.returns
returns c = figuring_end c.loop-n.invariant c.loop-n-test.false c.put_byte-2.ensures
