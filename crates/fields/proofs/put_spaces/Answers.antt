-- `put_spaces` meets its contract: each turn writes one space more.
use Rattle.std.proofs.Common.{arith}
use Rattle.text.proofs.Texts.{appended_none, appended_both}
use Rattle.fields.proofs.Widths.{spaces_length, spaces_more}
use Rattle.fields.proofs.put_spaces.Goals as goal

pub loop-init : goal.loop-init
loop-init c = appended_none c.args.text.now

pub put_byte-requires : goal.put_byte-requires
put_byte-requires c = omega (arith, spaces_length c.loop.counter)

pub loop-preserved : goal.loop-preserved
loop-preserved c = rw (← spaces_more c.loop.counter) (appended_both c.loop.invariant c.put_byte.ensures)
