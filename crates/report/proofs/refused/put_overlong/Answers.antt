-- `put_overlong` meets its contract: a row has room for the line.
use Rattle.std.proofs.Common.{arith}
use Rattle.report.proofs.Texts.{long_length}
use Rattle.report.proofs.refused.put_overlong.Goals as goal

pub put_line-requires : goal.put_line-requires
put_line-requires c = omega (arith, long_length, c.requires)
