-- `operand`: the bytes still to come complete the operand (Operands).
use Rattle.fronts.proofs.Operands.{Begun}
use Rattle.fronts.proofs.operand.Given as goal

abbrev pub invariant-loop-byte : goal.invariant-loop-byte
invariant-loop-byte l = Begun l.byte-items l.n l.byte-index
