-- `width_of`: no row before has the opcode.
use Rattle.std.proofs.Common.{◌≡◌, drop}
use Rattle.packing.specs.Streams.{widths, lookup}
use Rattle.fronts.proofs.width_of.Given as goal

abbrev pub invariant-loop-row : goal.invariant-loop-row
invariant-loop-row l = lookup l.opcode widths ≡ lookup l.opcode (drop l.row-index widths)
