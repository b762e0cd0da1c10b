-- `scan`: a walk over the commands that keeps their number; the offset is told by what is left. The measure is the length of the rest.
use Rattle.std.proofs.Common.{◌≡◌, ℕ, List, length}
use Rattle.packing.specs.declared.{Opening.Opening, Command.Command}
use Rattle.packing.proofs.Walking.{Walk}
use Rattle.reader.proofs.scan.Given as goal

-- So many commands are read.
pub record Scanned (o : Opening) (stream rest : List ℕ) (count : ℕ) : Type 0 where
  pub past : List Command
  pub offset : ℕ
  pub walk : Walk o stream rest offset past
  pub number : length past ≡ count

abbrev pub invariant-loop-rest : goal.invariant-loop-rest
invariant-loop-rest l = Scanned l.opening l.stream l.rest l.commands

abbrev pub decreases-loop-rest : goal.decreases-loop-rest
decreases-loop-rest l = length l.rest
