-- Demand 3 of every accepted stream, whose opening is within its limits.
use Prim.Native.Nat.{ℕ, ◌≤◌}
use mathlib.Core.Path.{◌≡◌}
use mathlib.Core.List.{List}
use Rattle.packing.specs.declared.{Opening.Opening, Production.Production, Command.Command}
use Rattle.packing.specs.Streams.{accepted, verdict}
use Rattle.packing.proofs.Accepted.{accepted_whole}
use Rattle.worst_case.specs.WorstCase.{WorstCase}
use Rattle.worst_case.proofs.WorstCase.{worst_case}

-- Of both productions.
pub worst_case_of_stream : (C : ℕ) → 5 ≤ C → (stream : List ℕ) (words : ℕ) (o : Opening) (q : Production) (cs : List Command) → verdict stream words ≡ accepted o cs
    → WorstCase C o q cs
worst_case_of_stream C enough stream words o q cs h = worst_case C enough o q cs (accepted_whole words o cs stream h).opening_is_good
