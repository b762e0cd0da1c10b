-- Demand 3 of each production: its steps in a run are a trace, and the bound of a trace applies where nothing is taken out of it and nothing is settled. It
-- gives the constant 5, and so every one above it.
use Prim.Native.Nat.{ℕ, ◌≤◌}
use mathlib.Core.Path.{◌≡◌}
use mathlib.Core.Bool.{true}
use mathlib.Core.List.{List}
use native.Mathlib.Omega.{arith}
use borrow.Author.Tests.{not-true}
use lib.ListN.{take}
use Rattle.packing.specs.declared.{Opening.Opening, Production.Production, Command.Command}
use Rattle.packing.specs.Prelude.{any}
use Rattle.packing.specs.Limits.{opening_good}
use Rattle.packing.specs.Run.{steps}
use Rattle.packing.specs.Compared.{is_altered}
use Rattle.packing.proofs.Moves.{trace}
use Rattle.worst_case.specs.WorstCase.{WorstCase}
use Rattle.worst_case.proofs.TraceBound.{trace_five}

pub worst_case : (C : ℕ) → 5 ≤ C → (o : Opening) (q : Production) (cs : List Command) → opening_good o ≡ true → WorstCase C o q cs
worst_case C enough o q cs good j k plan none ok =
    omega
    (arith, trace_five o (trace o q (take j cs)) (not-true (any (λ t. is_altered t.outcome) (steps o q (take j cs))) none) k plan ok good)
