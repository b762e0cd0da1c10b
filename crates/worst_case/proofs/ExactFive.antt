-- The 5 is exact: it serves, and one stream and plan have 3 times the number opened equal to 5 times the bins used, plus 5, whatever m is. Its
-- commands are all of production 0: a constant that serves for either production serves for that one.
use Prim.Native.Nat.{ℕ, ◌+◌, ◌*◌, ◌%◌, ◌≤◌}
use mathlib.Core.Path.{◌≡◌, refl}
use mathlib.Core.Bool.{true, false}
use mathlib.Core.List.{List, [], ◌∷◌, map, zip_with, flatten}
use native.Mathlib.Omega.{arith}
use native.Mathlib.Nat.{mod-eq_of_lt}
use lib.Dec.{eqb}
use Rattle.packing.specs.declared.{Opening.Opening, Command.Command, Entry.Entry}
use Rattle.packing.specs.declared.Production.TheVariants.{First}
use Rattle.packing.specs.declared.Command.TheVariants.{Shelve}
use Rattle.packing.specs.Prelude.{total, greatest, any}
use Rattle.packing.specs.Refusing.{pass}
use Rattle.packing.specs.Limits.{m_good, opening_good}
use Rattle.packing.specs.SizeClasses.{size_class}
use Rattle.packing.specs.Placing.{first_fit, put, decision, placed}
use Rattle.packing.specs.Run.{run_from, steps_of}
use Rattle.packing.specs.Plans.{plan_of, limits, fault, entries, check}
use Rattle.packing.specs.Compared.{accepted_sizes, number_opened, none_altered, used}
use Rattle.worst_case.specs.ExactFive.{Least, ExactFive}
use Rattle.packing.specs.Streams.{accepted, verdict}
use Rattle.packing.proofs.Limits.{within_limits, limits_within, in_limits}
use Rattle.packing.proofs.Accepted.{accepted_whole}
use Rattle.worst_case.proofs.WorstCase.{worst_case}

abbrev opening : ℕ → Opening
opening m = record { capacity = 11; stock = 512; m = m; trailer = 0 }

-- Sizes of all four classes, and two A that do not go together: five bins.
abbrev sizes : List ℕ
sizes = 6 ∷ 5 ∷ 6 ∷ 4 ∷ 1 ∷ []

abbrev cs : List Command
cs = map Shelve sizes

-- They fill two.
abbrev plan : List Entry
plan = plan_of sizes (1 ∷ 1 ∷ 2 ∷ 2 ∷ 2 ∷ [])

record Met (m : ℕ) : Type 0 where
  good : opening_good (opening m) ≡ true
  passes : check 11 2 plan (accepted_sizes (opening m) First cs) ≡ pass
  none : none_altered (opening m) First cs ≡ true
  equal : 3 * number_opened (opening m) First cs ≡ 5 * used plan + 5

-- The one B2 is not an m-th.
no_turn : (m : ℕ) → 6 ≤ m → eqb (1 % m) 0 ≡ false
no_turn m h = rw (mod-eq_of_lt {n = 1} {m = m} (omega arith))

met : (m : ℕ) → m_good m ≡ true → Met m
unfolding size_class total greatest any first_fit put decision placed run_from steps_of zip_with flatten used limits fault entries check
met m h =
    let no-m-th = no_turn m (within_limits 6 9 m h).0 in
    record { good = rw h; passes = rw no-m-th; none = rw no-m-th; equal = rw no-m-th }

-- The bound gives the 5, and a D that serves, serves after the five commands.
pub exact_five : ExactFive
exact_five m h =
    let e = met m h in
    record {
      serves = λ o q cs same good j k plan none ok. omega (arith, worst_case 5 (omega arith) o q cs good j k plan none ok);
      no_smaller = λ D serves. omega (arith, e.equal, serves (opening m) First cs refl e.good 5 2 plan e.none e.passes);
    }

-- In particular for the m of every accepted stream.
pub exact_five_of_stream : (stream : List ℕ) (words : ℕ) (o : Opening) (cs : List Command) → verdict stream words ≡ accepted o cs → Least o.m 5
exact_five_of_stream stream words o cs h = let m = (in_limits o (accepted_whole words o cs stream h).opening_is_good).m in exact_five o.m (limits_within 6 9 o.m m.0 m.1)
