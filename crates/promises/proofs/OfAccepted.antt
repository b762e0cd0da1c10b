-- The promises of an accepted stream, of both productions and of each. Those of the worst case need an opening within its limits, which it has.
use Prim.Native.Nat.{ℕ}
use mathlib.Core.Path.{◌≡◌}
use mathlib.Core.List.{List}
use native.Mathlib.Omega.{arith}
use Rattle.packing.specs.declared.{Opening.Opening, Production.Production, Command.Command}
use Rattle.packing.specs.Streams.{accepted, verdict}
use Rattle.packing.proofs.Theorems.{holds_answered, never_overfull, true_sizes_fit, lowest_permitted, looks_taken_lem, free_units_lem, loads_add_up, withdrawals, settlings, stays, answers_in_range}
use Rattle.packing.proofs.Theorems.{opened, counts, productions}
use Rattle.alike.proofs.LeftOut.{refused_left_out}
use Rattle.alike.proofs.Storing.{by_stored_sizes}
use Rattle.worst_case.proofs.OwnPlan.{own_plan_of_stream}
use Rattle.worst_case.proofs.WorstCaseOfStream.{worst_case_of_stream}
use Rattle.worst_case.proofs.ExactFive.{exact_five_of_stream}
use Rattle.promises.specs.Promises.{OfBoth, OfOne}

module _ (stream : List ℕ) (words : ℕ) (o : Opening) (cs : List Command) (e : verdict stream words ≡ accepted o cs) where
  pub of_both : OfBoth o cs
  of_both =
      record {
        counts = counts o cs;
        productions = productions o cs;
        lowest_permitted = lowest_permitted o cs;
        looks = looks_taken_lem o cs;
        by_stored_sizes = by_stored_sizes o cs;
        withdrawals = withdrawals o cs;
        settlings = settlings o cs;
        refused_left_out = refused_left_out o cs;
        none_sharper = exact_five_of_stream stream words o cs e;
      }

  pub of_one : (q : Production) → OfOne o q cs
  of_one q =
      record {
        opened = opened o q cs;
        holds_answered = holds_answered o q cs;
        never_overfull = never_overfull o q cs;
        true_sizes_fit = true_sizes_fit o q cs;
        free_units = free_units_lem o q cs;
        loads_add_up = loads_add_up o q cs;
        stays = stays o q cs;
        answers_in_range = answers_in_range o q cs;
        own_plan_passes = own_plan_of_stream stream words o q cs e;
        worst_case = worst_case_of_stream 15 (omega arith) stream words o q cs e;
        sharper = worst_case_of_stream 12 (omega arith) stream words o q cs e;
        sharpest = worst_case_of_stream 5 (omega arith) stream words o q cs e;
      }
