-- A production's own plan passes: it fits, and the checker is exact. Its sizes are in order by definition; that they, the numbers and the loads are within
-- their limits is known of its items still shelved. (Of these are no more than commands in both productions together, so no more in one.)
use Prim.Native.Nat.{ℕ, ◌≤◌}
use mathlib.Core.Path.{◌≡◌, refl}
use mathlib.Core.Bool.{true}
use mathlib.Core.List.{List}
use native.Mathlib.Omega.{arith}
use lib.ListN.{length, length-map}
use Rattle.packing.specs.declared.{Opening.Opening, Production.Production, Command.Command}
use Rattle.packing.specs.declared.Production.TheVariants.{First, Second}
use Rattle.packing.specs.Limits.{opening_good, most_commands}
use Rattle.packing.specs.Streams.{accepted, verdict}
use Rattle.packing.specs.Run.{entry_of, still_shelved}
use Rattle.packing.specs.Compared.{number_opened}
use Rattle.packing.proofs.Limits.{in_limits}
use Rattle.packing.proofs.Tests.{each_map}
use Rattle.packing.proofs.Reached.{reached}
use Rattle.packing.proofs.Numbers.{opened_is}
use Rattle.packing.proofs.Running.{shelved_few}
use Rattle.packing.proofs.Shelved.{lying}
use Rattle.packing.proofs.Accepted.{accepted_whole}
use Rattle.worst_case.specs.OwnPlan.{OwnPlan}
use Rattle.worst_case.proofs.PlanFits.{fits_passed}
use Rattle.worst_case.proofs.BinLoads.{shelf_on_bin}

pub own_plan : (o : Opening) (q : Production) (cs : List Command) → opening_good o ≡ true → length cs ≤ most_commands → OwnPlan o q cs
own_plan o q cs good few =
    let limits = in_limits o good in
    let lies = (lying o q cs).each in
    fits_passed _ _ _ _
    (record {
      capacity_is_good = limits.capacity_is_good;
      k_good = omega (arith, limits.stock, opened_is o q cs, (reached o q cs).stock_lasts);
      rows_good = omega (arith, few_shelved q, length-map (still_shelved o q cs) entry_of);
      sizes_good = each_map entry_of (λ e. (1 ≤ e.size) × (e.size ≤ o.capacity)) (still_shelved o q cs) (λ s m. ((lies s m).some, (lies s m).within_capacity));
      bins_good =
          each_map entry_of (λ e. (1 ≤ e.bin) × (e.bin ≤ number_opened o q cs)) (still_shelved o q cs)
          (λ s m. omega (arith, (lies s m).from_one, (lies s m).to_opened, opened_is o q cs));
      items_in_order = refl;
      none_overfull = shelf_on_bin o q cs;
    })
  where
    few_shelved : (q : Production) → length (still_shelved o q cs) ≤ length cs
    few_shelved First = omega (arith, shelved_few o cs)
    few_shelved Second = omega (arith, shelved_few o cs)

-- The same of both productions of every accepted stream.
pub own_plan_of_stream : (stream : List ℕ) (words : ℕ) (o : Opening) (q : Production) (cs : List Command) → verdict stream words ≡ accepted o cs → OwnPlan o q cs
own_plan_of_stream stream words o q cs h = let good = accepted_whole words o cs stream h in own_plan o q cs good.opening_is_good good.commands_few
