-- Own shelves can be repacked: a production's own plan passes, so that its sizes are a sound row, and against it three halves holds.
use Prim.Native.Nat.{◌≤◌}
use mathlib.Core.Path.{◌≡◌}
use mathlib.Core.Bool.{true}
use mathlib.Core.List.{List}
use native.Mathlib.Omega.{arith}
use lib.ListN.{length, length-map}
use Rattle.packing.specs.declared.{Opening.Opening, Production.Production, Command.Command}
use Rattle.packing.specs.Limits.{opening_good, most_commands}
use Rattle.packing.specs.Compared.{number_opened, shelf_plan, shelved_sizes}
use Rattle.packing.proofs.Tests.{each_map}
use Rattle.packing.proofs.Rows.{sound_passed}
use Rattle.worst_case.proofs.OwnPlan.{own_plan}
use Rattle.worst_case.proofs.PlanFits.{passed_fits}
use Rattle.decreasing.specs.Claims.{OwnShelf}
use Rattle.decreasing.proofs.Lists.{Within}
use Rattle.decreasing.proofs.ThreeHalves.{three_halves}

pub own_shelf : (o : Opening) (q : Production) (cs : List Command) → opening_good o ≡ true → length cs ≤ most_commands → OwnShelf o q cs
own_shelf o q cs good few =
    let passes = own_plan o q cs good few in
    let plan = shelf_plan o q cs in
    let fits = passed_fits o.capacity (number_opened o q cs) plan (shelved_sizes o q cs) passes in
    record {
      sound = λ words enough. sound_passed o.capacity words (shelved_sizes o q cs)
          (record {
            capacity_is_good = fits.capacity_is_good;
            rows_good = omega (arith, fits.rows_good, length-map plan (λ e. e.size));
            sizes_good = each_map (λ e. e.size) (Within o.capacity) plan fits.sizes_good;
            words_enough = enough;
          });
      no_worse = (three_halves o.capacity (shelved_sizes o q cs) (number_opened o q cs) plan passes).0;
    }
