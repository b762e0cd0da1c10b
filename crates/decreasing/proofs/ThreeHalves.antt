-- Against a plan that passes: its bins carry the load of the row, and each of them at most one size above a half.
use Prim.Native.Nat.{ℕ}
use mathlib.Core.Path.{◌≡◌, subst}
use mathlib.Core.List.{List, Memᴰ}
use native.Mathlib.Omega.{arith}
use lib.ListN.{length-map}
use Rattle.packing.specs.declared.{Entry.Entry}
use Rattle.packing.specs.Refusing.{pass}
use Rattle.packing.specs.Plans.{check}
use Rattle.packing.specs.Compared.{used}
use Rattle.packing.proofs.Tests.{each_map}
use Rattle.worst_case.proofs.InClass.{sizes}
use Rattle.worst_case.proofs.Above.{above, above_few}
use Rattle.worst_case.proofs.PlanFits.{passed_fits}
use Rattle.worst_case.proofs.Used.{used_declared}
use Rattle.worst_case.proofs.Weighing.{weighing}
use Rattle.decreasing.specs.Repack.{repacked}
use Rattle.decreasing.specs.Claims.{ThreeHalves}
use Rattle.ordering.proofs.Lists.{all_members}
use Rattle.decreasing.proofs.Lists.{Within}
use Rattle.decreasing.proofs.Filling.{lists}
use Rattle.decreasing.proofs.Repacked.{repacked_weighs, repacked_kept, repacked_halved}
use Rattle.decreasing.proofs.Bound.{bound}

-- The sizes of a row that has such a plan are within the capacity.
planned : (c k : ℕ) (plan : List Entry) (row : List ℕ) → check c k plan row ≡ pass → (s : ℕ) → Memᴰ s row → Within c s
planned c k plan row ok =
    let fits = passed_fits c k plan row ok in
    subst (λ l. (s : ℕ) → Memᴰ s l → Within c s) fits.items_in_order (each_map (λ e. e.size) (Within c) plan fits.sizes_good)

pub three_halves : (c : ℕ) (row : List ℕ) → ThreeHalves c row
three_halves c row k plan ok =
    let good = all_members (Within c) row (planned c k plan row ok) in
    let by_size = weighing (λ s. s) c k plan row ok c (λ l h. h) in
    let by_halves = weighing (above c 2) c k plan row ok 1 (λ l h. omega (arith, above_few c 2 l (omega arith) h)) in
    let few =
    bound c (used plan) (lists (repacked c row)) (repacked_kept c row good) (repacked_halved c row (used plan) (omega arith))
    (omega (arith, repacked_weighs c row (λ s. s))) in
    let same = length-map (repacked c row).bins sizes in
    (omega arith, omega (arith, used_declared c k plan row ok))
