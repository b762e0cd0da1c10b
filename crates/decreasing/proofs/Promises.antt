-- What is promised of a repacking: its own plan passes, and its numbers run from 1 to the count, as the numbers answered are those of the bins that have a
-- load. Three halves is ThreeHalves.
use Prim.Native.Nat.{ℕ, ◌≤◌}
use mathlib.Core.Path.{◌≡◌, refl, ap}
use mathlib.Core.List.{List, [], ◌∷◌, Memᴰ}
use native.Mathlib.Omega.{arith}
use native.Mathlib.Decide.{dec_le}
use lib.ListN.{length, length-map}
use Rattle.packing.specs.Prelude.{greatest}
use Rattle.packing.specs.Refusing.{pass}
use Rattle.packing.specs.Withdrawing.{bin_holding}
use Rattle.packing.specs.Plans.{check}
use Rattle.packing.specs.Rows.{SoundRow}
use Rattle.packing.proofs.Tests.{each_map}
use Rattle.packing.proofs.Rows.{passed_sound}
use Rattle.packing.proofs.Numbers.{at_most_greatest}
use Rattle.worst_case.proofs.InClass.{sizes}
use Rattle.worst_case.proofs.PlanFits.{fits_passed}
use Rattle.ordering.specs.Items.{items}
use Rattle.decreasing.specs.Repack.{repacked, new_bins, new_count, new_plan}
use Rattle.decreasing.specs.Claims.{Promised}
use Rattle.decreasing.proofs.Written.{new_length}
use Rattle.ordering.proofs.Lists.{all_members}
use Rattle.decreasing.proofs.Lists.{Within}
use Rattle.decreasing.proofs.Filling.{lists, Kept}
use Rattle.decreasing.proofs.Repacked.{repacked_few, repacked_kept}
use Rattle.decreasing.proofs.ThreeHalves.{three_halves}
use Rattle.decreasing.proofs.Loads.{load_most, load_some, load_range}
use Rattle.decreasing.proofs.NewLoads.{new_load}
use Rattle.decreasing.proofs.Plans.{plan_sizes, plan_members, on_bin_named, named_on_bin}

greatest_most : (k : ℕ) (l : List ℕ) → ((n : ℕ) → Memᴰ n l → n ≤ k) → greatest l ≤ k
unfolding greatest
greatest_most k [] h = omega arith
greatest_most k (n ∷ l) h = omega (arith, h n (Memᴰ.head refl), greatest_most k l (λ x m. h x (Memᴰ.tail m)))

module _ (c words : ℕ) (row : List ℕ) (good : SoundRow c words row) where
  kept : Kept c (lists (repacked c row))
  kept = repacked_kept c row (all_members (Within c) row good.sizes_good)

  opened_is : length (lists (repacked c row)) ≡ new_count c row
  opened_is = length-map (repacked c row).bins sizes

  is_in_range : (n : ℕ) → Memᴰ n (new_bins c row) → (1 ≤ n) × (n ≤ new_count c row)
  is_in_range n m =
      let some = named_on_bin row (new_bins c row) (new_length c row) (λ s m. (good.sizes_good s m).0) n m in
      omega (arith, opened_is, load_range n (lists (repacked c row)) (omega (arith, new_load c n row)))

  no_gaps : (n : ℕ) → 1 ≤ n → n ≤ new_count c row → Memᴰ n (new_bins c row)
  no_gaps n from to =
      let some = load_some c n (lists (repacked c row)) kept.loads_good from (omega (arith, opened_is)) in
      on_bin_named n row (new_bins c row) (omega (arith, new_load c n row))

  -- The last bin's number stands in the row.
  count_most : new_count c row ≤ greatest (new_bins c row)
  count_most = elim (dec_le 1 (new_count c row)) [
    | yes h ↦ each_map (λ i. bin_holding i.command (repacked c row)) (λ n. n ≤ greatest (new_bins c row)) (items 1 row)
        (at_most_greatest (λ i. bin_holding i.command (repacked c row)) (items 1 row)) (new_count c row) (no_gaps (new_count c row) h (omega arith))
    | no h ↦ omega arith
  ]

  plan_passes : check c (new_count c row) (new_plan c row) row ≡ pass
  plan_passes =
      let in_order = plan_sizes row (new_bins c row) (new_length c row) in
      fits_passed c (new_count c row) (new_plan c row) row
      (record {
        capacity_is_good = good.capacity_is_good;
        k_good = omega (arith, repacked_few c row, good.rows_good);
        rows_good = omega (arith, length-map (new_plan c row) (λ e. e.size), ap length in_order, good.rows_good);
        sizes_good = λ e m. good.sizes_good e.size (plan_members row (new_bins c row) e m).0;
        bins_good = λ e m. is_in_range e.bin (plan_members row (new_bins c row) e m).1;
        items_in_order = in_order;
        none_overfull = λ n. omega (arith, new_load c n row, load_most c n (lists (repacked c row)) kept.loads_good);
      })

pub promised : Promised
promised c words row sound =
    let good = passed_sound c words row sound in
    record {
      plan_passes = plan_passes c words row good;
      three_halves = three_halves c row;
      one_each = new_length c row;
      is_in_range = is_in_range c words row good;
      no_gaps = no_gaps c words row good;
      count_greatest =
          omega (arith, count_most c words row good, greatest_most (new_count c row) (new_bins c row) (λ n m. (is_in_range c words row good n m).1));
    }
