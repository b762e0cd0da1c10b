-- The bins of a repacking: they hold the sizes of the row, they are filled by first fit, and after the first k of them no size is above a half, if the row
-- has at most k such sizes.
use Prim.Native.Nat.{ℕ, ◌≤◌}
use mathlib.Core.Path.{◌≡◌, ap}
use mathlib.Core.List.{List, map}
use native.Mathlib.Omega.{arith}
use lib.ListN.{length}
use Rattle.packing.specs.Prelude.{total}
use Rattle.packing.specs.Bins.{empty}
use Rattle.packing.proofs.Weights.{total_ones}
use Rattle.worst_case.proofs.Lists.{All, weigh, weighs, total_weigh}
use Rattle.worst_case.proofs.Above.{above}
use Rattle.ordering.specs.Items.{items}
use Rattle.ordering.specs.Ordered.{largest_first}
use Rattle.decreasing.specs.Repack.{repacked, new_count}
use Rattle.ordering.specs.declared.Order.TheVariants.{LargestFirst}
use Rattle.ordering.proofs.Ordered.{ordered_sum, ordered_all, ordered_follows}
use Rattle.ordering.proofs.Items.{items_sizes, items_length, items_all}
use Rattle.decreasing.proofs.Lists.{Within}
use Rattle.decreasing.proofs.Filling.{lists, Kept, Halved}
use Rattle.decreasing.proofs.Running.{run_kept, run_weighs, run_opened, run_halved}

pub sorted_length : (sizes : List ℕ) → length (largest_first (items 1 sizes)) ≡ length sizes
sorted_length sizes =
    let sorted = largest_first (items 1 sizes) in
    omega (arith, total_ones sorted, total_ones (items 1 sizes), ordered_sum LargestFirst (λ i. 1) (items 1 sizes), items_length 1 sizes)

module _ (c : ℕ) (sizes : List ℕ) where
  sorted_weigh : (w : ℕ → ℕ) → total (map (λ i. w i.size) (largest_first (items 1 sizes))) ≡ weigh w sizes
  sorted_weigh w =
      omega (arith, ordered_sum LargestFirst (λ i. w i.size) (items 1 sizes), total_weigh (λ i. i.size) w (items 1 sizes), ap (weigh w) (items_sizes 1 sizes))

  pub repacked_weighs : (w : ℕ → ℕ) → weighs w (lists (repacked c sizes)) ≡ weigh w sizes
  repacked_weighs w = omega (arith, run_weighs c w (largest_first (items 1 sizes)) empty, sorted_weigh w)

  pub repacked_few : new_count c sizes ≤ length sizes
  repacked_few = omega (arith, run_opened c (largest_first (items 1 sizes)) empty, sorted_length sizes)

  pub repacked_kept : All (Within c) sizes → Kept c (lists (repacked c sizes))
  repacked_kept good =
      let within = ordered_all LargestFirst (λ i. Within c i.size) (items 1 sizes) (items_all (Within c) 1 sizes good) in
      run_kept c (largest_first (items 1 sizes)) empty within (record { loads_good = tt; first = tt })

  pub repacked_halved : (k : ℕ) → weigh (above c 2) sizes ≤ k → Halved c k (lists (repacked c sizes))
  repacked_halved k h =
      run_halved c k (largest_first (items 1 sizes)) empty (ordered_follows LargestFirst (items 1 sizes)) (omega (arith, sorted_weigh (above c 2)))
