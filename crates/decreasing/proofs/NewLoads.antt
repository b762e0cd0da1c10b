-- What the new plan puts on each bin number is the load of that bin. An item's size goes on the bin found for it, which is the one that holds it at the end;
-- and the sum over the row is the same in the order of the run.
use Prim.Native.Nat.{ℕ, suc, ◌+◌}
use mathlib.Core.Path.{◌≡◌, refl}
use mathlib.Core.List.{List, [], ◌∷◌, map, foldl, zip_with}
use native.Mathlib.Omega.{arith}
use Rattle.packing.specs.Prelude.{total}
use Rattle.packing.specs.Bins.{Item, Packing, empty}
use Rattle.packing.specs.Withdrawing.{bin_holding}
use Rattle.packing.specs.Plans.{plan_of, on_bin}
use Rattle.ordering.specs.Items.{items}
use Rattle.ordering.specs.Ordered.{largest_first}
use Rattle.decreasing.specs.Repack.{next, repacked, new_plan}
use Rattle.ordering.specs.declared.Order.TheVariants.{LargestFirst}
use Rattle.ordering.proofs.Ordered.{ordered_sum}
use Rattle.decreasing.proofs.Naming.{Apart, row_apart, next_apart, found_for}
use Rattle.decreasing.proofs.Filling.{lists}
use Rattle.decreasing.proofs.Loads.{load_of, none_load, share, next_load}

module _ (c n : ℕ) where
  -- What an item adds to bin n, by the bin that holds it in a packing.
  abbrev adds : Packing → Item → ℕ
  adds p i = share (bin_holding i.command p) n i.size

  run_load : (is : List Item) (p : Packing) → Apart p is
      → load_of n (lists (foldl (next c) p is)) ≡ load_of n (lists p) + total (map (adds (foldl (next c) p is)) is)
  unfolding total
  run_load [] p a = omega arith
  run_load (i ∷ is) p a = rw (found_for c i is p a) (omega (arith, next_load c n p i, run_load is (next c p i) (next_apart c i is p a)))

  plan_load : (p : Packing) (q : ℕ) (sizes : List ℕ)
      → on_bin n (plan_of sizes (map (λ i. bin_holding i.command p) (items q sizes))) ≡ total (map (adds p) (items q sizes))
  unfolding items zip_with total
  plan_load p q [] = refl
  plan_load p q (s ∷ ss) = omega (arith, plan_load p (suc q) ss)

  pub new_load : (sizes : List ℕ) → on_bin n (new_plan c sizes) ≡ load_of n (lists (repacked c sizes))
  new_load sizes =
      let last = repacked c sizes in
      let run = run_load (largest_first (items 1 sizes)) empty (row_apart sizes) in
      omega (arith, plan_load last 1 sizes, ordered_sum LargestFirst (adds last) (items 1 sizes), none_load n)
