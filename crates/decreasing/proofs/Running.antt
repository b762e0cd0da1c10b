-- The run over a list of items: what each item keeps, all of them keep; and where the largest come first, sizes above a half stay in the first bins.
use Prim.Native.Nat.{ℕ, ◌+◌, ◌*◌, ◌≤◌}
use mathlib.Core.Path.{◌≡◌}
use mathlib.Core.List.{List, [], ◌∷◌, map, foldl}
use native.Mathlib.Omega.{arith}
use native.Mathlib.Decide.{dec_le}
use lib.ListN.{length, length-map, drop_of_length-le}
use Rattle.packing.specs.Prelude.{total}
use Rattle.packing.specs.Bins.{Item, Packing, opened}
use Rattle.worst_case.proofs.Lists.{All, Pairs, all_map, weighs}
use Rattle.worst_case.proofs.Above.{above, above_one}
use Rattle.worst_case.proofs.FirstFit.{Fit, put_weighs}
use Rattle.worst_case.proofs.InClass.{sizes}
use Rattle.decreasing.specs.Repack.{next}
use Rattle.ordering.specs.declared.Order.TheVariants.{LargestFirst}
use Rattle.ordering.proofs.Ordered.{Follows}
use Rattle.decreasing.proofs.Lists.{Within}
use Rattle.decreasing.proofs.Filling.{lists, next_fit, next_opened, Kept, fit_kept, Halved, fit_halved}

module _ (c : ℕ) where
  run_keeps : (T : List (List ℕ) → Type 0) (Q : Item → Type 0) → ((i : Item) (L M : List (List ℕ)) → Q i → Fit c i.size L M → T L → T M)
      → (is : List Item) (p : Packing) → All Q is → T (lists p) → T (lists (foldl (next c) p is))
  run_keeps T Q keep [] p h t = t
  run_keeps T Q keep (i ∷ is) p h t =
      run_keeps T Q keep is (next c p i) h.1 (keep i (lists p) (lists (next c p i)) h.0 (next_fit c i p) t)

  pub run_kept : (is : List Item) (p : Packing) → All (λ i. Within c i.size) is → Kept c (lists p) → Kept c (lists (foldl (next c) p is))
  run_kept = run_keeps (Kept c) (λ i. Within c i.size) (λ i L M q r. fit_kept c i.size q r)

  pub run_weighs : (w : ℕ → ℕ) (is : List Item) (p : Packing)
      → weighs w (lists (foldl (next c) p is)) ≡ weighs w (lists p) + total (map (λ i. w i.size) is)
  unfolding total
  run_weighs w [] p = omega arith
  run_weighs w (i ∷ is) p = omega (arith, put_weighs w (next_fit c i p), run_weighs w is (next c p i))

  -- So many items open at most so many bins.
  pub run_opened : (is : List Item) (p : Packing) → opened (foldl (next c) p is) ≤ opened p + length is
  run_opened [] p = omega arith
  run_opened (i ∷ is) p = omega (arith, next_opened c i p, run_opened is (next c p i))

  module _ (k : ℕ) where
    few_halved : (p : Packing) → opened p ≤ k → Halved c k (lists p)
    few_halved p h = let few : length (lists p) ≤ k = omega (arith, length-map p.bins sizes) in rw (drop_of_length-le (lists p) few) tt

    -- While the sizes are above a half, there are no more bins than such sizes, so at most k; then come sizes up to a half only.
    pub run_halved : (is : List Item) (p : Packing) → Pairs (Follows LargestFirst) is → opened p + total (map (λ i. above c 2 i.size) is) ≤ k
        → Halved c k (lists (foldl (next c) p is))
    unfolding total
    run_halved [] p d l = few_halved p (omega arith)
    run_halved (i ∷ is) p d l = elim (dec_le (2 * i.size) c) [
      | yes h ↦
          run_keeps (Halved c k) (λ j. 2 * j.size ≤ c) (λ j L M q r. fit_halved c j.size k q r)
          (i ∷ is) p (h, all_map (λ j q. omega arith) is d.0) (few_halved p (omega arith))
      | no h ↦
          let large = above_one c 2 i.size (omega arith) in
          run_halved is (next c p i) d.1 (omega (arith, next_opened c i p))
    ]
