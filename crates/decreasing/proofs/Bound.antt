-- Bins that first fit made, of which those after the first k have sizes up to a half only, number at most 3 k / 2 if k bins can carry their load.
use Prim.Native.Nat.{ℕ, suc, ◌+◌, ◌*◌, ◌≤◌, ◌<◌}
use mathlib.Core.List.{List, [], ◌∷◌, ◌++◌, flatten}
use mathlib.Core.Path.{◌≡◌}
use native.Mathlib.Omega.{arith}
use native.Mathlib.Decide.{dec_le}
use lib.ListN.{length, take, drop, length-append, length-drop, take-append-drop}
use lib.Seq.{length-take-le}
use Rattle.worst_case.proofs.Lists.{All, all_map, sum, loads, items, Filled}
use Rattle.worst_case.proofs.Halves.{halves}
use Rattle.decreasing.proofs.Lists.{Within, rest, rest_pairs, cross, measure_both, poured, all_poured}
use Rattle.decreasing.proofs.Filling.{Kept, Halved}

module _ (c : ℕ) where
  -- Where no size goes beside any of the loads, and there is one for each, they come to more than c a bin.
  pair_off : (S : List (List ℕ)) (ys : List ℕ) → length S ≤ length ys → All (λ b. All (λ y. c < sum b + y) ys) S → suc c * length S ≤ loads S + sum ys
  pair_off [] ys n h = omega arith
  pair_off (b ∷ S) [] n h = omega arith
  pair_off (b ∷ S) (y ∷ ys) n h = omega (arith, pair_off S ys (omega arith) (all_map (λ a r. r.1) S h.1))

  -- A bin with a load has a size, and so many bins have so much load.
  filled : (b : List ℕ) → Within c (sum b) → Filled b
  filled [] h = omega arith
  filled (s ∷ b) h = omega arith

  loads_least : (L : List (List ℕ)) → All (λ b. Within c (sum b)) L → length L ≤ loads L
  loads_least [] h = omega arith
  loads_least (b ∷ L) h = omega (arith, loads_least L h.1)

  -- The first bins and the rest. Fewer sizes are in the rest than bins before it, or all would have more load than those bins carry; and every bin of the
  -- rest but the last has two.
  few_left : (S T : List (List ℕ)) → 1 ≤ length T → Kept c (S ++ T) → loads (S ++ T) ≤ c * length S → items T < length S
  few_left [] T some kept load = omega (arith, loads_least T kept.loads_good)
  few_left (b ∷ S) T some kept load = elim (dec_le (suc (length S)) (items T)) [
    | yes h ↦
        let apart = cross (λ b b'. All (λ t. c < sum b + t) b') (b ∷ S) T kept.first in
        let beside = all_map (λ b r. all_poured (λ t. c < sum b + t) T r) (b ∷ S) apart in
        let sizes = poured T in
        omega (arith, pair_off (b ∷ S) (flatten T) (omega arith) beside, measure_both sum S T)
    | no h ↦ omega arith
  ]

  cut : (S T : List (List ℕ)) → 1 ≤ length T → Kept c (S ++ T) → All (All (λ t. 2 * t ≤ c)) T → loads (S ++ T) ≤ c * length S
      → 2 * length (S ++ T) ≤ 3 * length S
  cut S T some kept half load =
      let good = rest (λ b. Within c (sum b)) S T kept.loads_good in
      let two = halves c T (all_map filled T good) half (rest_pairs (λ b b'. All (λ t. c < sum b + t) b') S T kept.first) in
      omega (arith, few_left S T some kept load, length-append S T)

  pub bound : (k : ℕ) (L : List (List ℕ)) → Kept c L → Halved c k L → loads L ≤ c * k → 2 * length L ≤ 3 * k
  bound k L kept half load = elim (dec_le (length L) k) [
    | yes h ↦ omega arith
    | no h ↦
        let whole = take-append-drop k L in
        let first : length (take k L) ≡ k = length-take-le k L (omega arith) in
        let some : 1 ≤ length (drop k L) = omega (arith, length-drop k L) in
        let all = cut (take k L) (drop k L) some (rw whole kept) half (rw (whole, first) load) in
        rw (whole, first) at all
  ]
