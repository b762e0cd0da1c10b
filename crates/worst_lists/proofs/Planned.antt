-- The plan of halves and what lies beside them: what it puts into a bin, the numbers and sizes in it, and a test that is quick to compute by which it fits.
use Prim.Native.Nat.{ℕ, zero, suc, ◌+◌, ◌*◌, ◌≤◌}
use mathlib.Core.Path.{◌≡◌, refl, ap, subst, ◌∙◌}
use mathlib.Core.Bool.{Bool, true, false, ◌&&◌, false≢true}
use mathlib.Core.List.Memᴰ
use mathlib.Core.List.{List, [], ◌∷◌, ◌++◌, map, map-append, Memᴰ}
use native.Mathlib.Omega.{arith}
use borrow.Author.Tests.{eqb-true, leb-true, ne_eqb}
use lib.Dec.{eqb, leb, ltb}
use lib.ListN.{length, replicate, length-append, length-map, length-replicate}
use Rattle.packing.specs.declared.{Entry.Entry}
use Rattle.std.specs.Prelude.{if◌then◌else◌}
use Rattle.packing.specs.Prelude.{total}
use Rattle.packing.specs.Refusing.{pass}
use Rattle.packing.specs.Limits.{most_rows}
use Rattle.packing.specs.Plans.{on_bin, check}
use Rattle.packing.proofs.Tests.{both_true, each_cons, each_append}
use Rattle.packing.proofs.Weights.{total_append}
use Rattle.worst_case.proofs.PlanFits.{fits_passed}
use Rattle.worst_lists.specs.Lists.{quarter, capacity, half, halves, beside}

-- The sizes above a quarter, and the others.
unfoldable pub above_quarter : List ℕ → List ℕ
above_quarter [] = []
above_quarter (s ∷ ss) = elim (ltb quarter s) [ true ↦ s ∷ above_quarter ss | false ↦ above_quarter ss ]

unfoldable pub below_quarter : List ℕ → List ℕ
below_quarter [] = []
below_quarter (s ∷ ss) = elim (ltb quarter s) [ true ↦ below_quarter ss | false ↦ s ∷ below_quarter ss ]

-- What lies in bin n, where the sizes lie one in a bin behind so many bins.
in_bin : (n before : ℕ) → List ℕ → ℕ
in_bin n before [] = 0
in_bin n before (s ∷ ss) = (if eqb (suc before) n then s else 0) + in_bin n (suc before) ss

-- A bin before them has none.
in_none : (n before : ℕ) (ss : List ℕ) → n ≤ before → in_bin n before ss ≡ 0
unfolding in_bin
in_none n before [] h = refl
in_none n before (s ∷ ss) h = rw (ne_eqb (suc before) n (λ e. omega arith)) (omega (arith, in_none n (suc before) ss (omega arith)))

on_halves : (n before count : ℕ) → on_bin n (halves before count) ≡ in_bin n before (replicate count half)
unfolding halves in_bin total
on_halves n before zero = refl
on_halves n before (suc count) = ap (λ rest. (if eqb (suc before) n then half else 0) + rest) (on_halves n (suc before) count)

in_halves : (n before count : ℕ) → in_bin n before (replicate count half) ≤ half
unfolding in_bin
in_halves n before zero = omega arith
in_halves n before (suc count) = go (eqb (suc before) n) refl (in_halves n (suc before) count)
  where
    go : (t : Bool) → eqb (suc before) n ≡ t → in_bin n (suc before) (replicate count half) ≤ half → (if t then half else 0) + in_bin n (suc before) (replicate count half) ≤ half
    go true e h = omega (arith, in_none n (suc before) (replicate count half) (omega (arith, eqb-true (suc before) n e)))
    go false e h = omega arith

on_beside : (n b a : ℕ) (ss : List ℕ) → on_bin n (beside b a ss) ≡ in_bin n b (below_quarter ss) + in_bin n a (above_quarter ss)
unfolding beside below_quarter above_quarter in_bin total
on_beside n b a [] = refl
on_beside n b a (s ∷ ss) = go (ltb quarter s) (on_beside n (suc b) a ss) (on_beside n b (suc a) ss)
  where
    go : (t : Bool) → on_bin n (beside (suc b) a ss) ≡ in_bin n (suc b) (below_quarter ss) + in_bin n a (above_quarter ss) → on_bin n (beside b (suc a) ss) ≡ in_bin n b (below_quarter ss) + in_bin n (suc a) (above_quarter ss)
        → on_bin n (elim t [ true ↦ record { size = s; bin = suc a } ∷ beside b (suc a) ss | false ↦ record { size = s; bin = suc b } ∷ beside (suc b) a ss ])
        ≡ in_bin n b (elim t [ true ↦ below_quarter ss | false ↦ s ∷ below_quarter ss ]) + in_bin n a (elim t [ true ↦ s ∷ above_quarter ss | false ↦ above_quarter ss ])
    go true h g = omega (arith, g)
    go false h g = omega (arith, h)

-- As many of one list as of the other, and each pair goes in beside a half.
unfoldable pub paired : List ℕ → List ℕ → Bool
paired [] [] = true
paired (b ∷ bl) [] = false
paired [] (a ∷ al) = false
paired (b ∷ bl) (a ∷ al) = leb (half + (b + a)) capacity && paired bl al

in_pairs : (n before : ℕ) (bl al : List ℕ) → paired bl al ≡ true → half + (in_bin n before bl + in_bin n before al) ≤ capacity
unfolding paired in_bin
in_pairs n before [] [] h = omega arith
in_pairs n before (b ∷ bl) [] h = absurd (false≢true h)
in_pairs n before [] (a ∷ al) h = absurd (false≢true h)
in_pairs n before (b ∷ bl) (a ∷ al) h =
    let e = both_true (leb (half + (b + a)) capacity) (paired bl al) h in
    go (eqb (suc before) n) refl (leb-true (half + (b + a)) capacity e.0) (in_pairs n (suc before) bl al e.1)
  where
    go : (t : Bool) → eqb (suc before) n ≡ t → half + (b + a) ≤ capacity → half + (in_bin n (suc before) bl + in_bin n (suc before) al) ≤ capacity
        → half + (((if t then b else 0) + in_bin n (suc before) bl) + ((if t then a else 0) + in_bin n (suc before) al)) ≤ capacity
    go true q h r =
        let behind : n ≤ suc before = omega (arith, eqb-true (suc before) n q) in
        omega (arith, in_none n (suc before) bl behind, in_none n (suc before) al behind)
    go false q h r = omega arith

halves_sizes : (before count : ℕ) → map (λ e. e.size) (halves before count) ≡ replicate count half
unfolding halves
halves_sizes before zero = refl
halves_sizes before (suc count) = ap (λ rest. half ∷ rest) (halves_sizes (suc before) count)

beside_sizes : (b a : ℕ) (ss : List ℕ) → map (λ e. e.size) (beside b a ss) ≡ ss
unfolding beside
beside_sizes b a [] = refl
beside_sizes b a (s ∷ ss) = go (ltb quarter s) (beside_sizes (suc b) a ss) (beside_sizes b (suc a) ss)
  where
    go : (t : Bool) → map (λ e. e.size) (beside (suc b) a ss) ≡ ss → map (λ e. e.size) (beside b (suc a) ss) ≡ ss
        → map (λ (e : Entry). e.size) (elim t [ true ↦ record { size = s; bin = suc a } ∷ beside b (suc a) ss | false ↦ record { size = s; bin = suc b } ∷ beside (suc b) a ss ]) ≡ s ∷ ss
    go true h g = ap (λ rest. s ∷ rest) g
    go false h g = ap (λ rest. s ∷ rest) h

beside_length : (ss : List ℕ) → length ss ≡ length (below_quarter ss) + length (above_quarter ss)
unfolding below_quarter above_quarter
beside_length [] = refl
beside_length (s ∷ ss) = go (ltb quarter s) (beside_length ss)
  where
    go : (t : Bool) → length ss ≡ length (below_quarter ss) + length (above_quarter ss)
        → suc (length ss) ≡ length {A = ℕ} (elim t [ true ↦ below_quarter ss | false ↦ s ∷ below_quarter ss ]) + length {A = ℕ} (elim t [ true ↦ s ∷ above_quarter ss | false ↦ above_quarter ss ])
    go true h = omega arith
    go false h = omega arith

-- Numbers from 1 to k.
module _ (k : ℕ) where
  abbrev Numbered : Entry → Type 0
  Numbered e = (1 ≤ e.bin) × (e.bin ≤ k)

  halves_numbered : (before count : ℕ) → before + count ≤ k → (e : Entry) → Memᴰ e (halves before count) → Numbered e
  unfolding halves
  halves_numbered before zero few = λ e m. absurd (Memᴰ.not-nil m)
  halves_numbered before (suc count) few = each_cons Numbered (omega arith) (halves_numbered (suc before) count (omega arith))

  beside_numbered : (b a : ℕ) (ss : List ℕ) → b + length (below_quarter ss) ≤ k → a + length (above_quarter ss) ≤ k → (e : Entry) → Memᴰ e (beside b a ss) → Numbered e
  unfolding beside below_quarter above_quarter
  beside_numbered b a [] few bits = λ e m. absurd (Memᴰ.not-nil m)
  beside_numbered b a (s ∷ ss) few bits = go (ltb quarter s) (beside_numbered (suc b) a ss) (beside_numbered b (suc a) ss) few bits
    where
      go : (t : Bool)
          → (suc b + length (below_quarter ss) ≤ k → a + length (above_quarter ss) ≤ k → (e : Entry) → Memᴰ e (beside (suc b) a ss) → Numbered e)
          → (b + length (below_quarter ss) ≤ k → suc a + length (above_quarter ss) ≤ k → (e : Entry) → Memᴰ e (beside b (suc a) ss) → Numbered e)
          → b + length {A = ℕ} (elim t [ true ↦ below_quarter ss | false ↦ s ∷ below_quarter ss ]) ≤ k
          → a + length {A = ℕ} (elim t [ true ↦ s ∷ above_quarter ss | false ↦ above_quarter ss ]) ≤ k
          → (e : Entry) → Memᴰ e (elim t [ true ↦ record { size = s; bin = suc a } ∷ beside b (suc a) ss | false ↦ record { size = s; bin = suc b } ∷ beside (suc b) a ss ])
          → Numbered e
      go true r q few bits = each_cons Numbered (omega arith) (q few (omega arith))
      go false r q few bits = each_cons Numbered (omega arith) (r (omega arith) bits)

module _ (k : ℕ) (ss : List ℕ) where
  abbrev the_plan : List Entry
  the_plan = halves 0 k ++ beside 0 0 ss

  abbrev the_sizes : List ℕ
  the_sizes = replicate k half ++ ss

  plan_sizes : map (λ e. e.size) the_plan ≡ the_sizes
  plan_sizes = map-append (λ e. e.size) (halves 0 k) (beside 0 0 ss) ∙ cc (halves_sizes 0 k, beside_sizes 0 0 ss)

  -- Not too many items, each of them within its limits, no more on either side of a quarter than bins, and each pair goes in beside a half: the plan passes.
  module _ (short : 3 * k ≤ most_rows) (good : (s : ℕ) → Memᴰ s the_sizes → (1 ≤ s) × (s ≤ capacity))
      (few_below : length (below_quarter ss) ≤ k) (few_above : length (above_quarter ss) ≤ k) (pairs : paired (below_quarter ss) (above_quarter ss) ≡ true) where
    pub plan_numbered : (e : Entry) → Memᴰ e the_plan → (1 ≤ e.bin) × (e.bin ≤ k)
    plan_numbered =
        each_append (Numbered k) (halves 0 k) (beside 0 0 ss) (halves_numbered k 0 k (omega arith)) (beside_numbered k 0 0 ss (omega arith) (omega arith))

    none_over : (n : ℕ) → on_bin n the_plan ≤ capacity
    none_over n =
        omega (arith, total_append (λ (e : Entry). if eqb e.bin n then e.size else 0) (halves 0 k) (beside 0 0 ss), on_halves n 0 k, in_halves n 0 k, on_beside n 0 0 ss, in_pairs n 0 (below_quarter ss) (above_quarter ss) pairs)

    pub few_items : length the_sizes ≤ most_rows
    few_items = omega (arith, length-append (replicate k half) ss, length-replicate k half, beside_length ss)

    pub plan_passes : check capacity k the_plan the_sizes ≡ pass
    plan_passes =
        fits_passed capacity k the_plan the_sizes
        (record {
          capacity_is_good = refl;
          k_good = omega arith;
          rows_good = omega (arith, few_items, length-map the_plan (λ e. e.size), ap length plan_sizes);
          sizes_good = λ e m. good e.size (subst (Memᴰ e.size) plan_sizes (Memᴰ.map (λ e. e.size) m));
          bins_good = plan_numbered;
          items_in_order = plan_sizes;
          none_overfull = none_over;
        })
