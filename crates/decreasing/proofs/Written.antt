-- The answers written as the items are packed are the new bins: a place's word is written once, with the number of the bin in which its item is at the end.
use Prim.Native.Nat.{ℕ, suc, ◌+◌, ◌-◌, ◌≤◌, ◌<◌}
use mathlib.Core.Path.{◌≡◌, refl, sym, ap, ◌∙◌, subst}
use mathlib.Core.Logic.{inr}
use mathlib.Core.List.{List, [], ◌∷◌, ◌++◌, foldl}
use native.Mathlib.Omega.{arith}
use native.Mathlib.Decide.{dec_le, ℕ_discrete}
use borrow.Author.Tests.{eq-eqb, ne_eqb}
use lib.ListN.{length, get_or, drop, set, length-append, length-drop, length-set, length-map, get_or-append}
use lib.Seq.{get_or-set_same, get_or-set_other, get_or-append-add, get_or-drop, ext_get_or}
use Rattle.packing.specs.Prelude.{total}
use Rattle.packing.specs.Bins.{Item, Packing, empty}
use Rattle.packing.specs.Withdrawing.{is_named, bin_holding}
use Rattle.packing.proofs.Weights.{one_for}
use Rattle.worst_case.proofs.Lists.{All}
use Rattle.ordering.specs.Items.{items}
use Rattle.ordering.specs.Ordered.{largest_first}
use Rattle.decreasing.specs.Repack.{bin_for, next, repacked, new_bins}
use Rattle.decreasing.specs.Written.{written}
use Rattle.decreasing.specs.Claims.{WrittenAll}
use Rattle.ordering.specs.declared.Order.TheVariants.{LargestFirst}
use Rattle.ordering.proofs.Ordered.{ordered_sum, ordered_all}
use Rattle.ordering.proofs.Items.{items_length, items_at, items_from, times, times_none, times_one}
use Rattle.decreasing.proofs.Naming.{Apart, row_apart, next_apart, found_for}

-- How many words stand before an item's.
abbrev before : Item → ℕ
before i = i.command - 1

module _ (c : ℕ) where
  -- The row with an item's number.
  abbrev noted : Packing → Item → List ℕ → List ℕ
  noted p i row = set row (before i) (bin_for c i p)

  written_length : (is : List Item) (p : Packing) (row : List ℕ) → length (written c p is row) ≡ length row
  unfolding written
  written_length [] p row = refl
  written_length (i ∷ is) p row = written_length is (next c p i) (noted p i row) ∙ simp length-set

  -- A word is left alone where no item to come has its place.
  left_alone : (n : ℕ) (is : List Item) (p : Packing) (row : List ℕ) → All (λ i. 1 ≤ i.command) is → times (suc n) is ≡ 0
      → get_or (written c p is row) n 0 ≡ get_or row n 0
  unfolding written total
  left_alone n [] p row h t = refl
  left_alone n (i ∷ is) p row h t =
      left_alone n is (next c p i) (noted p i row) h.1 (omega arith) ∙ get_or-set_other row (before i) n _ 0 other
    where
      other : n ≡ before i → ⊥
      other e = let one : one_for (is_named (suc n)) i ≡ 1 = rw (eq-eqb i.command (suc n) (omega arith)) in omega arith

  -- Where one has, the word is the number of its bin.
  word : (n : ℕ) (is : List Item) (p : Packing) (row : List ℕ) → All (λ i. 1 ≤ i.command) is → Apart p is → n < length row → 1 ≤ times (suc n) is
      → get_or (written c p is row) n 0 ≡ bin_holding (suc n) (foldl (next c) p is)
  unfolding written total
  word n [] p row h a l t = absurd (omega arith)
  word n (i ∷ is) p row h a l t = elim (ℕ_discrete i.command (suc n)) [
    | yes e ↦
        let one : one_for (is_named (suc n)) i ≡ 1 = rw (eq-eqb i.command (suc n) e) in
        let here : before i ≡ n = omega arith in
        let now : get_or (noted p i row) n 0 ≡ bin_for c i p = rw here (get_or-set_same row n (bin_for c i p) 0 l) in
        let at-the-end : bin_holding (suc n) (foldl (next c) p (i ∷ is)) ≡ bin_for c i p = rw (← e) (found_for c i is p a) in
        left_alone n is (next c p i) (noted p i row) h.1 (omega (arith, a (suc n))) ∙ now ∙ sym at-the-end
    | no e ↦
        let none : one_for (is_named (suc n)) i ≡ 0 = rw (ne_eqb i.command (suc n) e) in
        let same : length (noted p i row) ≡ length row = simp length-set in
        word n is (next c p i) (noted p i row) h.1 (next_apart c i is p a) (omega arith) (omega arith)
  ]

pub new_length : (c : ℕ) (sizes : List ℕ) → length (new_bins c sizes) ≡ length sizes
new_length c sizes = length-map (items 1 sizes) (λ i. bin_holding i.command (repacked c sizes)) ∙ items_length 1 sizes

module _ (c : ℕ) (sizes row : List ℕ) (enough : length sizes ≤ length row) where
  abbrev sorted : List Item
  sorted = largest_first (items 1 sizes)

  from_one : All (λ i. 1 ≤ i.command) sorted
  from_one = ordered_all LargestFirst (λ i. 1 ≤ i.command) (items 1 sizes) (items_from 1 sizes (omega arith))

  abbrev after : List ℕ
  after = drop (length sizes) row

  -- The words of both rows with so many before them.
  abbrev Same : ℕ → Type 0
  Same n = get_or (written c empty sorted row) n 0 ≡ get_or (new_bins c sizes ++ after) n 0

  same_inside : (n : ℕ) → n < length sizes → Same n
  same_inside n l =
      let some : 1 ≤ times (suc n) sorted =
      omega (arith, ordered_sum LargestFirst (one_for (is_named (suc n))) (items 1 sizes), times_one (suc n) 1 sizes (omega arith) (omega arith)) in
      let place : 1 + n ≡ suc n = omega arith in
      let named = items_at (λ k. bin_holding k (repacked c sizes)) 1 sizes n l ∙ ap (λ k. bin_holding k (repacked c sizes)) place in
      word c n sorted empty row from_one (row_apart sizes) (omega arith) some
      ∙ sym (get_or-append (new_bins c sizes) after 0 n (omega (arith, new_length c sizes)) ∙ named)

  same_after : (m : ℕ) → Same (length sizes + m)
  same_after m =
      let none : times (suc (length sizes + m)) sorted ≡ 0 =
      omega (arith, ordered_sum LargestFirst (one_for (is_named (suc (length sizes + m)))) (items 1 sizes), times_none (suc (length sizes + m)) 1 sizes (inr (omega arith))) in
      let past = ap (λ k. get_or (new_bins c sizes ++ after) (k + m) 0) (sym (new_length c sizes)) ∙ get_or-append-add (new_bins c sizes) after m 0 in
      left_alone c (length sizes + m) sorted empty row from_one none ∙ sym (past ∙ get_or-drop (length sizes) row m 0)

  same : (n : ℕ) → Same n
  same n = elim (dec_le (suc n) (length sizes)) [
    | yes l ↦ same_inside n l
    | no l ↦ subst Same (omega arith) (same_after (n - length sizes))
  ]

pub written_all : WrittenAll
written_all c sizes row enough =
    let first = written_length c (largest_first (items 1 sizes)) empty row in
    let both = length-append (new_bins c sizes) (drop (length sizes) row) in
    ext_get_or 0 _ _ (omega (arith, new_length c sizes, length-drop (length sizes) row)) (λ n l. same c sizes row enough n)
