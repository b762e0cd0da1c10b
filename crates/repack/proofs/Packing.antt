-- The items of a row's words packed one after the other: where it starts, what one more item adds, where it ends. What is still to come of the items
-- leads from the packing and the answers so far to those at the end.
use mathlib.Core.Path.{◌≡◌, refl, sym, ap, ◌∙◌}
use mathlib.Core.List.Memᴰ
use mathlib.Core.List.{List, [], ◌∷◌, map, foldl}
use Prim.Native.Nat.{ℕ, suc, ◌+◌, ◌-◌, ◌/◌, ◌%◌, ◌≤◌, ◌<◌, max}
use native.Mathlib.Numerals.{add-one}
use native.Mathlib.Omega.{arith}
use lib.ListN.{length, get_or, drop, set, replicate, length-replicate, get_or-replicate, length-set, drop_of_length-le}
use lib.Seq.{drop-cons, ext_get_or}
use Rattle.packing.specs.Limits.{most_rows}
use Rattle.packing.specs.Bins.{Item, Packing, empty, opened}
use Rattle.packing.proofs.Reached.{first_few}
use Rattle.tournament.specs.declared.Shape.{Shape}
use Rattle.tournament.specs.Shapes.{Fitted}
use Rattle.tournament.specs.Trees.{row_words, leaves}
use Rattle.tournament.proofs.Powers.{places_few}
use Rattle.tournament.proofs.Leaves.{leaves_length}
use Rattle.tournament.proofs.Empty.{zero_tree, zero_place}
use Rattle.decreasing.specs.Repack.{has_space, next}
use Rattle.decreasing.specs.Written.{written}
use Rattle.ordering.specs.declared.Order.TheVariants.{LargestFirst}
use Rattle.sorted_sizes.specs.Words.{item_of}
use Rattle.repack.specs.Shown.{Shows, Placed, Places}
use Rattle.repack.specs.Packed.{Packable, Packed}

-- A tree of zeros shows that no bin is opened.
module _ (c n : ℕ) (shape : Shape) (fitted : Fitted n shape) (few : n ≤ most_rows) (m : ℕ) (words : m ≡ row_words) where
  pub few_places : shape.places ≤ 4096
  few_places = places_few fitted 12 few

  zero_leaves : leaves (replicate m 0) 0 shape.places ≡ replicate shape.places 0
  zero_leaves =
      let count : length (leaves (replicate m 0) 0 shape.places) ≡ shape.places =
      leaves_length (replicate m 0) 0 shape.places (omega (arith, few_places, length-replicate {A = ℕ} m 0)) in
      ext_get_or 0 (leaves (replicate m 0) 0 shape.places) (replicate shape.places 0) (count ∙ sym (length-replicate shape.places 0))
      (λ i h. let l : i < shape.places = omega (arith, count) in
      zero_place m words 0 shape (omega (arith, few_places)) i l ∙ sym (get_or-replicate shape.places i 0 0 l))

  nothing_shown : Shows c shape 0 (replicate m 0) empty
  nothing_shown = record {
    tree = zero_tree m words 0 shape (omega (arith, few_places)) fitted.power;
    counted = refl;
    few = omega arith;
    shown = let all : shape.places - 0 ≡ shape.places = omega arith in rw all zero_leaves;
    none_over = λ b m. absurd (Memᴰ.not-nil m);
  }

module _ (c : ℕ) (words row₀ : List ℕ) where
  -- The item of a word.
  abbrev item : ℕ → Item
  item = item_of LargestFirst c

  -- The items from word k on.
  abbrev rest : (k : ℕ) → List Item
  rest k = map item (drop k words)

  pub record Underway (shape : Shape) (k count : ℕ) (t row : List ℕ) : Type 0 where
    pub packing : Packing
    pub shows : Shows c shape count t packing
    pub few : count ≤ k
    pub places : length row ≡ length row₀
    pub numbers : written c packing (rest k) row ≡ written c empty (rest 0) row₀
    pub bins : foldl (next c) packing (rest k) ≡ foldl (next c) empty (rest 0)

  pub underway_start : (shape : Shape) → Fitted (length words) shape → length words ≤ most_rows → (m : ℕ) → m ≡ row_words
      → Underway shape 0 0 (replicate m 0) row₀
  underway_start shape fitted few m e =
      record { packing = empty; shows = nothing_shown c (length words) shape fitted few m e; few = omega arith; places = refl; numbers = refl; bins = refl }

  module _ (g : Packable c words row₀) {shape : Shape} (fitted : Fitted (length words) shape) {k count : ℕ} {t row : List ℕ}
      (u : Underway shape k count t row) (l : k < length words) where
    abbrev here : ℕ
    here = get_or words k 0

    rest_cons : rest k ≡ item here ∷ rest (k + 1)
    rest_cons = rw (drop-cons words k 0 l, add-one)

    module _ {bin : ℕ} {t' : List ℕ} (places : Places c shape count (c - here / most_rows) t bin t') where
      placed : Placed c shape count u.packing (item here) bin t'
      placed = places u.packing (item here) u.shows refl

      pub bin_few : bin ≤ 4096
      bin_few = omega (arith, placed.in_tree, few_places c (length words) shape fitted g.few row_words refl)

      pub underway_next : Underway shape (k + 1) (max count bin) t' (set row (here % most_rows) bin)
      unfolding written
      underway_next =
          let before : suc (here % most_rows) - 1 ≡ here % most_rows = omega arith in
          record {
            packing = next c u.packing (item here);
            shows = placed.shows;
            few = omega (arith, u.few, placed.by_first_fit, u.shows.counted, first_few (has_space c (item here)) u.packing.bins);
            places = length-set row (here % most_rows) bin ∙ u.places;
            numbers =
                ap (λ j. written c (next c u.packing (item here)) (rest (k + 1)) (set row j bin)) (sym before)
                ∙ ap (λ b. written c (next c u.packing (item here)) (rest (k + 1)) (set row (suc (here % most_rows) - 1) b)) placed.by_first_fit
                ∙ sym (ap (λ is. written c u.packing is row) rest_cons) ∙ u.numbers;
            bins = sym (ap (foldl (next c) u.packing) rest_cons) ∙ u.bins;
          }

  pub underway_end : {shape : Shape} {k count : ℕ} {t row : List ℕ} → length words ≤ k → Underway shape k count t row → Packed c words row₀ count row
  unfolding written
  underway_end {k = k} {row = row} l u =
      let none : drop k words ≡ [] = drop_of_length-le words l in
      record {
        counted = u.shows.counted ∙ ap opened (sym (ap (λ l. foldl (next c) u.packing (map item l)) none) ∙ u.bins);
        numbers_written = sym (ap (λ l. written c u.packing (map item l) row) none) ∙ u.numbers;
      }
