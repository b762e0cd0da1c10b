-- The rows of the sheet, by the bins of a packing: as many, numbered in their order, with their loads; each is legible, and a ledger's row of a bin
-- tells it.
use mathlib.Core.Path.{◌≡◌, refl, sym, ap, ◌∙◌}
use mathlib.Core.List.Memᴰ
use mathlib.Core.List.{List, [], ◌∷◌, map, Memᴰ}
use Prim.Native.Nat.{ℕ, suc, ◌+◌, ◌-◌, ◌^◌, ◌≤◌, ◌<◌}
use native.Mathlib.Omega.{arith}
use lib.ListN.{length}
use Rattle.packing.specs.declared.Opening.{Opening}
use Rattle.packing.specs.Prelude.{total}
use Rattle.packing.specs.Bins.{Bin, Packing, opened, load}
use Rattle.packing.specs.Claims.{SoundBin}
use Rattle.packing.proofs.Tests.{each_cons}
use Rattle.ledger.specs.Rows.{places}
use Rattle.ledger.specs.Records.{row_of as ledgerRow, items_held}
use Rattle.pages.specs.Pages.{Row, row_of, rows_from, rows, lines, pages_on}
use Rattle.pages.specs.Claims.{count_up, pages_of, Lined}
use Rattle.pages.specs.Writing.{told, told_from, Legible}
use Rattle.pages.proofs.Lined.{count_length, lined}

-- A packing whose rows are legible: no more bins than places, all of them sound, and figures that have their places on a line.
pub record Printable (o : Opening) (p : Packing) : Type 0 where
  pub bins_few : opened p ≤ places
  pub sound : (b : Bin) → Memᴰ b p.bins → SoundBin o b
  pub capacity_few : o.capacity < 10 ^ 8
  pub items_few : items_held p < 10 ^ 4

-- A bin holds at most the items of all.
held_few : (bins : List Bin) (b : Bin) → Memᴰ b bins → length b.items ≤ total (map (λ b. length b.items) bins)
unfolding total
held_few [] = λ b m. absurd (Memᴰ.not-nil m)
held_few (b ∷ bs) = each_cons (λ x. length x.items ≤ total (map (λ b. length b.items) (b ∷ bs))) (omega arith) (λ x m. omega (arith, held_few bs x m))

pub bin_legible : {o : Opening} {p : Packing} → Printable o p → (number : ℕ) → number ≤ places → (b : Bin) → Memᴰ b p.bins
    → Legible o.capacity number (ledgerRow o b)
bin_legible {p = p} h number n b m =
    record {
      number_few = omega arith;
      class_few = omega (arith, (h.sound b m).to_class_4);
      capacity_few = h.capacity_few;
      free_few = omega arith;
      held_few = omega (arith, held_few p.bins b m, h.items_few);
    }

module _ (o : Opening) where
  rows_count : (first : ℕ) (bins : List Bin) → length (rows_from o first bins) ≡ length bins
  unfolding rows_from
  rows_count first [] = refl
  rows_count first (b ∷ bs) = ap suc (rows_count (suc first) bs)

  pub row_numbers : (first : ℕ) (bins : List Bin) → map (λ r. r.number) (rows_from o first bins) ≡ count_up first (length bins)
  unfolding rows_from count_up
  row_numbers first [] = refl
  row_numbers first (b ∷ bs) = ap (λ (ns : List ℕ). first ∷ ns) (row_numbers (suc first) bs)

  pub row_loads : (first : ℕ) (bins : List Bin) → map (λ r. r.load) (rows_from o first bins) ≡ map load bins
  unfolding rows_from
  row_loads first [] = refl
  row_loads first (b ∷ bs) = ap (λ (ns : List ℕ). load b ∷ ns) (row_loads (suc first) bs)

  pub bins_count : (p : Packing) → length (rows o p) ≡ opened p
  bins_count p = rows_count 1 p.bins

  -- What is promised of the lines of such rows, and how many pages they have.
  pub bins_lined : (pages : ℕ) (p : Packing) → Lined pages (rows o p)
  bins_lined pages p = lined pages (rows o p) (row_numbers 1 p.bins ∙ ap (count_up 1) (sym (bins_count p)))

  pub bins_pages : (pages : ℕ) (p : Packing) → pages_on (lines pages (rows o p)) ≡ pages_of (opened p)
  bins_pages pages p = ap length (bins_lined pages p).numbered ∙ count_length (suc pages) (pages_of (length (rows o p))) ∙ ap pages_of (bins_count p)

  -- A ledger's row tells the row of the sheet, where the bin is not overfull.
  pub told_is : (number : ℕ) (b : Bin) → load b ≤ o.capacity → told o.capacity number (ledgerRow o b) ≡ row_of o number b
  told_is number b h =
      let e : o.capacity - (o.capacity - load b) ≡ load b = omega arith in
      ap (λ (l : ℕ). record { number = number; class = b.class; load = l; free = o.capacity - load b; held = length b.items }) e

  pub told_rows : (number : ℕ) (bins : List Bin) → ((b : Bin) → Memᴰ b bins → load b ≤ o.capacity)
      → told_from o.capacity number (map (ledgerRow o) bins) ≡ rows_from o number bins
  unfolding told_from rows_from
  told_rows number [] h = refl
  told_rows number (b ∷ bs) h =
      ap (λ r. r ∷ told_from o.capacity (suc number) (map (ledgerRow o) bs)) (told_is number b (h b (Memᴰ.head refl)))
      ∙ ap (λ rs. row_of o number b ∷ rs) (told_rows (suc number) bs (λ x m. h x (Memᴰ.tail m)))

  -- What holds of the row of each bin, under each number from the first on and no more than there are, holds of each row.
  pub each_row : (P : Row → Type 0) (first : ℕ) (bins : List Bin)
      → ((number : ℕ) → number < first + length bins → (b : Bin) → Memᴰ b bins → P (row_of o number b)) → (r : Row) → Memᴰ r (rows_from o first bins) → P r
  unfolding rows_from
  each_row P first [] h = λ r m. absurd (Memᴰ.not-nil m)
  each_row P first (b ∷ bs) h =
      each_cons P (h first (omega arith) b (Memᴰ.head refl)) (each_row P (suc first) bs (λ number n x m. h number (omega (arith, n)) x (Memᴰ.tail m)))

  -- What is free and what is loaded make up the capacity.
  pub row_capacity : (p : Packing) → ((b : Bin) → Memᴰ b p.bins → SoundBin o b) → (r : Row) → Memᴰ r (rows o p) → r.free + r.load ≡ o.capacity
  row_capacity p sound = each_row (λ r. r.free + r.load ≡ o.capacity) 1 p.bins (λ number n b m. omega (arith, (sound b m).not_overfull))
