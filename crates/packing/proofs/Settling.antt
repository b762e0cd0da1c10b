-- What settling does to one item, and to the items of a bin: it has a smaller size or the one that it had, its number and class stay, and what it weighs is
-- what the settled one weighs.
use Prim.Native.Nat.{ℕ, ◌≤◌}
use mathlib.Core.Path.{◌≡◌, refl, ap}
use mathlib.Core.Bool.{Bool, true, false, false≢true}
use mathlib.Core.List.{List, [], ◌∷◌, map, map-map, Memᴰ}
use Rattle.std.specs.Prelude.{Option, None, Some}
use native.Mathlib.Omega.{arith}
use borrow.Author.Tests.{leb-true}
use Rattle.std.specs.Prelude.{if◌then◌else◌}
use Rattle.packing.specs.Prelude.{total, any, ◌≤?◌, Opening}
use Rattle.packing.specs.Bins.{Item, Bin, kind, holds, has_range, unsettled, ranges, in_range}
use Rattle.packing.specs.Withdrawing.{is_named, holds_named}
use Rattle.packing.specs.Settling.{settled_to, awaits, admits, settled, settled_bin}
use Rattle.packing.proofs.Tests.{both_true}
use Rattle.packing.proofs.Searching.{any_weaker}
use Rattle.packing.proofs.Weights.{weight_of}

-- A size within the range of an item: it is unsettled, and the size is no more than the greatest.
range_some : (least : Option ℕ) (greatest size : ℕ) → ranges least greatest size ≡ true → has_range least ≡ true
range_some None greatest size e = absurd (false≢true e)
range_some (Some least) greatest size e = refl

range_most : (least : Option ℕ) (greatest size : ℕ) → ranges least greatest size ≡ true → size ≤ greatest
range_most None greatest size e = absurd (false≢true e)
range_most (Some least) greatest size e = leb-true size greatest (both_true (least ≤? size) (size ≤? greatest) e).1

pub in_range_some : (size : ℕ) (i : Item) → in_range size i ≡ true → unsettled i ≡ true
in_range_some size i e = range_some i.least i.greatest size e

pub in_range_most : (size : ℕ) (i : Item) → in_range size i ≡ true → size ≤ i.greatest
in_range_most size i e = range_most i.least i.greatest size e

-- A bin that holds an item which passes one test holds one that passes another, where each that passes the first does.
pub holds_weaker : (test other : Item → Bool) → ((i : Item) → test i ≡ true → other i ≡ true) → (bins : List Bin) → any (holds test) bins ≡ true → any (holds other) bins ≡ true
holds_weaker test other h = any_weaker (holds test) (holds other) (λ b. any_weaker test other h b.items)

module _ (named size : ℕ) where
  -- The item that admits a size is one of that number, and unsettled.
  pub admits_named : (bins : List Bin) → any (holds (admits named size)) bins ≡ true → any (holds_named named) bins ≡ true
  admits_named = holds_weaker (admits named size) (is_named named) (λ i e. (both_true (is_named named i) (in_range size i) e).0)

  pub admits_awaits : (bins : List Bin) → any (holds (admits named size)) bins ≡ true → any (holds (awaits named)) bins ≡ true
  admits_awaits =
      holds_weaker (admits named size) (awaits named)
      (λ i e. let both = both_true (is_named named i) (in_range size i) e in rw both.0 (in_range_some size i both.1))

  -- What holds of an item that is settled to the size, and of one that does not admit it.
  pub by_admits : (P : Item → Type 0) (i : Item) → (admits named size i ≡ true → P (settled_to size i)) → (admits named size i ≡ false → P i) → P (settled named size i)
  by_admits P i there apart = go (admits named size i) refl
    where
      go : (t : Bool) → admits named size i ≡ t → P (if t then settled_to size i else i)
      go true e = there e
      go false e = apart e

  pub settled_command : (i : Item) → (settled named size i).command ≡ i.command
  settled_command i = by_admits (λ j. j.command ≡ i.command) i (λ e. refl) (λ e. refl)

  pub settled_kind : (o : Opening) (i : Item) → kind o (settled named size i) ≡ kind o i
  settled_kind o i = by_admits (λ j. kind o j ≡ kind o i) i (λ e. refl) (λ e. refl)

  pub settled_till : (i : Item) → (unsettled i ≡ true → i.size ≡ i.greatest) → unsettled (settled named size i) ≡ true → (settled named size i).size ≡ (settled named size i).greatest
  settled_till i h = by_admits (λ j. unsettled j ≡ true → j.size ≡ j.greatest) i (λ e z. absurd (false≢true z)) (λ e. h)

  -- One that admits the size is unsettled, and so counts by its greatest, which is no less.
  settled_size : (i : Item) → (unsettled i ≡ true → i.size ≡ i.greatest) → (settled named size i).size ≤ i.size
  settled_size i h =
      by_admits (λ j. j.size ≤ i.size) i
      (λ e. let within = (both_true (is_named named i) (in_range size i) e).1 in omega (arith, in_range_most size i within, h (in_range_some size i within)))
      (λ e. omega arith)

  pub settled_load : (items : List Item) → ((i : Item) → Memᴰ i items → unsettled i ≡ true → i.size ≡ i.greatest)
      → total (map (λ i. i.size) (map (settled named size) items)) ≤ total (map (λ i. i.size) items)
  unfolding total
  settled_load [] h = omega arith
  settled_load (i ∷ items) h =
      omega (arith, settled_size i (h i (Memᴰ.head refl)), settled_load items (λ j m. h j (Memᴰ.tail m)))

  -- The bins weigh what their items weigh when they are settled.
  pub settled_weight : (w : Item → ℕ) (bins : List Bin) → weight_of w (map (settled_bin named size) bins) ≡ weight_of (λ i. w (settled named size i)) bins
  unfolding total
  settled_weight w [] = refl
  settled_weight w (b ∷ bs) = omega (arith, ap total (map-map w (settled named size) b.items), settled_weight w bs)
