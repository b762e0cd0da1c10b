-- "For any true sizes of unsettled masters within their ranges, no cartridge is overfilled": an unsettled item counts by its greatest size, and its true
-- size is no more.
use Prim.Native.Nat.{ℕ, ◌≤◌}
use mathlib.Core.Path.{◌≡◌, refl, sym, ap, ◌∙◌}
use mathlib.Core.Bool.{Bool, true, false}
use mathlib.Core.List.Memᴰ
use mathlib.Core.List.{List, [], ◌∷◌, map, map-map, Memᴰ}
use native.Mathlib.Omega.{arith}
use lib.Dec.{eqb}
use lib.ListN.{take}
use Rattle.std.specs.Prelude.{if◌then◌else◌}
use Rattle.packing.specs.Prelude.{total, keep, Opening, Production, Command}
use Rattle.packing.specs.Bins.{Item, Bin, stored, unsettled, in_range}
use Rattle.packing.specs.Run.{Shelved, entry_of, packing, still_shelved}
use Rattle.packing.specs.Compared.{shelf_plan, sizes_in}
use Rattle.packing.specs.Claims.{true_size, WithinRanges, TrueSizesFit}
use Rattle.packing.proofs.Tests.{each_keep}
use Rattle.packing.proofs.Keeping.{keep_map}
use Rattle.packing.proofs.Settling.{in_range_most}
use Rattle.packing.proofs.Reached.{reached}
use Rattle.packing.proofs.Shelved.{lying}
use Rattle.packing.proofs.Holding.{shown_few}

module _ (o : Opening) (truth : (number : ℕ) → ℕ) where
  -- What is known of an item.
  record Counts (i : Item) : Type 0 where
    till_settled : unsettled i ≡ true → i.size ≡ i.greatest
    within : unsettled i ≡ true → in_range (stored o (truth i.command)) i ≡ true

  true_few : (i : Item) → Counts i → true_size o truth i ≤ i.size
  true_few i h = go (unsettled i) refl
    where
      go : (t : Bool) → unsettled i ≡ t → (if t then stored o (truth i.command) else i.size) ≤ i.size
      go true e = omega (arith, h.till_settled e, in_range_most (stored o (truth i.command)) i (h.within e))
      go false e = omega arith

  -- So many items turn out to be no larger than they count.
  true_most : {A : Type 0} (of : A → Item) (l : List A) → ((a : A) → Memᴰ a l → Counts (of a))
      → total (map (λ a. true_size o truth (of a)) l) ≤ total (map (λ a. (of a).size) l)
  unfolding total
  true_most of [] h = omega arith
  true_most of (a ∷ l) h = omega (arith, true_few (of a) (h a (Memᴰ.head refl)), true_most of l (λ x m. h x (Memᴰ.tail m)))

module _ (o : Opening) (q : Production) (cs : List Command) where
  shown : (truth : (number : ℕ) → ℕ) (n : ℕ) → WithinRanges o truth (map (λ s. s.item) (still_shelved o q cs))
      → total (map (λ s. true_size o truth s.item) (keep (λ s. eqb s.bin n) (still_shelved o q cs))) ≤ o.capacity
  shown truth n h =
      let here : Shelved → Bool = λ s. eqb s.bin n in
      let on = still_shelved o q cs in
      let sizes : map (λ s. s.item.size) (keep here on) ≡ sizes_in n (shelf_plan o q cs) =
      sym (map-map (λ e. e.size) entry_of (keep here on)) ∙ ap (map (λ e. e.size)) (sym (keep_map entry_of here (λ e. eqb e.bin n) on (λ s m. refl))) in
      let few =
      true_most o truth (λ (s : Shelved). s.item) (keep here on)
      (each_keep here (λ s. Counts o truth s.item) on
      (λ s m. record { till_settled = ((lying o q cs).each s m).till_settled; within = h s.item (Memᴰ.map (λ s. s.item) m) })) in
      omega (arith, few, ap total sizes, shown_few o q cs n)

  in_bin_lem : (truth : (number : ℕ) → ℕ) (b : Bin) → Memᴰ b (packing o q cs).bins → WithinRanges o truth b.items → total (map (true_size o truth) b.items) ≤ o.capacity
  in_bin_lem truth b m h =
      let sound = (reached o q cs).bins_sound b m in
      omega (arith, sound.not_overfull, true_most o truth (λ (i : Item). i) b.items (λ i k. record { till_settled = sound.till_settled i k; within = h i k }))

pub true_sizes_fit : (o : Opening) (q : Production) (cs : List Command) → TrueSizesFit o q cs
true_sizes_fit o q cs = record { shown = λ truth j n. shown o q (take j cs) truth n; bins = λ truth j b m. in_bin_lem o q (take j cs) truth b m }
