-- The free units beside an answer are those of its bin, until an item goes there or leaves it: what is still shelved and was answered its number tells
-- what the bin holds.
use Prim.Native.Nat.{ℕ, zero, suc, ◌+◌, ◌≤◌, ◌<◌}
use mathlib.Core.Path.{◌≡◌, refl, sym, ap, subst, ◌∙◌}
use mathlib.Core.List.{List, [], ◌∷◌, ◌++◌, map}
use native.Mathlib.Omega.{arith}
use borrow.Author.Tests.{leb-true, le-leb}
use lib.ListN.{length, take, get_or}
use Rattle.packing.specs.Prelude.{total, Opening, Production, Command, Outcome}
use Rattle.packing.specs.Refusals.{bins_named, free_units}
use Rattle.packing.specs.Bins.{Item, Bin, Packing, opened, load, items_of, free_on}
use Rattle.packing.specs.Placing.{permitted, target, has_space, bin_for}
use Rattle.packing.specs.Withdrawing.{bin_holding}
use Rattle.packing.specs.Sending.{item_of}
use Rattle.packing.specs.Run.{packing}
use Rattle.packing.specs.Claims.{FreeOf, FreeUnits}
use Rattle.packing.proofs.Tests.{clash, both_true}
use Rattle.packing.proofs.Moves.{Move, places, withdraws, settles, counts, switches, refuses}
use Rattle.packing.proofs.Reached.{reached}
use Rattle.packing.proofs.Numbers.{opened_is}
use Rattle.packing.proofs.Running.{move_at}
use Rattle.packing.proofs.Holding.{items_most, sizes_held}

-- A number from 1 to the number of bins is a bin's.
record Standing (bins : List Bin) (number : ℕ) (items : List Item) : Type 0 where
  before : List Bin
  bin : Bin
  behind : List Bin
  bins_are : bins ≡ before ++ bin ∷ behind
  numbered : number ≡ suc (length before)
  items_are : bin.items ≡ items

stands_at : (n : ℕ) (bins : List Bin) → n < length bins → Standing bins (suc n) (get_or (map (λ b. b.items) bins) n [])
stands_at n [] h = absurd (omega arith)
stands_at zero (b ∷ bs) h = record { before = []; bin = b; behind = bs; bins_are = refl; numbered = refl; items_are = refl }
stands_at (suc n) (b ∷ bs) h =
    let further = stands_at n bs (omega arith) in
    record {
      before = b ∷ further.before;
      bin = further.bin;
      behind = further.behind;
      bins_are = ap (λ l. b ∷ l) further.bins_are;
      numbered = ap suc further.numbered;
      items_are = further.items_are;
    }

stands : (number : ℕ) (p : Packing) → 1 ≤ number → number ≤ opened p → Standing p.bins number (items_of number p)
stands zero p l h = absurd (omega arith)
stands (suc n) p l h = stands_at n p.bins (omega arith)

module _ (o : Opening) where
  -- Just after its command the free units are those of the bin that it names.
  record Left (q : Packing) (bin free : ℕ) : Type 0 where
    from_one : 1 ≤ bin
    free_is : free ≡ free_on o bin q

  left_by : {left n : ℕ} {p : Packing} {c : Command} {q : Packing} {a : Outcome} (bin : ℕ) → Move o left p n c a q → bins_named a ≡ bin ∷ [] → Left q bin (free_units a)
  left_by {n = n} {p = p} bin (places {c = c} h) e = let here : bin_for o p (item_of o n c) ≡ bin = cc in record { from_one = omega (arith, here); free_is = cc }
  left_by {p = p} bin (withdraws {named = named} h) e = let here : bin_holding named p ≡ bin = cc in record { from_one = omega (arith, here); free_is = cc }
  left_by {p = p} bin (settles {named = named} h) e = let here : bin_holding named p ≡ bin = cc in record { from_one = omega (arith, here); free_is = cc }
  left_by bin counts e = clash (cc)
  left_by bin switches e = clash (cc)
  left_by bin (refuses z) e = clash (cc)

  -- What is free on a bin, by what stands there.
  free_of : (p : Packing) (number free : ℕ) → total (map (λ i. i.size) (items_of number p)) ≤ o.capacity → free ≡ free_on o number p
      → Standing p.bins number (items_of number p) → FreeOf o p number free
  free_of p number free most e s =
      let held : load s.bin ≡ total (map (λ i. i.size) (items_of number p)) = ap (λ items. total (map (λ i. i.size) items)) s.items_are in
      let sum : free + load s.bin ≡ o.capacity = omega (arith, most) in
      record {
        before = s.before;
        bin = s.bin;
        behind = s.behind;
        bins_are = s.bins_are;
        numbered = s.numbered;
        with_load = sum;
        takes_up_to = λ i may. (
          λ t. omega (arith, leb-true (load s.bin + i.size) o.capacity (both_true (permitted o (target o p i) s.bin) (has_space o p i s.bin) t).1),
          λ l. rw (may, le-leb (load s.bin + i.size) o.capacity (omega arith)),
        );
      }

  module _ (q : Production) (cs : List Command) where
    pub free_units_lem : FreeUnits o q cs
    free_units_lem j i bin a later own e names few same =
        let p = packing o q (take i cs) in
        let left : Left (packing o q (take (suc j) cs)) bin (free_units a) = subst (λ r. Left (packing o r (take (suc j) cs)) bin (free_units a)) own (left_by bin (move_at o j cs a later e).moved names) in
        let sizes : map (λ x. x.size) (items_of bin p) ≡ map (λ x. x.size) (items_of bin (packing o q (take (suc j) cs))) =
        sizes_held o q (take i cs) bin ∙ rw same (sym (sizes_held o q (take (suc j) cs) bin)) in
        free_of p bin (free_units a) (items_most o.capacity bin p (λ b m. ((reached o q (take i cs)).bins_sound b m).not_overfull)) (left.free_is ∙ rw (← sizes))
        (stands bin p left.from_one (omega (arith, opened_is o q (take i cs))))
