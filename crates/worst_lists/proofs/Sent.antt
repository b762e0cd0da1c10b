-- Items that pass the test of Onward, sent as commands 02 without a trailer: all are accepted, none is taken out or settled, and as many bins are opened as
-- foretold.
use Prim.Native.Nat.{ℕ, suc, ◌≤◌}
use mathlib.Core.Path.{◌≡◌, refl, sym, ap, subst, ◌∙◌}
use mathlib.Core.Bool.{Bool, true, false, ◌&&◌, ◌||◌}
use mathlib.Core.List.Memᴰ
use mathlib.Core.List.{List, [], ◌∷◌, ◌++◌, map, flatten, Memᴰ}
use native.Mathlib.Omega.{arith}
use borrow.Author.Tests.{eqb-true}
use lib.Dec.{ltb}
use lib.ListN.{length, length-append}
use Rattle.packing.specs.declared.{Opening.Opening, SizeClass.SizeClass}
use Rattle.packing.specs.declared.Production.TheVariants.{First}
use Rattle.packing.specs.declared.Command.TheVariants.{Shelve}
use Rattle.std.specs.Prelude.{if◌then◌else◌}
use Rattle.packing.specs.Prelude.{any}
use Rattle.packing.specs.Refusals.{is_refused}
use Rattle.packing.specs.Bins.{Item, Packing, empty, opened, stored, kind}
use Rattle.packing.specs.Placing.{into, bin_for, spent, decision, placed}
use Rattle.packing.specs.Shelves.{Shelf, stock_left}
use Rattle.packing.specs.Sending.{fault, item_of}
use Rattle.packing.specs.Run.{told, placement, next, run_from, shelf_from, steps_of, entries_of}
use Rattle.packing.specs.Compared.{is_altered}
use Rattle.packing.proofs.Tests.{both_true, each_cons}
use Rattle.packing.proofs.Sending.{size_fault, size_some}
use Rattle.packing.proofs.Decided.{IsPlaced, goes_in, decides}
use Rattle.worst_lists.proofs.Onward.{Standing, passes_by, fits_last, joins, opens, onward, Stands, passed, stands_join, join_not_spent, stands_open, open_not_spent}

module _ (o : Opening) (plain : o.trailer ≡ 0) (six : 6 ≤ o.m) (all : ℕ) (enough : all ≤ o.stock) where
  -- Production 0 with this packing, and nothing in the other.
  abbrev alone : Packing → Shelf
  alone p = record { first = p; second = empty; current = First }

  pub record Sent (ss : List ℕ) (p : Packing) (n : ℕ) : Type 0 where
    pub all_opened : opened (shelf_from o (alone p) n (map Shelve ss)).first ≡ all
    pub all_accepted : map (λ e. e.size) (entries_of o (steps_of First (run_from o (alone p) n (map Shelve ss)))) ≡ map (stored o) ss
    pub each_good : (s : ℕ) → Memᴰ s ss → (1 ≤ s) × (stored o s ≤ o.capacity)
    pub none_is_altered : any (λ t. is_altered t.outcome) (steps_of First (run_from o (alone p) n (map Shelve ss))) ≡ false

  -- One item that is placed, with what is left of the stock, and then the others.
  module _ (s n : ℕ) (p : Packing) where
    abbrev it : Item
    it = item_of o n (Shelve s)

    abbrev left : ℕ
    left = stock_left o (alone p)

    -- All of it is left, since the other production has opened none.
    was_placed : 1 ≤ it.size → it.size ≤ o.capacity → spent o p it o.stock ≡ false → IsPlaced o p it left (fault (Shelve s))
    was_placed some within room =
        let whole : left ≡ o.stock = omega arith in
        record { faultless = size_fault s (omega (arith, plain)); within_capacity = within; not_spent = ap (spent o p it) whole ∙ room }

    module _ (h : IsPlaced o p it left (fault (Shelve s))) where
      d : decision o p it left (fault (Shelve s)) ≡ into (bin_for o p it)
      d = decides o p it left (fault (Shelve s)) (into (bin_for o p it)) (goes_in h)

      -- It leaves the packing with it.
      after : placed o p it ≡ next o left p n (Shelve s)
      after = sym (ap (λ d. if is_refused (told o (placed o p it) d) then p else placed o p it) d)

      then_sent : (ss : List ℕ) → Sent ss (next o left p n (Shelve s)) (suc n) → Sent (s ∷ ss) p n
      unfolding run_from shelf_from steps_of flatten any
      then_sent ss r =
          let rest = steps_of First (run_from o (alone (next o left p n (Shelve s))) (suc n) (map Shelve ss)) in
          record {
            all_opened = r.all_opened;
            all_accepted =
                ap (λ d. map (λ e. e.size) (placement o (Shelve s) (told o (placed o p it) d) ++ entries_of o rest)) d
                ∙ ap (λ sizes. stored o s ∷ sizes) r.all_accepted;
            each_good = each_cons (λ s. (1 ≤ s) × (stored o s ≤ o.capacity)) (size_some s h.faultless, h.within_capacity) r.each_good;
            none_is_altered = ap (λ d. is_altered (told o (placed o p it) d) || any (λ t. is_altered t.outcome) rest) d ∙ r.none_is_altered;
          }

  pub sent_from : (ss : List ℕ) (t : Standing) (p : Packing) (n : ℕ) → Stands o six all enough t p → onward o.capacity t (map (stored o) ss) ≡ true → Sent ss p n
  unfolding onward run_from shelf_from steps_of flatten any
  sent_from [] t p n st h =
      record {
        all_opened = omega (arith, ap length st.bins_are, length-append st.earlier st.last, st.to_open, eqb-true t.yet 0 h);
        all_accepted = refl;
        each_good = λ s m. absurd (Memᴰ.not-nil m);
        none_is_altered = refl;
      }
  sent_from (s ∷ ss) t p n st h =
      let a = both_true (passes_by c t (stored o s) k) _ h in
      go a.0 (fits_last c t (stored o s) k) refl a.1 (λ t p st. sent_from ss t p (suc n) st)
    where
      c : ℕ
      c = o.capacity

      i : Item
      i = it s n p

      k : SizeClass
      k = kind o i

      go : (ok : passes_by c t (stored o s) k ≡ true) (a : Bool) → fits_last c t (stored o s) k ≡ a
          → (elim a [ true ↦ onward c (joins t (stored o s) k) (map (stored o) ss) | false ↦ ltb 0 t.yet && onward c (opens t (stored o s) k) (map (stored o) ss) ]) ≡ true
          → ((t : Standing) (p : Packing) → Stands o six all enough t p → onward c t (map (stored o) ss) ≡ true → Sent ss p (suc n)) → Sent (s ∷ ss) p n
      go ok true f r others =
          let size = passed o six all enough t p i st ok in
          let h = was_placed s n p size.some size.within_capacity (join_not_spent o six all enough t p i st ok f) in
          then_sent s n p h ss (others _ _ (subst (Stands o six all enough _) (after s n p h) (stands_join o six all enough t p i st ok f)) r)
      go ok false f r others =
          let size = passed o six all enough t p i st ok in
          let more = both_true (ltb 0 t.yet) (onward c (opens t (stored o s) k) (map (stored o) ss)) r in
          let h = was_placed s n p size.some size.within_capacity (open_not_spent o six all enough t p i st ok f more.0) in
          then_sent s n p h ss (others _ _ (subst (Stands o six all enough _) (after s n p h) (stands_open o six all enough t p i st ok f more.0)) more.1)
