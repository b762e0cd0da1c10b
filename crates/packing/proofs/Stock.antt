-- Refusals 8, 19, 9 and 10 of an item, each exactly under its condition: 10 when no permitted bin of the
-- production has space and both productions together have opened the whole stock.
use Prim.Native.Nat.{ℕ, suc, ◌+◌, ◌≤◌, ◌<◌}
use mathlib.Core.Path.{◌≡◌, refl, ap, ◌∙◌}
use mathlib.Core.Bool.{Bool, true, false, ◌&&◌, false≢true}
use Rattle.std.specs.Prelude.{None, Some}
use mathlib.Core.List.Memᴰ
use mathlib.Core.List.{List, [], ◌∷◌, Memᴰ}
use native.Mathlib.Omega.{arith}
use borrow.Author.Tests.{ltb-true, leb-true, leb-false, lt-ltb, le-leb, lt-leb}
use lib.Dec.{ltb, leb}
use lib.ListN.{length}
use Rattle.std.specs.Prelude.{if◌then◌else◌}
use Rattle.packing.specs.Prelude.{Opening, First, Second, Production, Command, Shelve, Reserve, Refused, ItemReason, SizeZero, AboveCapacity, StockSpent, RangeWrong}
use Rattle.packing.specs.Bins.{Item, Bin, Packing, opened, load}
use Rattle.packing.specs.Placing.{Decision, first_fit, permitted, target, has_space, takes, bin_for, decision, placed}
use Rattle.packing.specs.Productions.{other}
use Rattle.packing.specs.Shelves.{Shelf, of, own, stock_left}
use Rattle.packing.specs.Sending.{fault, item_of}
use Rattle.packing.specs.Run.{told, shelved_as}
use Rattle.packing.specs.Claims.{Spent, RefusedExactly, RangeRefusedExactly}
use Rattle.packing.proofs.Tests.{clash, both_true, each_cons}
use Rattle.packing.proofs.Decided.{Decided, goes_in, is_faulty, is_above, is_spent_lem, decided, decides}
use Rattle.packing.proofs.Sending.{size_fault, size_faulty, size_some, size_zero, range_fault, range_faulty, range_good, range_wrong, zero_only, wrong_only}

-- First fit passes all bins exactly when none takes the item.
none_takes : (test : Bin → Bool) (bins : List Bin) → length bins ≤ first_fit test bins → (b : Bin) → Memᴰ b bins → test b ≡ false
unfolding first_fit
none_takes test [] h = λ b m. absurd (Memᴰ.not-nil m)
none_takes test (b ∷ bs) h = go (test b) refl h (none_takes test bs)
  where
    go : (t : Bool) → test b ≡ t → suc (length bs) ≤ (if t then 0 else suc (first_fit test bs))
        → (length bs ≤ first_fit test bs → (x : Bin) → Memᴰ x bs → test x ≡ false) → (x : Bin) → Memᴰ x (b ∷ bs) → test x ≡ false
    go true e l r = absurd (omega arith)
    go false e l r = each_cons (λ x. test x ≡ false) e (r (omega arith))

passes_all : (test : Bin → Bool) (bins : List Bin) → ((b : Bin) → Memᴰ b bins → test b ≡ false) → first_fit test bins ≡ length bins
unfolding first_fit
passes_all test [] h = refl
passes_all test (b ∷ bs) h = rw (h b (Memᴰ.head refl)) (omega (arith, passes_all test bs (λ x m. h x (Memᴰ.tail m))))

module _ (o : Opening) (p : Packing) (i : Item) where
  full : (b : Bin) → takes o p i b ≡ false → permitted o (target o p i) b ≡ true → o.capacity < load b + i.size
  full b t h = go (permitted o (target o p i) b) (has_space o p i b) refl h t
    where
      go : (x y : Bool) → has_space o p i b ≡ y → x ≡ true → (x && y) ≡ false → o.capacity < load b + i.size
      go true true e u z = absurd (false≢true (cc))
      go true false e u z = leb-false (load b + i.size) o.capacity e
      go false y e u z = absurd (false≢true u)

  refuses : (b : Bin) → (permitted o (target o p i) b ≡ true → o.capacity < load b + i.size) → takes o p i b ≡ false
  refuses b h = go (permitted o (target o p i) b) refl
    where
      go : (x : Bool) → permitted o (target o p i) b ≡ x → (x && has_space o p i b) ≡ false
      go true e = lt-leb (load b + i.size) o.capacity (h e)
      go false e = refl

-- What the two productions have opened, whichever is current.
pub both_opened : (s : Shelf) (q : Production) → opened (of q s) + opened (of (other q) s) ≡ opened s.first + opened s.second
both_opened s First = omega arith
both_opened s Second = omega arith

-- A command that shelves an item: 8 or 19 exactly where it has that fault, and 9 where it has none and the stored size is above the capacity.
module _ (o : Opening) (s : Shelf) (n : ℕ) (c : Command) where
  abbrev i : Item
  i = item_of o n c

  abbrev p : Packing
  p = own s

  abbrev left : ℕ
  left = stock_left o s

  faulty_only : (reason : ItemReason) → (reason ≡ AboveCapacity → ⊥) → (reason ≡ StockSpent → ⊥) → (d : Decision) → Decided o p i left (fault c) d
      → told o (placed o p i) d ≡ Refused reason → fault c ≡ Some reason
  faulty_only reason x y d (goes_in h) e = clash (cc)
  faulty_only reason x y d (is_faulty r f) e = f ∙ ap Some (cc)
  faulty_only reason x y d (is_above f m) e = absurd (x (cc))
  faulty_only reason x y d (is_spent_lem f m z) e = absurd (y (cc))

  faulty_then : (reason : ItemReason) → fault c ≡ Some reason → shelved_as o left p n c ≡ Refused reason
  faulty_then reason e = ap (told o (placed o p i)) (decides o p i left (fault c) _ (is_faulty reason e))

  above_only : (fault c ≡ Some AboveCapacity → ⊥) → (d : Decision) → Decided o p i left (fault c) d → told o (placed o p i) d ≡ Refused AboveCapacity
      → (fault c ≡ None) × (o.capacity < i.size)
  above_only x d (goes_in h) e = clash (cc)
  above_only x d (is_faulty reason f) e = absurd (x (f ∙ ap Some (cc)))
  above_only x d (is_above f m) e = (f, m)
  above_only x d (is_spent_lem f m z) e = clash (cc)

  above_then : fault c ≡ None → o.capacity < i.size → shelved_as o left p n c ≡ Refused AboveCapacity
  above_then f m = ap (told o (placed o p i)) (decides o p i left (fault c) _ (is_above f m))

  -- 10 where it has no fault, and the stock is spent for the production that is current.
  spent_only : (fault c ≡ Some StockSpent → ⊥) → (d : Decision) → Decided o p i left (fault c) d → told o (placed o p i) d ≡ Refused StockSpent
      → (fault c ≡ None) × Spent o s i
  spent_only x d (goes_in h) e = clash (cc)
  spent_only x d (is_faulty reason f) e = absurd (x (f ∙ ap Some (cc)))
  spent_only x d (is_above f m) e = clash (cc)
  spent_only x d (is_spent_lem f m z) e =
      let both = both_true (ltb (opened p) (bin_for o p i)) (leb left (opened p)) z in
      let new = ltb-true (opened p) (bin_for o p i) both.0 in (
        f,
        record {
          within_capacity = m;
          no_space = λ b k. full o p i b (none_takes (takes o p i) p.bins (omega arith) b k);
          all_opened = omega (arith, leb-true left (opened p) both.1, both_opened s s.current);
        },
      )

  spent_then : fault c ≡ None → Spent o s i → shelved_as o left p n c ≡ Refused StockSpent
  spent_then f h =
      let all = passes_all (takes o p i) p.bins (λ b m. refuses o p i b (h.no_space b m)) in
      ap (told o (placed o p i))
      (decides o p i left (fault c) _
      (is_spent_lem f h.within_capacity
      (rw (lt-ltb (opened p) (bin_for o p i) (omega arith), le-leb left (opened p) (omega (arith, h.all_opened, both_opened s s.current))))))

  abbrev view : Decided o p i left (fault c) (decision o p i left (fault c))
  view = decided o p i left (fault c)

pub refused_exactly : (o : Opening) (s : Shelf) (n size : ℕ) → RefusedExactly o s n size
refused_exactly o s n size =
    let c = Shelve size in
    let only = zero_only size in
    record {
      zero = (
        λ e. size_zero size _ (faulty_only o s n c SizeZero (λ x. clash (cc)) (λ x. clash (cc)) _ (view o s n c) e),
        λ e. faulty_then o s n c SizeZero (size_faulty size e),
      );
      above = (
        λ e. let r = above_only o s n c (λ x. clash (cc (only AboveCapacity x))) _ (view o s n c) e in (size_some size r.0, r.1),
        λ h. above_then o s n c (size_fault size h.0) h.1,
      );
      spent = (
        λ e. let r = spent_only o s n c (λ x. clash (cc (only StockSpent x))) _ (view o s n c) e in (size_some size r.0, r.1),
        λ h. spent_then o s n c (size_fault size h.0) h.1,
      );
    }

pub range_refused_exactly : (o : Opening) (s : Shelf) (n least greatest : ℕ) → RangeRefusedExactly o s n least greatest
range_refused_exactly o s n least greatest =
    let c = Reserve least greatest in
    let only = wrong_only least greatest in
    record {
      wrong = (
        λ e. range_wrong least greatest _ (faulty_only o s n c RangeWrong (λ x. clash (cc)) (λ x. clash (cc)) _ (view o s n c) e),
        λ e. faulty_then o s n c RangeWrong (range_faulty least greatest e),
      );
      above = (
        λ e.
            let r = above_only o s n c (λ x. clash (cc (only AboveCapacity x))) _ (view o s n c) e in
            let good = range_good least greatest r.0 in
            (good.0, good.1, r.1),
        λ h. above_then o s n c (range_fault least greatest h.0 h.1) h.2,
      );
      spent = (
        λ e.
            let r = spent_only o s n c (λ x. clash (cc (only StockSpent x))) _ (view o s n c) e in
            let good = range_good least greatest r.0 in
            (good.0, good.1, r.1),
        λ h. spent_then o s n c (range_fault least greatest h.0 h.1) h.2,
      );
      never_8 = λ e. clash (cc (only SizeZero (faulty_only o s n c SizeZero (λ x. clash (cc)) (λ x. clash (cc)) _ (view o s n c) e)));
    }
