-- What every packing is that commands can reach: no more bins than the stock, each not overfull, and of the class of its items. And the packings of both
-- productions together have no more bins than the stock.
use Prim.Native.Nat.{ℕ, suc, ◌+◌, ◌%◌, ◌≤◌, ◌<◌, max}
use mathlib.Core.Path.{◌≡◌, refl, ap}
use mathlib.Core.Bool.{Bool, true, false, not, ◌&&◌, ◌||◌, false≢true}
use mathlib.Core.List.Memᴰ
use mathlib.Core.List.{List, [], ◌∷◌, Memᴰ}
use native.Mathlib.Omega.{arith}
use borrow.Author.Tests.{leb-true, leb-false, ltb-false}
use lib.Dec.{eqb, ltb, leb}
use lib.ListN.{length, length-map}
use Rattle.std.specs.Prelude.{if◌then◌else◌}
use Rattle.packing.specs.Prelude.{total, any, Opening, SizeClass, A, B1, B2, X, Production, First, Second, Command, Outcome}
use Rattle.packing.specs.Bins.{Item, Bin, Packing, empty, opened, load, add, kind, holds_a, stored, unsettled}
use Rattle.packing.specs.Placing.{to_class, beside_a, class_of, first_fit, target_of, permitted, target, has_space, takes, bin_for, spent, placed}
use Rattle.packing.specs.Withdrawing.{is_named, emptied_of, without}
use Rattle.packing.specs.Settling.{settled, settled_bin, settling}
use Rattle.packing.specs.Shelves.{Shelf, empty_shelf, own, stock_left}
use Rattle.packing.specs.Sending.{item_of}
use Rattle.packing.specs.Run.{Step, next_shelf, shelf_from, packing}
use Rattle.packing.specs.Claims.{may_lie_in, SoundBin}
use Rattle.packing.proofs.Tests.{clash, both_true, each_cons, each_map, each_keep}
use Rattle.packing.proofs.Putting.{fresh, put_length, put_each}
use Rattle.packing.proofs.Weights.{total_split}
use Rattle.packing.proofs.Stock.{both_opened}
use Rattle.packing.proofs.Productions.{own_after, other_after}
use Rattle.packing.proofs.Settling.{settled_kind, settled_load, settled_till}
use Rattle.packing.proofs.Moves.{Move, places, withdraws, settles, counts, switches, refuses, move, Trace, ends, moves, trace}

-- First fit passes no more bins than there are.
pub first_few : (test : Bin → Bool) (bins : List Bin) → first_fit test bins ≤ length bins
unfolding first_fit
first_few test [] = omega arith
first_few test (b ∷ bs) = go (test b) (first_few test bs)
  where
    go : (t : Bool) → first_fit test bs ≤ length bs → (if t then 0 else suc (first_fit test bs)) ≤ suc (length bs)
    go true r = omega arith
    go false r = omega arith

-- It stops where one passes the test.
pub first_any : (test : Bin → Bool) (bins : List Bin) → any test bins ≡ true → first_fit test bins < length bins
unfolding first_fit any
first_any test [] e = absurd (false≢true e)
first_any test (b ∷ bs) e = go (test b) e (first_any test bs)
  where
    go : (t : Bool) → (t || any test bs) ≡ true → (any test bs ≡ true → first_fit test bs < length bs) → (if t then 0 else suc (first_fit test bs)) < suc (length bs)
    go true h r = omega arith
    go false h r = omega (arith, r h)

module _ (o : Opening) where
  -- An item mayLieIn to the class of a bin that it is permitted to join, and to the class of the bin that is opened for it.
  joins_its_class : (n : ℕ) (k : SizeClass) (b : Bin) → permitted o (target_of o n k) b ≡ true → may_lie_in k b.class ≡ true
  joins_its_class n A b h = h
  joins_its_class n B1 b h = h
  joins_its_class n B2 b h = go (eqb (suc n % o.m) 0) h
    where
      either : (x y : Bool) → y ≡ true → (x || y) ≡ true
      either true y e = refl
      either false y e = e

      go : (t : Bool) → permitted o (if t then beside_a else to_class 3) b ≡ true → (eqb b.class 1 || eqb b.class 3) ≡ true
      go true h = rw (both_true (eqb b.class 1) (holds_a o b) h).0
      go false h = either (eqb b.class 1) (eqb b.class 3) h
  joins_its_class n X b h = h

  opens_its_class : (n : ℕ) (k : SizeClass) → may_lie_in k (class_of (target_of o n k)) ≡ true
  opens_its_class n A = refl
  opens_its_class n B1 = refl
  opens_its_class n B2 = go (eqb (suc n % o.m) 0)
    where
      go : (t : Bool) → may_lie_in B2 (class_of (if t then beside_a else to_class 3)) ≡ true
      go true = refl
      go false = refl
  opens_its_class n X = refl

  -- The class of the bin that is opened is one of the four.
  pub opens_class : (n : ℕ) (k : SizeClass) → (1 ≤ class_of (target_of o n k)) × (class_of (target_of o n k) ≤ 4)
  opens_class n A = omega arith
  opens_class n B1 = omega arith
  opens_class n B2 = go (eqb (suc n % o.m) 0)
    where
      go : (t : Bool) → (1 ≤ class_of (if t then beside_a else to_class 3)) × (class_of (if t then beside_a else to_class 3) ≤ 4)
      go true = omega arith
      go false = omega arith
  opens_class n X = omega arith

  module _ (p : Packing) (i : Item) where
    sound_joined : i.size ≡ i.greatest → (b : Bin) → takes o p i b ≡ true → SoundBin o b → SoundBin o (add i b)
    unfolding total
    sound_joined whole b t h =
        let both = both_true (permitted o (target o p i) b) (has_space o p i b) t in
        record {
          not_overfull = omega (arith, leb-true (load b + i.size) o.capacity both.1);
          from_class_1 = h.from_class_1;
          to_class_4 = h.to_class_4;
          is_in_class = each_cons (λ j. may_lie_in (kind o j) b.class ≡ true) (joins_its_class p.b2s (kind o i) b both.0) h.is_in_class;
          till_settled = each_cons (λ j. unsettled j ≡ true → j.size ≡ j.greatest) (λ z. whole) h.till_settled;
        }

    sound_opened : i.size ≡ i.greatest → i.size ≤ o.capacity → SoundBin o (add i (fresh (class_of (target o p i))))
    unfolding total
    sound_opened whole l =
        record {
          not_overfull = omega arith;
          from_class_1 = (opens_class p.b2s (kind o i)).0;
          to_class_4 = (opens_class p.b2s (kind o i)).1;
          is_in_class =
              each_cons (λ j. may_lie_in (kind o j) (class_of (target o p i)) ≡ true) (opens_its_class p.b2s (kind o i))
              (λ j m. absurd (Memᴰ.not-nil m));
          till_settled = each_cons (λ j. unsettled j ≡ true → j.size ≡ j.greatest) (λ z. whole) (λ j m. absurd (Memᴰ.not-nil m));
        }

    -- One more bin exactly where the number answered is new.
    pub opened_placed : opened (placed o p i) ≡ max (opened p) (bin_for o p i)
    unfolding placed
    opened_placed = put_length (takes o p i) (fresh (class_of (target o p i))) i p.bins

    -- A new bin is opened only while what is left of the stock lasts, and so within whatever is no less.
    pub in_stock : (left most : ℕ) → spent o p i left ≡ false → left ≤ most → opened p ≤ most → max (opened p) (bin_for o p i) ≤ most
    in_stock left most h few l = go (ltb (opened p) (bin_for o p i)) (leb left (opened p)) refl refl h
      where
        go : (a b : Bool) → ltb (opened p) (bin_for o p i) ≡ a → leb left (opened p) ≡ b → (a && b) ≡ false → max (opened p) (bin_for o p i) ≤ most
        go true true x y e = clash (cc)
        go true false x y e = omega (arith, leb-false left (opened p) y, first_few (takes o p i) p.bins)
        go false b x y e = omega (arith, ltb-false (opened p) (bin_for o p i) x)

  -- So is every bin, once an item is placed that a bin can hold.
  pub sound_placed : (p : Packing) (i : Item) → i.size ≡ i.greatest → i.size ≤ o.capacity → ((b : Bin) → Memᴰ b p.bins → SoundBin o b)
      → (b : Bin) → Memᴰ b (placed o p i).bins → SoundBin o b
  unfolding placed
  sound_placed p i whole l h =
      put_each (takes o p i) (fresh (class_of (target o p i))) i (SoundBin o) (sound_joined p i whole) (sound_opened p i whole l) p.bins h

  -- And once one is taken out: a bin may be emptied, and keeps its class.
  sound_less : (named : ℕ) (b : Bin) → SoundBin o b → SoundBin o (emptied_of named b)
  sound_less named b h =
      record {
        not_overfull = omega (arith, h.not_overfull, total_split (λ i. i.size) (is_named named) b.items);
        from_class_1 = h.from_class_1;
        to_class_4 = h.to_class_4;
        is_in_class = each_keep (λ i. not (is_named named i)) (λ i. may_lie_in (kind o i) b.class ≡ true) b.items h.is_in_class;
        till_settled = each_keep (λ i. not (is_named named i)) (λ i. unsettled i ≡ true → i.size ≡ i.greatest) b.items h.till_settled;
      }

  pub sound_without : (named : ℕ) (p : Packing) → ((b : Bin) → Memᴰ b p.bins → SoundBin o b) → (b : Bin) → Memᴰ b (without named p).bins → SoundBin o b
  unfolding without
  sound_without named p h = each_map (emptied_of named) (SoundBin o) p.bins (λ b m. sound_less named b (h b m))

  -- And once one is settled: its size is no more than the greatest, by which it counted, and its class is that of the greatest.
  sound_smaller : (named size : ℕ) (b : Bin) → SoundBin o b → SoundBin o (settled_bin named size b)
  sound_smaller named size b h =
      record {
        not_overfull = omega (arith, h.not_overfull, settled_load named size b.items h.till_settled);
        from_class_1 = h.from_class_1;
        to_class_4 = h.to_class_4;
        is_in_class =
            each_map (settled named size) (λ i. may_lie_in (kind o i) b.class ≡ true) b.items (λ i m. rw (settled_kind named size o i) (h.is_in_class i m));
        till_settled = each_map (settled named size) (λ i. unsettled i ≡ true → i.size ≡ i.greatest) b.items (λ i m. settled_till named size i (h.till_settled i m));
      }

  pub sound_settling : (named size : ℕ) (p : Packing) → ((b : Bin) → Memᴰ b p.bins → SoundBin o b)
      → (b : Bin) → Memᴰ b (settling named size p).bins → SoundBin o b
  unfolding settling
  sound_settling named size p h = each_map (settled_bin named size) (SoundBin o) p.bins (λ b m. sound_smaller named size b (h b m))

  pub record Reached (p : Packing) : Type 0 where
    pub bins_sound : (b : Bin) → Memᴰ b p.bins → SoundBin o b
    pub stock_lasts : opened p ≤ o.stock

  pub reached_empty : Reached empty
  reached_empty = record { bins_sound = λ b m. absurd (Memᴰ.not-nil m); stock_lasts = omega arith }

  -- Taking an item out closes no bin.
  pub opened_without : (named : ℕ) (p : Packing) → opened (without named p) ≡ opened p
  unfolding without
  opened_without named p = length-map p.bins (emptied_of named)

  -- Nor does settling one.
  pub opened_settling : (named size : ℕ) (p : Packing) → opened (settling named size p) ≡ opened p
  unfolding settling
  opened_settling named size p = length-map p.bins (settled_bin named size)

  -- No move opens more than what is left of the stock, nor than whatever is no less.
  pub opened_move : {left n : ℕ} {p : Packing} {c : Command} {q : Packing} {a : Outcome} (most : ℕ) → Move o left p n c a q → left ≤ most → opened p ≤ most → opened q ≤ most
  opened_move {left = left} {n = n} {p = p} most (places {c = c} d) few l =
      omega (arith, opened_placed p (item_of o n c), in_stock p (item_of o n c) left most d.was_placed.not_spent few l)
  opened_move {p = p} most (withdraws {named = named} e) few l = omega (arith, opened_without named p)
  opened_move {p = p} most (settles {named = named} {size = size} e) few l = omega (arith, opened_settling named (stored o size) p)
  opened_move most counts few l = l
  opened_move most switches few l = l
  opened_move most (refuses z) few l = l

  sound_move : {left n : ℕ} {p : Packing} {c : Command} {q : Packing} {a : Outcome} → Move o left p n c a q → ((b : Bin) → Memᴰ b p.bins → SoundBin o b)
      → (b : Bin) → Memᴰ b q.bins → SoundBin o b
  sound_move {n = n} {p = p} (places {c = c} d) h = sound_placed p (item_of o n c) refl d.was_placed.within_capacity h
  sound_move {p = p} (withdraws {named = named} e) h = sound_without named p h
  sound_move {p = p} (settles {named = named} {size = size} e) h = sound_settling named (stored o size) p h
  sound_move counts h = h
  sound_move switches h = h
  sound_move (refuses z) h = h

  pub reached_move : {left n : ℕ} {p : Packing} {c : Command} {q : Packing} {a : Outcome} → Move o left p n c a q → left ≤ o.stock → Reached p → Reached q
  reached_move m few h = record { bins_sound = sound_move m h.bins_sound; stock_lasts = opened_move o.stock m few h.stock_lasts }

  trace_reached : {n e : ℕ} {p q : Packing} {ts : List Step} → Trace o n p ts e q → Reached p → Reached q
  trace_reached (ends l) h = h
  trace_reached (moves l few m r) h = trace_reached r (reached_move m few h)

  pub reached : (q : Production) (cs : List Command) → Reached (packing o q cs)
  reached q cs = trace_reached (trace o q cs) reached_empty

  -- Both together open no more than the stock.
  both_after : (s : Shelf) (n : ℕ) (c : Command) → opened s.first + opened s.second ≤ o.stock
      → opened (next_shelf o s n c).first + opened (next_shelf o s n c).second ≤ o.stock
  both_after s n c h =
      let left = stock_left o s in
      let own-few = opened_move left (move o left (own s) n c) (omega arith) (omega (arith, both_opened s s.current)) in
      omega (
        arith,
        own-few,
        both_opened s s.current,
        both_opened (next_shelf o s n c) s.current,
        ap opened (own_after o s n c),
        ap opened (other_after o s n c),
      )

  both_from : (cs : List Command) (s : Shelf) (n : ℕ) → opened s.first + opened s.second ≤ o.stock
      → opened (shelf_from o s n cs).first + opened (shelf_from o s n cs).second ≤ o.stock
  unfolding shelf_from
  both_from [] s n h = h
  both_from (c ∷ cs) s n h = both_from cs (next_shelf o s n c) (suc n) (both_after s n c h)

  pub both_in_stock : (cs : List Command) → opened (packing o First cs) + opened (packing o Second cs) ≤ o.stock
  both_in_stock cs = both_from cs empty_shelf 1 (omega arith)
