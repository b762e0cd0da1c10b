-- Command 07: refused with 20 exactly when no step of 06 in its production shelved the item named, or one took it out or settled it; with 21 exactly when
-- one did and the size is outside the range that it gave; else answered by the bin that the item was answered.
use Prim.Native.Nat.{ℕ, ◌+◌, ◌≤◌, ◌<◌}
use mathlib.Core.Path.{◌≡◌, refl, sym, ap, subst, ◌∙◌}
use mathlib.Core.Logic.{◌↔◌, ◌⊎◌, inl, inr}
use mathlib.Core.Bool.{Bool, true, false, not, ◌&&◌, ◌||◌, false≢true, true≢false}
use mathlib.Core.List.Memᴰ
use mathlib.Core.List.{List, [], ◌∷◌, map, Memᴰ}
use native.Mathlib.Omega.{arith}
use borrow.Author.Tests.{eqb-true, eq-eqb, ne_eqb, le-leb, leb-true, leb-false}
use lib.Dec.{leb}
use lib.ListN.{take, drop}
use Rattle.std.specs.Prelude.{if◌then◌else◌}
use Rattle.packing.specs.Prelude.{total, any, ◌≤?◌, Opening, Production, Command, Shelve, Count, Withdraw, Switch, Reserve, Settle}
use Rattle.packing.specs.Prelude.{Outcome, Settled, Refused, NotReserved, OutsideRange}
use Rattle.packing.specs.Refusals.{is_refused, is_settled}
use Rattle.packing.specs.Bins.{Item, Packing, free_on, stored, holds, has_range, unsettled, in_range}
use Rattle.packing.specs.Withdrawing.{is_named, holds_named, bin_holding}
use Rattle.packing.specs.Settling.{settled_to, awaits, admits, settled, settling, settlement}
use Rattle.packing.specs.Sending.{shelves_item, least_of, item_of}
use Rattle.packing.specs.Run.{Step, Shelved, settled_there, shelving, outcomes, current, steps, packing, still_shelved}
use Rattle.packing.specs.Claims.{ShelvedIn, Unsettled}
use Rattle.packing.proofs.Tests.{clash, both_true}
use Rattle.packing.proofs.Searching.{found, any_weaker}
use Rattle.packing.proofs.Weights.{one_for}
use Rattle.packing.proofs.Settling.{by_admits, settled_command, admits_named, admits_awaits}
use Rattle.packing.proofs.Moves.{Move, places, withdraws, settles, counts, switches, refuses, trace}
use Rattle.packing.proofs.Shelved.{Lying, lying_start, any_shelved, lying}
use Rattle.packing.proofs.Named.{shelved_each, earlier, placed_there, Gone, gone_by}
use Rattle.packing.proofs.Withdrawals.{on_shelf, shelved_there}
use Rattle.packing.proofs.Running.{answer_at, move_at}

-- A command whose item is known within a range is 06.
record Ranged (o : Opening) (c : Command) : Type 0 where
  least : ℕ
  greatest : ℕ
  command_is : c ≡ Reserve least greatest

ranged : (o : Opening) (c : Command) → has_range (least_of o c) ≡ true → Ranged o c
ranged o (Shelve size) e = absurd (false≢true e)
ranged o Count e = absurd (false≢true e)
ranged o (Withdraw named) e = absurd (false≢true e)
ranged o (Switch r) e = absurd (false≢true e)
ranged o (Reserve least greatest) e = record { least = least; greatest = greatest; command_is = refl }
ranged o (Settle named size) e = absurd (false≢true e)

-- Each unsettled item still shelved was shelved by a step of 06.
record ByRange (o : Opening) (ts : List Step) (number : ℕ) : Type 0 where
  bin : ℕ
  shelved : ShelvedIn ts number bin
  range : Ranged o shelved.step.command

by_range : (o : Opening) (q : Production) (cs : List Command) (s : Shelved) → Memᴰ s (still_shelved o q cs) → unsettled s.item ≡ true
    → ByRange o (steps o q cs) s.item.command
by_range o q cs =
    shelved_each o (λ s. unsettled s.item ≡ true → ByRange o (steps o q cs) s.item.command) (steps o q cs) [] (λ s m. absurd (Memᴰ.not-nil m))
    (λ t m bin free e z.
    record { bin = bin; shelved = record { step = t; among = m; of_number = refl; placed = rw e; its_bin = rw e }; range = ranged o t.command z })
    (λ named size s h.
    by_admits named size (λ i. unsettled i ≡ true → ByRange o (steps o q cs) i.command) s.item (λ e z. absurd (false≢true z)) (λ e. h))

module _ (named : ℕ) where
  -- The item of this number is on the list, and unsettled.
  abbrev waiting : List Shelved → Bool
  waiting on = any (λ s. awaits named s.item) on

  its_number : (test : Item → Bool) (i : Item) → (is_named named i && test i) ≡ true → i.command ≡ named
  its_number test i e = eqb-true i.command named (both_true (is_named named i) (test i) e).0

  -- A settling of another item leaves it as it is.
  other_stays : (test : Item → Bool) (m size : ℕ) → (m ≡ named → ⊥) → (i : Item) → (is_named named (settled m size i) && test (settled m size i)) ≡ (is_named named i && test i)
  other_stays test m size z i =
      by_admits m size (λ j. (is_named named j && test j) ≡ (is_named named i && test i)) i
      (λ e.
      let its = eqb-true i.command m (both_true (is_named m i) (in_range size i) e).0 in
      rw (ne_eqb i.command named (λ x. z (sym its ∙ x))))
      (λ e. refl)

  -- None makes one unsettled.
  no_new : (m size : ℕ) (i : Item) → awaits named (settled m size i) ≡ true → awaits named i ≡ true
  no_new m size i =
      by_admits m size (λ j. awaits named j ≡ true → awaits named i ≡ true) i (λ e z. absurd (false≢true (both_true (is_named named i) false z).1)) (λ e z. z)

  -- Where no number has two items, the one that admits the size is the one that waits; settled, it waits no longer.
  marked : (on : List Shelved) → total (map (λ s. one_for (is_named named) s.item) on) ≡ 0 → (size : ℕ)
      → (any (λ s. admits named size s.item) on ≡ false) × (waiting (map (settled_there named size) on) ≡ false)
  unfolding total any
  marked [] e size = (refl, refl)
  marked (s ∷ on) e size = go (is_named named s.item) refl e (marked on)
    where
      go : (t : Bool) → is_named named s.item ≡ t → (if t then 1 else 0) + total (map (λ s. one_for (is_named named) s.item) on) ≡ 0
          → (total (map (λ s. one_for (is_named named) s.item) on) ≡ 0 → (size : ℕ)
          → (any (λ s. admits named size s.item) on ≡ false) × (waiting (map (settled_there named size) on) ≡ false))
          → (any (λ s. admits named size s.item) (s ∷ on) ≡ false) × (waiting (map (settled_there named size) (s ∷ on)) ≡ false)
      go true q e r = absurd (omega arith)
      go false q e r =
          let rest = r (omega arith) size in
          (rw q rest.0, rw (settled_command named size s.item, q) rest.1)

  settles_all : (on : List Shelved) (size : ℕ) → total (map (λ s. one_for (is_named named) s.item) on) ≤ 1 → any (λ s. admits named size s.item) on ≡ true
      → waiting (map (settled_there named size) on) ≡ false
  unfolding total any
  settles_all [] size few e = absurd (false≢true e)
  settles_all (s ∷ on) size few e = go (is_named named s.item) refl few e (settles_all on size)
    where
      go : (t : Bool) → is_named named s.item ≡ t → (if t then 1 else 0) + total (map (λ s. one_for (is_named named) s.item) on) ≤ 1
          → (t && in_range size s.item || any (λ s. admits named size s.item) on) ≡ true
          → (total (map (λ s. one_for (is_named named) s.item) on) ≤ 1 → any (λ s. admits named size s.item) on ≡ true → waiting (map (settled_there named size) on) ≡ false)
          → waiting (map (settled_there named size) (s ∷ on)) ≡ false
      go true q few e r =
          let rest = marked on (omega arith) size in
          let fits : in_range size s.item ≡ true = alone (in_range size s.item) (any (λ s. admits named size s.item) on) e rest.0 in
          rw (q, fits) (rw (and_no (is_named named (settled_to size s.item))) rest.1)
        where
          alone : (t u : Bool) → (t || u) ≡ true → u ≡ false → t ≡ true
          alone true u e z = refl
          alone false u e z = absurd (true≢false (sym e ∙ z))

          and_no : (t : Bool) → (t && false) ≡ false
          and_no true = refl
          and_no false = refl
      go false q few e r = rw (settled_command named size s.item, q) (r (omega arith) e)

  module _ (o : Opening) where
    -- The step that settles it.
    record Settles (t : Step) : Type 0 where
      size : ℕ
      command_is : t.command ≡ Settle named size
      accepted : is_refused t.outcome ≡ false

    settle_down : (left k : ℕ) (p : Packing) (r : Production) (c : Command) (q : Packing) (a : Outcome) (on : List Shelved) → Lying o k p on → Move o left p k c a q
        → Settles (record { number = k; production = r; command = c; before = p; outcome = a }) → Gone o named (awaits named) (its_number unsettled) no_new k (shelving o k c a on)
    settle_down left k p r c q a on h (places x) z = absurd (false≢true (ap shelves_item (sym z.command_is) ∙ x.shelves))
    settle_down left k p r c q a on h (withdraws x) z = let e = z.command_is in clash (cc)
    settle_down left k p r c q a on h (settles {named = m} {size = size} x) z =
        let e = z.command_is in
        let same : m ≡ named = cc in
        let here : any (holds (admits named (stored o size))) p.bins ≡ true = subst (λ k. any (holds (admits k (stored o size))) p.bins ≡ true) same x in
        record {
          was =
              earlier o named (awaits named) (its_number unsettled) h (sym (any_shelved o h (awaits named)) ∙ admits_awaits named (stored o size) p.bins here);
          gone = rw same (settles_all on (stored o size) (h.once named) (sym (any_shelved o h (admits named (stored o size))) ∙ here));
        }
    settle_down left k p r c q a on h counts z = let e = z.command_is in clash (cc)
    settle_down left k p r c q a on h switches z = let e = z.command_is in clash (cc)
    settle_down left k p r c q a on h (refuses w) z = absurd (true≢false z.accepted)

    settled_down : (q : Production) (cs : List Command) (t : Step) (size : ℕ) → Memᴰ t (steps o q cs) → t.command ≡ Settle named size → is_refused t.outcome ≡ false
        → waiting (still_shelved o q cs) ≡ false
    settled_down q cs t size m c z =
        gone_by o named (awaits named) (its_number unsettled) no_new Settles settle_down (trace o q cs) [] (lying_start o) t m
        (record { size = size; command_is = c; accepted = z })

    -- So what the answers tell is what is on the list: an item that waits,
    record Waits (q : Production) (cs : List Command) : Type 0 where
      least : ℕ
      greatest : ℕ
      is_unsettled : Unsettled (steps o q cs) named least greatest

    waits : (q : Production) (cs : List Command) → waiting (still_shelved o q cs) ≡ true → Waits q cs
    waits q cs e =
        let f = found (λ s. awaits named s.item) (still_shelved o q cs) e in
        let both = both_true (is_named named f.member.item) (unsettled f.member.item) f.passes in
        let by : ByRange o (steps o q cs) named =
        subst (ByRange o (steps o q cs)) (eqb-true f.member.item.command named both.0) (by_range o q cs f.member f.among both.1) in
        let there =
        on_shelf named o q cs
        (any_weaker (λ s. awaits named s.item) (λ s. is_named named s.item) (λ s t. (both_true (is_named named s.item) (unsettled s.item) t).0) (still_shelved o q cs) e) in
        record {
          least = by.range.least;
          greatest = by.range.greatest;
          is_unsettled =
              record {
                on_shelf = record { bin = by.bin; shelved = by.shelved; not_out = there.not_out };
                ranged = by.range.command_is;
                not_settled = λ t size m c. go t size m c (is_refused t.outcome) refl;
              };
        }
      where
        go : (t : Step) (size : ℕ) → Memᴰ t (steps o q cs) → t.command ≡ Settle named size → (r : Bool) → is_refused t.outcome ≡ r → r ≡ true
        go t size m c true z = refl
        go t size m c false z = absurd (true≢false (sym e ∙ settled_down q cs t size m c z))

    -- and of one that does, its range.
    module _ (q : Production) (cs : List Command) (least greatest : ℕ) (h : Unsettled (steps o q cs) named least greatest) where
      -- A test of the item says of the list what it says of the item as it was sent.
      as_sent : (test : Item → Bool) → any (λ s. is_named named s.item && test s.item) (still_shelved o q cs) ≡ test (item_of o named (Reserve least greatest))
      as_sent test =
          let s = h.on_shelf.shelved in
          let sent = item_of o s.step.number s.step.command in
          placed_there o named (λ i. is_named named i && test i) (its_number test) (λ m. m ≡ named → ⊥) (λ m size z. other_stays test m size z) (trace o q cs) [] (lying_start o)
          h.on_shelf.not_out (λ t m size x c z e. true≢false (sym (h.not_settled t size x (c ∙ ap (λ k. Settle k size) e)) ∙ z)) s.step s.among s.of_number s.placed
          ∙ ap (λ t. t && test sent) (eq-eqb s.step.number named s.of_number)
          ∙ ap (λ n. test (item_of o n s.step.command)) s.of_number ∙ ap (λ c. test (item_of o named c)) h.ranged

      abbrev p : Packing
      p = packing o q cs

      it_waits : any (holds (awaits named)) p.bins ≡ true
      it_waits = any_shelved o (lying o q cs) (awaits named) ∙ as_sent unsettled

      it_admits : (size : ℕ) → any (holds (admits named (stored o size))) p.bins ≡ ((stored o least ≤? stored o size) && (stored o size ≤? stored o greatest))
      it_admits size = any_shelved o (lying o q cs) (admits named (stored o size)) ∙ as_sent (in_range (stored o size))

      -- 21 exactly then.
      outside_when : (size : ℕ) → (settlement o p named (stored o size) ≡ Refused OutsideRange) ↔ ((size < least) ⊎ (greatest < size))
      unfolding settlement
      outside_when size = rw (it_waits, it_admits size) (go (stored o least ≤? stored o size) (stored o size ≤? stored o greatest) refl refl)
        where
          there : Outcome
          there = Settled (bin_holding named p) (free_on o (bin_holding named p) (settling named (stored o size) p))

          go : (t u : Bool) → leb (stored o least) (stored o size) ≡ t → leb (stored o size) (stored o greatest) ≡ u
              → ((if not (t && u) then Refused OutsideRange else there) ≡ Refused OutsideRange) ↔ ((size < least) ⊎ (greatest < size))
          go true true x y =
              (λ e. clash (cc), λ e. absurd (neither e))
            where
              neither : (size < least) ⊎ (greatest < size) → ⊥
              neither (inl l) = omega (arith, leb-true (stored o least) (stored o size) x)
              neither (inr l) = omega (arith, leb-true (stored o size) (stored o greatest) y)
          go true false x y = (λ e. inr (omega (arith, leb-false (stored o size) (stored o greatest) y)), λ e. refl)
          go false u x y = (λ e. inl (omega (arith, leb-false (stored o least) (stored o size) x)), λ e. refl)

      -- And else it is settled.
      within_when : (size : ℕ) → least ≤ size → size ≤ greatest → is_settled (settlement o p named (stored o size)) ≡ true
      unfolding settlement
      within_when size l m =
          rw (it_waits, it_admits size, le-leb (stored o least) (stored o size) (omega arith), le-leb (stored o size) (stored o greatest) (omega arith)) refl

    -- 20 exactly where none waits.
    exactly_when : (q : Production) (cs : List Command) (size : ℕ)
        → (settlement o (packing o q cs) named (stored o size) ≡ Refused NotReserved) ↔ ((least greatest : ℕ) → Unsettled (steps o q cs) named least greatest → ⊥)
    unfolding settlement
    exactly_when q cs size =
        go (any (holds (awaits named)) p.bins) (any (holds (admits named (stored o size))) p.bins) (sym (any_shelved o (lying o q cs) (awaits named)))
      where
        p : Packing
        p = packing o q cs

        there : Outcome
        there = Settled (bin_holding named p) (free_on o (bin_holding named p) (settling named (stored o size) p))

        go : (t u : Bool) → waiting (still_shelved o q cs) ≡ t
            → ((if not t then Refused NotReserved else if not u then Refused OutsideRange else there) ≡ Refused NotReserved)
            ↔ ((least greatest : ℕ) → Unsettled (steps o q cs) named least greatest → ⊥)
        go true true e = (λ x. clash (cc), λ x. let w = waits q cs e in absurd (x w.least w.greatest w.is_unsettled))
        go true false e = (λ x. clash (cc), λ x. let w = waits q cs e in absurd (x w.least w.greatest w.is_unsettled))
        go false u e = (λ x least greatest h. true≢false (sym (as_sent q cs least greatest h unsettled) ∙ e), λ x. refl)

    -- The bin answered.
    bin_when : {left n : ℕ} {p : Packing} {c : Command} {q : Packing} {a : Outcome} (size bin free : ℕ) → Move o left p n c a q → c ≡ Settle named size → a ≡ Settled bin free
        → (any (holds_named named) p.bins ≡ true) × (bin_holding named p ≡ bin)
    bin_when size bin free (places h) e f = absurd (false≢true (ap shelves_item (sym e) ∙ h.shelves))
    bin_when size bin free (withdraws h) e f = clash (cc)
    bin_when {p = p} size bin free (settles {named = m} {size = s} h) e f =
        let same : m ≡ named = cc in
        (subst (λ k. any (holds_named k) p.bins ≡ true) same (admits_named m (stored o s) p.bins h), rw (← same) (cc))
    bin_when size bin free counts e f = clash (cc)
    bin_when size bin free switches e f = clash (cc)
    bin_when size bin free (refuses z) e f = clash (cc)

module _ (o : Opening) (cs : List Command) (j named size : ℕ) (later : List Command) (here : drop j cs ≡ Settle named size ∷ later) where
  -- The production that the command belongs to, and its steps before it.
  abbrev whose_it_is : Production
  whose_it_is = current o (take j cs)

  abbrev before_it : List Step
  before_it = steps o whose_it_is (take j cs)

  pub settled_exactly : (take 1 (drop j (outcomes o cs)) ≡ Refused NotReserved ∷ []) ↔ ((least greatest : ℕ) → Unsettled before_it named least greatest → ⊥)
  settled_exactly =
      let both = exactly_when named o whose_it_is (take j cs) size in
      rw (answer_at o j cs (Settle named size) later here) (λ e. both.0 (cc), λ h. ap (λ a. a ∷ []) (both.1 h))

  pub settled_outside : (least greatest : ℕ) → Unsettled before_it named least greatest
      → (take 1 (drop j (outcomes o cs)) ≡ Refused OutsideRange ∷ []) ↔ ((size < least) ⊎ (greatest < size))
  settled_outside least greatest h =
      let both = outside_when named o whose_it_is (take j cs) least greatest h size in
      rw (answer_at o j cs (Settle named size) later here) (λ e. both.0 (cc), λ x. ap (λ a. a ∷ []) (both.1 x))

  pub settled_within : (least greatest : ℕ) (a : Outcome) (others : List Outcome) → drop j (outcomes o cs) ≡ a ∷ others → Unsettled before_it named least greatest
      → least ≤ size → size ≤ greatest → is_settled a ≡ true
  settled_within least greatest a others e h l m =
      let p = packing o whose_it_is (take j cs) in
      let told : take 1 (a ∷ others) ≡ settlement o p named (stored o size) ∷ [] = rw e at (answer_at o j cs (Settle named size) later here) in
      let same : a ≡ settlement o p named (stored o size) = cc in
      rw same (within_when named o whose_it_is (take j cs) least greatest h size l m)

  pub settled_in : (bin free : ℕ) (others : List Outcome) → drop j (outcomes o cs) ≡ Settled bin free ∷ others → ShelvedIn before_it named bin
  settled_in bin free others e =
      let m = move_at o j cs (Settled bin free) others e in
      let first : m.command ∷ m.later ≡ Settle named size ∷ later = sym m.rest_is ∙ here in
      let b = bin_when named o size bin free m.moved (cc) refl in
      subst (ShelvedIn before_it named) b.1 (shelved_there named o whose_it_is (take j cs) b.0)
