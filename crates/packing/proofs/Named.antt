-- The item of one number, by the answers: from the step that shelved it to those that take it out or settle it. What a test that passes no other item says
-- of the items on the shelf is what it says of this one.
use Prim.Native.Nat.{ℕ, ◌≤◌, ◌<◌}
use mathlib.Core.Path.{◌≡◌, refl, sym, ap, ◌∙◌}
use mathlib.Core.Bool.{Bool, true, false, not, ◌&&◌, or-false, false≢true, and-false}
use mathlib.Core.List.Memᴰ
use mathlib.Core.List.{List, [], ◌∷◌, Memᴰ}
use native.Mathlib.Decide.{ℕ_discrete}
use native.Mathlib.Omega.{arith}
use borrow.Author.Tests.{ne_eqb}
use Rattle.packing.specs.Prelude.{any, Opening, Production, Command, Withdraw, Settle, Outcome, Placed, Counted, Withdrawn, Switched, Settled, Refused}
use Rattle.packing.specs.Refusals.{is_refused, is_placed}
use Rattle.packing.specs.Bins.{Item, Packing, stored}
use Rattle.packing.specs.Withdrawing.{is_named}
use Rattle.packing.specs.Settling.{settled}
use Rattle.packing.specs.Sending.{size_of, name_of, item_of}
use Rattle.packing.specs.Run.{Step, Shelved, settled_there, shelving, shelved_by}
use Rattle.packing.proofs.Tests.{each_cons, each_append, each_keep, each_map}
use Rattle.packing.proofs.Searching.{found, any_append, any_map, any_stays, any_less, any_mapped_less}
use Rattle.packing.proofs.Moves.{Move, places, withdraws, settles, counts, switches, refuses, Trace, ends, moves}
use Rattle.packing.proofs.Shelved.{Lying, lying_move, lying_later}

-- What holds of the items that were on the shelf and of each that a step shelves, and still when one is settled, holds of all that are on it then.
pub shelved_each : (o : Opening) (P : Shelved → Type 0) (ts : List Step) (on : List Shelved) → ((s : Shelved) → Memᴰ s on → P s)
    → ((t : Step) → Memᴰ t ts → (bin free : ℕ) → t.outcome ≡ Placed bin free → P (record { item = item_of o t.number t.command; bin = bin }))
    → ((named size : ℕ) (s : Shelved) → P s → P (settled_there named size s)) → (s : Shelved) → Memᴰ s (shelved_by o ts on) → P s
shelved_each o P [] on h k z = h
shelved_each o P (t ∷ ts) on h k z = shelved_each o P ts _ (go t.outcome refl) (λ u m. k u (Memᴰ.tail m)) z
  where
    go : (a : Outcome) → t.outcome ≡ a → (s : Shelved) → Memᴰ s (shelving o t.number t.command a on) → P s
    go (Placed bin free) e = each_append P on _ h (each_cons P (k t (Memᴰ.head refl) bin free e) (λ s m. absurd (Memᴰ.not-nil m)))
    go (Counted n) e = h
    go (Withdrawn bin free) e = each_keep (λ s. not (is_named (name_of t.command) s.item)) P on h
    go (Switched r) e = h
    go (Settled bin free) e =
        let named = name_of t.command in
        let size = stored o (size_of t.command) in
        each_map (settled_there named size) P on (λ s m. z named size s (h s m))
    go (Refused reason) e = h

module _ (o : Opening) (named : ℕ) where
  -- No step of these takes the item out; nor settles it.
  abbrev pub NotOut : List Step → Type 0
  NotOut ts = (t : Step) → Memᴰ t ts → t.command ≡ Withdraw named → is_refused t.outcome ≡ true

  abbrev pub NotSettled : List Step → Type 0
  NotSettled ts = (t : Step) (size : ℕ) → Memᴰ t ts → t.command ≡ Settle named size → is_refused t.outcome ≡ true

  module _ (test : Item → Bool) (its_own : (i : Item) → test i ≡ true → i.command ≡ named) where
    -- An item on the list passes.
    abbrev pub on_list : List Shelved → Bool
    on_list on = any (λ s. test s.item) on

    -- No item of another number does.
    pub other_fails : (i : Item) → (i.command ≡ named → ⊥) → test i ≡ false
    other_fails i z = go (test i) refl
      where
        go : (t : Bool) → test i ≡ t → t ≡ false
        go true e = absurd (z (its_own i e))
        go false e = refl

    -- The number of one that does is an earlier one.
    pub earlier : {n : ℕ} {p : Packing} {on : List Shelved} → Lying o n p on → on_list on ≡ true → named < n
    earlier {on = on} h e =
        let f = found (λ s. test s.item) on e in
        omega (arith, (h.each f.member f.among).earlier, its_own f.member.item f.passes)

    pub none_yet : {n : ℕ} {p : Packing} {on : List Shelved} → Lying o n p on → n ≤ named → on_list on ≡ false
    none_yet {on = on} h l = go (on_list on) refl
      where
        go : (t : Bool) → on_list on ≡ t → t ≡ false
        go true e = absurd (omega (arith, earlier h e))
        go false e = refl

    -- One more item: a test of the items says what it said, unless it is the item of the number.
    with_other : (k : ℕ) (c : Command) (bin : ℕ) (on : List Shelved) → (k ≡ named → ⊥) → on_list (shelving o k c (Placed bin 0) on) ≡ on_list on
    unfolding any
    with_other k c bin on z = any_append (λ s. test s.item) on _ ∙ rw (other_fails (item_of o k c) z) (or-false (on_list on))

    with_it : (k : ℕ) (c : Command) (bin : ℕ) (on : List Shelved) → on_list on ≡ false → on_list (shelving o k c (Placed bin 0) on) ≡ test (item_of o k c)
    unfolding any
    with_it k c bin on e = any_append (λ s. test s.item) on _ ∙ rw e (or-false (test (item_of o k c)))

    -- Taking out an item of another number leaves it on the list.
    apart : (m : ℕ) → (m ≡ named → ⊥) → (s : Shelved) → (not (is_named m s.item) && test s.item) ≡ test s.item
    apart m z s = elim (ℕ_discrete s.item.command m) [
      | yes q ↦ rw (other_fails s.item (λ e. z (sym q ∙ e)), and-false)
      | no q ↦ rw (ne_eqb s.item.command m q)
    ]

    -- Settlings under which the test says the same.
    module _ (Spared : ℕ → Type 0) (spared : (m size : ℕ) → Spared m → (i : Item) → test (settled m size i) ≡ test i) where
      abbrev pub Sparing : List Step → Type 0
      Sparing ts = (t : Step) (m size : ℕ) → Memᴰ t ts → t.command ≡ Settle m size → is_refused t.outcome ≡ false → Spared m

      -- What the test says of the list it says of the list later, unless a step takes the item out.
      stays : {n e : ℕ} {p q : Packing} {ts : List Step} → Trace o n p ts e q → named < n → (on : List Shelved) → NotOut ts → Sparing ts
          → on_list (shelved_by o ts on) ≡ on_list on
      stays (ends z) l on out sp = refl
      stays (moves {k = k} f b (places {c = c} h) r) l on out sp =
          stays r (omega arith) _ (λ t x. out t (Memᴰ.tail x)) (λ t m s x. sp t m s (Memᴰ.tail x)) ∙ with_other k c _ on (λ e. omega arith)
      stays (moves f b (withdraws {named = m} h) r) l on out sp =
          stays r (omega arith) _ (λ t x. out t (Memᴰ.tail x)) (λ t m s x. sp t m s (Memᴰ.tail x)) ∙ elim (ℕ_discrete m named) [
            | yes q ↦ absurd (false≢true (out _ (Memᴰ.head refl) (ap Withdraw q)))
            | no q ↦ any_stays (λ s. test s.item) (λ s. not (is_named m s.item)) (apart m q) on
          ]
      stays (moves f b (settles {named = m} {size = size} h) r) l on out sp =
          stays r (omega arith) _ (λ t x. out t (Memᴰ.tail x)) (λ t m s x. sp t m s (Memᴰ.tail x))
          ∙ any_map (settled_there m (stored o size)) (λ s. test s.item) (λ s. test s.item) on
          (λ s x. spared m (stored o size) (sp _ m size (Memᴰ.head refl) refl refl) s.item)
      stays (moves f b counts r) l on out sp = stays r (omega arith) on (λ t x. out t (Memᴰ.tail x)) (λ t m s x. sp t m s (Memᴰ.tail x))
      stays (moves f b switches r) l on out sp = stays r (omega arith) on (λ t x. out t (Memᴰ.tail x)) (λ t m s x. sp t m s (Memᴰ.tail x))
      stays (moves f b (refuses z) r) l on out sp = stays r (omega arith) on (λ t x. out t (Memᴰ.tail x)) (λ t m s x. sp t m s (Memᴰ.tail x))

      -- The step of its number that is placed puts it there, and from then on the test says of the list what it says of the item.
      put_there : {left n : ℕ} {p : Packing} {c : Command} {q : Packing} {a : Outcome} (on : List Shelved) → Move o left p n c a q → is_placed a ≡ true → on_list on ≡ false
          → on_list (shelving o n c a on) ≡ test (item_of o n c)
      put_there {n = n} {c = c} on (places h) x e = with_it n c _ on e
      put_there on (withdraws h) x e = absurd (false≢true x)
      put_there on (settles h) x e = absurd (false≢true x)
      put_there on counts x e = absurd (false≢true x)
      put_there on switches x e = absurd (false≢true x)
      put_there on (refuses z) x e = absurd (false≢true x)

      pub placed_there : {n e : ℕ} {p q : Packing} {ts : List Step} → Trace o n p ts e q → (on : List Shelved) → Lying o n p on → NotOut ts → Sparing ts
          → (t : Step) → Memᴰ t ts → t.number ≡ named → is_placed t.outcome ≡ true → on_list (shelved_by o ts on) ≡ test (item_of o t.number t.command)
      placed_there (ends l) on h out sp t m e x = absurd (Memᴰ.not-nil m)
      placed_there (moves {k = k} f b y r) on h out sp t (Memᴰ.head q) e x =
          let number : k ≡ named = rw q at e in
          rw q
          (stays r (omega arith) _ (λ t x. out t (Memᴰ.tail x)) (λ t m s x. sp t m s (Memᴰ.tail x))
          ∙ put_there on y (rw q at x) (none_yet (lying_later o _ _ _ on f h) (omega arith)))
      placed_there (moves f b y r) on h out sp t (Memᴰ.tail m) e x =
          placed_there r _ (lying_move o _ _ _ _ _ _ on y (lying_later o _ _ _ on f h)) (λ t x. out t (Memᴰ.tail x)) (λ t m s x. sp t m s (Memᴰ.tail x)) t m e x

    -- Where no settling makes an item pass: once there is none, there is none later, since later items have later numbers.
    module _ (no_new : (m size : ℕ) (i : Item) → test (settled m size i) ≡ true → test i ≡ true) where
      stays_none : {n e : ℕ} {p q : Packing} {ts : List Step} → Trace o n p ts e q → named < n → (on : List Shelved) → on_list on ≡ false → on_list (shelved_by o ts on) ≡ false
      stays_none (ends z) l on e = e
      stays_none (moves {k = k} f b (places {c = c} h) r) l on e = stays_none r (omega arith) _ (with_other k c _ on (λ x. omega arith) ∙ e)
      stays_none (moves f b (withdraws {named = m} h) r) l on e =
          stays_none r (omega arith) _ (any_less (λ s. test s.item) (λ s. not (is_named m s.item)) on e)
      stays_none (moves f b (settles {named = m} {size = size} h) r) l on e =
          stays_none r (omega arith) _
          (any_mapped_less (settled_there m (stored o size)) (λ s. test s.item) (λ s. test s.item) (λ s. no_new m (stored o size) s.item) on e)
      stays_none (moves f b counts r) l on e = stays_none r (omega arith) on e
      stays_none (moves f b switches r) l on e = stays_none r (omega arith) on e
      stays_none (moves f b (refuses z) r) l on e = stays_none r (omega arith) on e

      -- So it is where one of the steps leaves none.
      pub record Gone (n : ℕ) (on : List Shelved) : Type 0 where
        pub was : named < n
        pub gone : on_list on ≡ false

      pub gone_by : (Ends : Step → Type 0)
          → ((left k : ℕ) (p : Packing) (r : Production) (c : Command) (q : Packing) (a : Outcome) (on : List Shelved) → Lying o k p on → Move o left p k c a q
          → Ends (record { number = k; production = r; command = c; before = p; outcome = a }) → Gone k (shelving o k c a on))
          → {n e : ℕ} {p q : Packing} {ts : List Step} → Trace o n p ts e q → (on : List Shelved) → Lying o n p on
          → (t : Step) → Memᴰ t ts → Ends t → on_list (shelved_by o ts on) ≡ false
      gone_by Ends ends_it (ends l) on h t m z = absurd (Memᴰ.not-nil m)
      gone_by Ends ends_it (moves f b y r) on h t (Memᴰ.head q) z =
          let g = ends_it _ _ _ _ _ _ _ on (lying_later o _ _ _ on f h) y (rw q at z) in
          stays_none r (omega (arith, g.was)) _ g.gone
      gone_by Ends ends_it (moves f b y r) on h t (Memᴰ.tail m) z = gone_by Ends ends_it r _ (lying_move o _ _ _ _ _ _ on y (lying_later o _ _ _ on f h)) t m z
