-- What a command may do to the packing of its production, and the trace of a production in a run: every theorem about a production goes by its trace.
use Prim.Native.Nat.{ℕ, suc, ◌+◌, ◌≤◌}
use mathlib.Core.Path.{◌≡◌, refl, ap, ◌∙◌}
use mathlib.Core.Bool.{Bool, true, false, not, ◌||◌, false≢true}
use mathlib.Core.List.{List, [], ◌∷◌}
use native.Mathlib.Omega.{arith}
use lib.ListN.{length}
use Rattle.std.specs.Prelude.{if◌then◌else◌}
use Rattle.packing.specs.Prelude.{any, Opening, Production, First, Second, Command, Shelve, Count, Withdraw, Switch, Reserve, Settle}
use Rattle.packing.specs.Prelude.{Outcome, Placed, Counted, Withdrawn, Switched, Settled, Refused, ItemReason, NotShelved, NotReserved, OutsideRange}
use Rattle.packing.specs.Refusals.{is_refused, is_placed, is_switched}
use Rattle.packing.specs.Bins.{Item, Packing, empty, opened, free_on, stored, holds}
use Rattle.packing.specs.Placing.{Decision, bin_for, decision, placed}
use Rattle.packing.specs.Withdrawing.{holds_named, bin_holding, without, withdrawal}
use Rattle.packing.specs.Settling.{awaits, admits, settling, settlement}
use Rattle.packing.specs.Shelves.{Shelf, empty_shelf, of, own, stock_left, put_back, belonging}
use Rattle.packing.specs.Sending.{shelves_item, fault, item_of}
use Rattle.packing.specs.Run.{told, Step, Shelved, shelving, shelved_by, shelved_as, answer_to, next, answer_on, next_shelf, steps_of, run_from, shelf_from, steps, packing}
use Rattle.packing.specs.Compared.{is_altered}
use Rattle.packing.proofs.Productions.{Whose, its_own, the_others, whose, steps_own, steps_other, own_after, other_after, put_same}
use Rattle.packing.proofs.Decided.{IsPlaced, Decided, goes_in, is_faulty, is_above, is_spent_lem, decided}

-- No other command is refused.
pub data Refusable : Command → Type 0 where
  an_item : {c : Command} → shelves_item c ≡ true → Refusable c
  a_withdrawal : {named : ℕ} → Refusable (Withdraw named)
  a_settling : {named size : ℕ} → Refusable (Settle named size)

module _ (o : Opening) where
  -- A command of number n that shelves an item, and what is known of the item where it is placed.
  pub record Goes (left : ℕ) (p : Packing) (n : ℕ) (c : Command) : Type 0 where
    pub shelves : shelves_item c ≡ true
    pub was_placed : IsPlaced o p (item_of o n c) left (fault c)

  -- From the packing p, for which so much of the stock is left, to the next by a command of number n that comes to this: it places its item; it takes one
  -- out; it settles one; or all stays.
  pub data Move (left : ℕ) (p : Packing) (n : ℕ) : Command → Outcome → Packing → Type 0 where
    places : {c : Command} → Goes left p n c
        → Move left p n c (Placed (bin_for o p (item_of o n c)) (free_on o (bin_for o p (item_of o n c)) (placed o p (item_of o n c)))) (placed o p (item_of o n c))
    withdraws : {named : ℕ} → any (holds_named named) p.bins ≡ true
        → Move left p n (Withdraw named) (Withdrawn (bin_holding named p) (free_on o (bin_holding named p) (without named p))) (without named p)
    settles : {named size : ℕ} → any (holds (admits named (stored o size))) p.bins ≡ true
        → Move left p n (Settle named size) (Settled (bin_holding named p) (free_on o (bin_holding named p) (settling named (stored o size) p))) (settling named (stored o size) p)
    counts : Move left p n Count (Counted (opened p)) p
    switches : {r : Production} → Move left p n (Switch r) (Switched r) p
    refuses : {c : Command} {reason : ItemReason} → Refusable c → Move left p n c (Refused reason) p

  module _ (left : ℕ) (p : Packing) (n : ℕ) where
    move_item : (c : Command) → shelves_item c ≡ true
        → Move left p n c (shelved_as o left p n c) (if is_refused (shelved_as o left p n c) then p else placed o p (item_of o n c))
    move_item c shelves = go (decision o p (item_of o n c) left (fault c)) (decided o p (item_of o n c) left (fault c))
      where
        i : Item
        i = item_of o n c

        go : (d : Decision) → Decided o p i left (fault c) d → Move left p n c (told o (placed o p i) d) (if is_refused (told o (placed o p i) d) then p else placed o p i)
        go d (goes_in h) = places (record { shelves = shelves; was_placed = h })
        go d (is_faulty reason e) = refuses (an_item shelves)
        go d (is_above x m) = refuses (an_item shelves)
        go d (is_spent_lem x m z) = refuses (an_item shelves)

    move_withdraw : (named : ℕ) → Move left p n (Withdraw named) (answer_to o left p n (Withdraw named)) (next o left p n (Withdraw named))
    unfolding withdrawal
    move_withdraw named = go (any (holds_named named) p.bins) refl
      where
        out : Bool → Outcome
        out t = if not t then Refused NotShelved else Withdrawn (bin_holding named p) (free_on o (bin_holding named p) (without named p))

        go : (t : Bool) → any (holds_named named) p.bins ≡ t → Move left p n (Withdraw named) (out t) (if is_refused (out t) then p else without named p)
        go true e = withdraws e
        go false e = refuses a_withdrawal

    move_settle : (named size : ℕ) → Move left p n (Settle named size) (answer_to o left p n (Settle named size)) (next o left p n (Settle named size))
    unfolding settlement
    move_settle named size = go (any (holds (awaits named)) p.bins) (any (holds (admits named s)) p.bins) refl
      where
        s : ℕ
        s = stored o size

        out : (t u : Bool) → Outcome
        out t u =
            if not t then Refused NotReserved else
            if not u then Refused OutsideRange else
            Settled (bin_holding named p) (free_on o (bin_holding named p) (settling named s p))

        go : (t u : Bool) → any (holds (admits named s)) p.bins ≡ u → Move left p n (Settle named size) (out t u) (if is_refused (out t u) then p else settling named s p)
        go true true e = settles e
        go true false e = refuses a_settling
        go false u e = refuses a_settling

    pub move : (c : Command) → Move left p n c (answer_to o left p n c) (next o left p n c)
    move (Shelve size) = move_item (Shelve size) refl
    move Count = counts
    move (Withdraw named) = move_withdraw named
    move (Switch r) = switches
    move (Reserve least greatest) = move_item (Reserve least greatest) refl
    move (Settle named size) = move_settle named size

  -- From one packing to another by the moves of these steps, whose numbers rise from n on and stay below e. Between them may be those of the other
  -- production, which leave this one's packing as it is, and take of the stock.
  pub data Trace : ℕ → Packing → List Step → ℕ → Packing → Type 0 where
    ends : {n e : ℕ} {p : Packing} → n ≤ e → Trace n p [] e p
    moves : {n k e left : ℕ} {p : Packing} {c : Command} {p' q : Packing} {r : Production} {a : Outcome} {ts : List Step} → n ≤ k → left ≤ o.stock
        → Move left p k c a p' → Trace (suc k) p' ts e q → Trace n p (record { number = k; production = r; command = c; before = p; outcome = a } ∷ ts) e q

  -- A trace from a number on is one from an earlier number on.
  trace_earlier : {n k e : ℕ} {p q : Packing} {ts : List Step} → n ≤ k → Trace k p ts e q → Trace n p ts e q
  trace_earlier {n = n} {e = e} l (ends m) = let few : n ≤ e = omega arith in ends few
  trace_earlier {n = n} l (moves {k = k} m b mv t) = let from : n ≤ k = omega arith in moves from b mv t

  pub trace_from : (q : Production) (cs : List Command) (s : Shelf) (n e : ℕ) → e ≡ length cs + n → Trace n (of q s) (steps_of q (run_from o s n cs)) e (of q (shelf_from o s n cs))
  unfolding run_from shelf_from steps_of
  trace_from q [] s n e h = let few : n ≤ e = omega arith in ends few
  trace_from q (c ∷ cs) s n e h = go (whose s.current q) (trace_from q cs s' (suc n) e (omega arith))
    where
      s' : Shelf
      s' = next_shelf o s n c

      here : Step
      here = record { number = n; production = s.current; command = c; before = own s; outcome = answer_on o s n c }

      few : stock_left o s ≤ o.stock
      few = omega arith

      go : {q : Production} → Whose s.current q → Trace (suc n) (of q s') (steps_of q (run_from o s' (suc n) cs)) e (of q (shelf_from o s' (suc n) cs))
          → Trace n (of q s) (steps_of q (here ∷ run_from o s' (suc n) cs)) e (of q (shelf_from o s' (suc n) cs))
      go its_own t = let from : n ≤ n = omega arith in rw (steps_own here) (moves from few (move (stock_left o s) (own s) n c) (rw (own_after o s n c) at t))
      go the_others t = let from : n ≤ suc n = omega arith in rw (steps_other here) (trace_earlier from (rw (other_after o s n c) at t))

  -- The trace of a production from the empty packing.
  pub trace : (q : Production) (cs : List Command) → Trace 1 empty (steps o q cs) (suc (length cs)) (packing o q cs)
  trace First cs = trace_from First cs empty_shelf 1 (suc (length cs)) (omega arith)
  trace Second cs = trace_from Second cs empty_shelf 1 (suc (length cs)) (omega arith)

  -- What every move keeps of a packing, the number of the next command and the items on the shelf, and every command of the other production, every trace
  -- keeps.
  pub carried : (Kept : ℕ → Packing → List Shelved → Type 0)
      → ((n k : ℕ) (p : Packing) (on : List Shelved) → n ≤ k → Kept n p on → Kept k p on)
      → ((left n : ℕ) (p : Packing) (c : Command) (q : Packing) (a : Outcome) (on : List Shelved) → Move left p n c a q → Kept n p on → Kept (suc n) q (shelving o n c a on))
      → {n e : ℕ} {p q : Packing} {ts : List Step} → Trace n p ts e q → (on : List Shelved) → Kept n p on → Kept e q (shelved_by o ts on)
  carried Kept later keeps (ends l) on h = later _ _ _ on l h
  carried Kept later keeps (moves l b m r) on h = carried Kept later keeps r _ (keeps _ _ _ _ _ _ on m (later _ _ _ on l h))

-- A command that shelves an item is no 05.
pub item_stays : (c : Command) → shelves_item c ≡ true → (r : Production) → belonging r c ≡ r
item_stays (Shelve size) e r = refl
item_stays Count e r = absurd (false≢true e)
item_stays (Withdraw named) e r = absurd (false≢true e)
item_stays (Switch q) e r = absurd (false≢true e)
item_stays (Reserve least greatest) e r = refl
item_stays (Settle named size) e r = absurd (false≢true e)

-- An answer to a command that changes the shelf.
abbrev pub is_change : Outcome → Bool
is_change a = is_placed a || is_altered a || is_switched a

-- A command that changes nothing leaves the shelf as it was, and the items on it.
pub unchanged : {o : Opening} {left n : ℕ} {p : Packing} {c : Command} {q : Packing} {a : Outcome} → Move o left p n c a q → (is_change a ≡ true → ⊥)
    → (q ≡ p) × ((r : Production) → belonging r c ≡ r) × ((on : List Shelved) → shelving o n c a on ≡ on)
unchanged (places d) z = absurd (z refl)
unchanged (withdraws e) z = absurd (z refl)
unchanged (settles e) z = absurd (z refl)
unchanged counts z = (refl, λ r. refl, λ on. refl)
unchanged switches z = absurd (z refl)
unchanged {c = c} (refuses (an_item e)) z = (refl, item_stays c e, λ on. refl)
unchanged (refuses a_withdrawal) z = (refl, λ r. refl, λ on. refl)
unchanged (refuses a_settling) z = (refl, λ r. refl, λ on. refl)

pub unchanged_shelf : (o : Opening) (s : Shelf) (n : ℕ) (c : Command) → (is_change (answer_on o s n c) ≡ true → ⊥) → next_shelf o s n c ≡ s
unchanged_shelf o s n c z =
    let u = unchanged (move o (stock_left o s) (own s) n c) z in
    ap (λ p. put_back s.current p s (belonging s.current c)) u.0 ∙ ap (put_back s.current (own s) s) (u.1 s.current) ∙ put_same s
