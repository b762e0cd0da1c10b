-- With a trailer all is as without one, with the stored sizes sent: a command does the same under both openings.
use mathlib.Core.Path.{◌≡◌, refl, sym, ap, subst, ◌∙◌}
use mathlib.Core.Bool.{Bool, true, false, false≢true}
use mathlib.Core.List.{List, [], ◌∷◌, map, flatten}
use Rattle.std.specs.Prelude.{Option, None, Some}
use Prim.Native.Nat.{ℕ, suc, ◌≤◌}
use native.Mathlib.Decide.{ℕ_discrete, dec_lt}
use native.Mathlib.Omega.{arith}
use borrow.Author.Tests.{ne_eqb, lt-ltb, le-ltb}
use lib.Dec.{ltb}
use Rattle.packing.specs.declared.{Opening.Opening, Production.Production, Command.Command, Outcome.Outcome, ItemReason.ItemReason}
use Rattle.packing.specs.declared.Command.TheVariants.{Shelve, Count, Withdraw, Switch, Reserve, Settle}
use Rattle.std.specs.Prelude.{if◌then◌else◌}
use Rattle.packing.specs.Productions.{is_same}
use Rattle.packing.specs.Refusals.{is_refused}
use Rattle.packing.specs.Bins.{Item, Packing, stored}
use Rattle.packing.specs.Placing.{Decision, into, refusing, decision, placed}
use Rattle.packing.specs.Withdrawing.{withdrawal}
use Rattle.packing.specs.Settling.{settlement}
use Rattle.packing.specs.Sending.{shelves_item, size_of, least_of, fault, item_of}
use Rattle.alike.specs.Openings.{no_trailer, by_stored}
use Rattle.packing.specs.Shelves.{Shelf, empty_shelf, own, stock_left, put_back, belonging}
use Rattle.packing.specs.Run.{told, Step, Shelved, shelving, placement, entries_of, shelved_by, shelved_as, answer_to, next, answer_on, next_shelf, steps_of, run_from, shelf_from}
use Rattle.alike.specs.Claims.{ByStoredSizes}
use Rattle.packing.proofs.Sending.{size_some, range_good}
use Rattle.packing.proofs.Moves.{Move, places, withdraws, settles, counts, switches, refuses, move}

module _ (o : Opening) where
  abbrev o₀ : Opening
  o₀ = no_trailer o

  -- What is sent in place of a size is stored by the same size, if it is not the 0 of an item or of a range's least.
  item_stored : (s : ℕ) → 1 ≤ s → stored o₀ (size_of (by_stored o (Shelve s))) ≡ stored o s
  item_stored s l = rw (ne_eqb s 0 (λ e. omega arith)) (omega arith)

  least_stored : (least greatest : ℕ) → 1 ≤ least → least_of o₀ (by_stored o (Reserve least greatest)) ≡ Some (stored o least)
  least_stored least greatest l = rw (ne_eqb least 0 (λ e. omega arith)) (ap Some (omega arith))

  greatest_stored : (least greatest : ℕ) → stored o₀ (size_of (by_stored o (Reserve least greatest))) ≡ stored o greatest
  greatest_stored least greatest = omega arith

  settled_stored : (named s : ℕ) → stored o₀ (size_of (by_stored o (Settle named s))) ≡ stored o s
  settled_stored named s = omega arith

  -- The sizes of a range grow by the same, and a size or a least of 0 stays so: what is sent has the fault that it had.
  same_range : (least greatest : ℕ) → ltb (stored o greatest) (stored o least) ≡ ltb greatest least
  same_range least greatest = elim (dec_lt greatest least) [
    | yes l ↦ lt-ltb (stored o greatest) (stored o least) (omega arith) ∙ sym (lt-ltb greatest least l)
    | no l ↦ le-ltb (stored o greatest) (stored o least) (omega (arith, l)) ∙ sym (le-ltb greatest least (omega (arith, l)))
  ]

  same_fault : (c : Command) → fault (by_stored o c) ≡ fault c
  same_fault (Shelve s) = elim (ℕ_discrete s 0) [
    | yes e ↦ rw e
    | no z ↦ rw (ne_eqb s 0 z, ne_eqb (stored o s) 0 (λ e. z (omega (arith, e))))
  ]
  same_fault Count = refl
  same_fault (Withdraw named) = refl
  same_fault (Switch r) = refl
  same_fault (Reserve least greatest) = elim (ℕ_discrete least 0) [
    | yes e ↦ rw e
    | no z ↦ rw (ne_eqb least 0 z, ne_eqb (stored o least) 0 (λ e. z (omega (arith, e))), same_range least greatest)
  ]
  same_fault (Settle named size) = refl

  -- Where it has none, it is the same item.
  same_item : (n : ℕ) (c : Command) → shelves_item c ≡ true → fault c ≡ None → item_of o₀ n (by_stored o c) ≡ item_of o n c
  same_item n (Shelve s) shelves e = cc (item_stored s (size_some s e))
  same_item n Count shelves e = absurd (false≢true shelves)
  same_item n (Withdraw named) shelves e = absurd (false≢true shelves)
  same_item n (Switch r) shelves e = absurd (false≢true shelves)
  same_item n (Reserve least greatest) shelves e =
      cc (least_stored least greatest (range_good least greatest e).0, greatest_stored least greatest)
  same_item n (Settle named size) shelves e = absurd (false≢true shelves)

  module _ (left : ℕ) (p : Packing) (n : ℕ) where
    same_decision : (i : Item) (reason : Option ItemReason) → decision o₀ p i left reason ≡ decision o p i left reason
    unfolding decision
    same_decision i (Some reason) = refl
    same_decision i None = refl

    same_placed : (i : Item) → placed o₀ p i ≡ placed o p i
    unfolding placed
    same_placed i = refl

    same_told : (q : Packing) (d : Decision) → told o₀ q d ≡ told o q d
    same_told q (into bin) = refl
    same_told q (refusing reason) = refl

    -- A command comes to the same, and does the same.
    pub record Same (c : Command) : Type 0 where
      pub answer : answer_to o₀ left p n (by_stored o c) ≡ answer_to o left p n c
      pub after : next o₀ left p n (by_stored o c) ≡ next o left p n c

    -- A command that shelves an item: with a fault it is refused, whatever the item is, and without one the item is the same.
    abbrev item_after : Opening → Command → Packing
    item_after x c = if is_refused (shelved_as x left p n c) then p else placed x p (item_of x n c)

    same_shelved_as : (c : Command) → shelves_item c ≡ true
        → (shelved_as o₀ left p n (by_stored o c) ≡ shelved_as o left p n c) × (item_after o₀ (by_stored o c) ≡ item_after o c)
    unfolding decision
    same_shelved_as c shelves = go (fault c) refl
      where
        go : (reason : Option ItemReason) → fault c ≡ reason
            → (shelved_as o₀ left p n (by_stored o c) ≡ shelved_as o left p n c) × (item_after o₀ (by_stored o c) ≡ item_after o c)
        go (Some reason) e = let f = same_fault c in (rw (f, e), rw (f, e))
        go None e =
            let i = item_of o n c in
            let answer : shelved_as o₀ left p n (by_stored o c) ≡ shelved_as o left p n c =
            rw (same_item n c shelves e, same_fault c, same_placed i, same_decision i (fault c)) (same_told (placed o p i) (decision o p i left (fault c))) in
            (answer, rw (answer, same_item n c shelves e, same_placed i))

    same : (c : Command) → Same c
    unfolding withdrawal settlement
    same (Shelve s) = let x = same_shelved_as (Shelve s) refl in record { answer = x.0; after = x.1 }
    same Count = record { answer = refl; after = refl }
    same (Withdraw named) = record { answer = refl; after = refl }
    same (Switch r) = record { answer = refl; after = refl }
    same (Reserve least greatest) = let x = same_shelved_as (Reserve least greatest) refl in record { answer = x.0; after = x.1 }
    same (Settle named size) = let s = settled_stored named size in record { answer = rw s; after = rw s }

  -- So it does on a shelf.
  same_belonging : (q : Production) (c : Command) → belonging q (by_stored o c) ≡ belonging q c
  same_belonging q (Shelve s) = refl
  same_belonging q Count = refl
  same_belonging q (Withdraw named) = refl
  same_belonging q (Switch r) = refl
  same_belonging q (Reserve least greatest) = refl
  same_belonging q (Settle named size) = refl

  same_on : (s : Shelf) (n : ℕ) (c : Command) → answer_on o₀ s n (by_stored o c) ≡ answer_on o s n c
  same_on s n c = (same (stock_left o s) (own s) n c).answer

  same_shelf : (s : Shelf) (n : ℕ) (c : Command) → next_shelf o₀ s n (by_stored o c) ≡ next_shelf o s n c
  same_shelf s n c =
      ap (λ p. put_back s.current p s (belonging s.current (by_stored o c))) (same (stock_left o s) (own s) n c).after
      ∙ ap (put_back s.current (next o (stock_left o s) (own s) n c) s) (same_belonging s.current c)

  -- What it comes to makes the same of the items on the shelf, and of those accepted.
  same_shelving : {left n : ℕ} {p : Packing} {c : Command} {q : Packing} {a : Outcome} → Move o left p n c a q → (on : List Shelved)
      → shelving o₀ n (by_stored o c) a on ≡ shelving o n c a on
  same_shelving {n = n} (places {c = c} h) on = rw (same_item n c h.shelves h.was_placed.faultless)
  same_shelving (withdraws e) on = refl
  same_shelving (settles {named = named} {size = size} e) on = rw (settled_stored named size)
  same_shelving counts on = refl
  same_shelving switches on = refl
  same_shelving (refuses z) on = refl

  same_placement : {left n : ℕ} {p : Packing} {c : Command} {q : Packing} {a : Outcome} → Move o left p n c a q → placement o₀ (by_stored o c) a ≡ placement o c a
  same_placement {n = n} (places {c = c} h) = rw (ap (λ (i : Item). i.size) (same_item n c h.shelves h.was_placed.faultless))
  same_placement (withdraws e) = refl
  same_placement (settles e) = refl
  same_placement counts = refl
  same_placement switches = refl
  same_placement (refuses z) = refl

  -- Steps that come to the same, of the same productions.
  data SameSteps : List Step → List Step → Type 0 where
    no_steps : SameSteps [] []
    one_more : {t₀ t : Step} {ts₀ ts : List Step} → t₀.outcome ≡ t.outcome → t₀.production ≡ t.production
        → ((on : List Shelved) → shelving o₀ t₀.number t₀.command t₀.outcome on ≡ shelving o t.number t.command t.outcome on)
        → placement o₀ t₀.command t₀.outcome ≡ placement o t.command t.outcome → SameSteps ts₀ ts → SameSteps (t₀ ∷ ts₀) (t ∷ ts)

  same_outcomes : {ts₀ ts : List Step} → SameSteps ts₀ ts → map (λ t. t.outcome) ts₀ ≡ map (λ t. t.outcome) ts
  same_outcomes no_steps = refl
  same_outcomes (one_more a r s p more) = let later = same_outcomes more in cc

  same_steps : (q : Production) {ts₀ ts : List Step} → SameSteps ts₀ ts → SameSteps (steps_of q ts₀) (steps_of q ts)
  unfolding steps_of
  same_steps q no_steps = no_steps
  same_steps q (one_more {t₀ = t₀} {t = t} {ts₀ = ts₀} {ts = ts} a r s p more) = rw (r, steps_of) (go (is_same q t.production) (same_steps q more))
    where
      go : (b : Bool) → SameSteps (steps_of q ts₀) (steps_of q ts)
          → SameSteps (elim b [ true ↦ t₀ ∷ steps_of q ts₀ | false ↦ steps_of q ts₀ ]) (elim b [ true ↦ t ∷ steps_of q ts | false ↦ steps_of q ts ])
      go true h = one_more a r s p h
      go false h = h

  same_shelved : {ts₀ ts : List Step} → SameSteps ts₀ ts → (on : List Shelved) → shelved_by o₀ ts₀ on ≡ shelved_by o ts on
  same_shelved no_steps on = refl
  same_shelved (one_more {ts₀ = ts₀} a r s p more) on = ap (shelved_by o₀ ts₀) (s on) ∙ same_shelved more _

  same_entries : {ts₀ ts : List Step} → SameSteps ts₀ ts → entries_of o₀ ts₀ ≡ entries_of o ts
  unfolding flatten
  same_entries no_steps = refl
  same_entries (one_more a r s p more) = let later = same_entries more in cc

  -- Every list of commands does so, and leaves the same shelf.
  record SameRun (cs : List Command) (s : Shelf) (n : ℕ) : Type 0 where
    steps : SameSteps (run_from o₀ s n (map (by_stored o) cs)) (run_from o s n cs)
    shelf : shelf_from o₀ s n (map (by_stored o) cs) ≡ shelf_from o s n cs

  same_run : (cs : List Command) (s : Shelf) (n : ℕ) → SameRun cs s n
  unfolding run_from shelf_from
  same_run [] s n = record { steps = no_steps; shelf = refl }
  same_run (c ∷ cs) s n =
      let later = same_run cs (next_shelf o s n c) (suc n) in
      let m = move o (stock_left o s) (own s) n c in
      record {
        steps =
            one_more (same_on s n c) refl (λ on. ap (λ a. shelving o₀ n (by_stored o c) a on) (same_on s n c) ∙ same_shelving m on)
            (ap (placement o₀ (by_stored o c)) (same_on s n c) ∙ same_placement m)
            (subst (λ x. SameSteps (run_from o₀ x (suc n) (map (by_stored o) cs)) (run_from o (next_shelf o s n c) (suc n) cs)) (sym (same_shelf s n c)) later.steps);
        shelf = ap (λ x. shelf_from o₀ x (suc n) (map (by_stored o) cs)) (same_shelf s n c) ∙ later.shelf;
      }

pub by_stored_sizes : (o : Opening) (cs : List Command) → ByStoredSizes o cs
by_stored_sizes o cs =
    let all = same_run o cs empty_shelf 1 in
    record {
      same_outcomes = sym (same_outcomes o all.steps);
      same_shelf = sym all.shelf;
      same_shelved = λ q. sym (same_shelved o (same_steps o q all.steps) []);
      same_accepted = λ q. sym (same_entries o (same_steps o q all.steps));
    }
