-- Without the refused commands every other one is answered as it was, and the items lie as they lay, under their new numbers; so it is of the accepted
-- items, withdrawals and settlings alone, with the commands 05. The run of the commands that are kept follows the whole run.
use Prim.Native.Nat.{ℕ, suc, ◌+◌, ◌≤◌, ◌<◌}
use mathlib.Core.Path.{◌≡◌, refl, sym, ap, subst, ◌∙◌}
use mathlib.Core.Logic.{⊎_elim}
use mathlib.Core.Bool.{Bool, true, false, not, ◌&&◌, false≢true, and-true, and-false}
use mathlib.Core.List.Memᴰ
use mathlib.Core.List.{List, [], ◌∷◌, map}
use native.Mathlib.Nat.{eq-or-lt_of_le}
use native.Mathlib.Omega.{arith}
use borrow.Author.Tests.{le-leb, lt-leb}
use Rattle.packing.specs.declared.{Opening.Opening, Production.Production, Command.Command, Outcome.Outcome}
use Rattle.packing.specs.declared.Production.TheVariants.{First, Second}
use Rattle.packing.specs.declared.Outcome.TheVariants.{Placed, Counted, Withdrawn, Switched, Settled, Refused}
use Rattle.std.specs.Prelude.{if◌then◌else◌}
use Rattle.packing.specs.Prelude.{total, keep, ◌≤?◌}
use Rattle.packing.specs.Refusals.{is_refused}
use Rattle.packing.specs.Productions.{is_same}
use Rattle.packing.specs.Bins.{empty}
use Rattle.packing.specs.Shelves.{Shelf, empty_shelf, of, own, stock_left}
use Rattle.packing.specs.Run.{Step, Shelved, shelving, shelved_by, answer_on, next_shelf, steps_of, run_from, shelf_from, run}
use Rattle.alike.specs.LeftOut.{not_refused, changes, renamed, new_number, renumbered_shelf, renumbered_shelved}
use Rattle.alike.specs.Claims.{SameWithout, RefusedLeftOut}
use Rattle.packing.proofs.Weights.{one_for, total_passing}
use Rattle.packing.proofs.Moves.{move, is_change, unchanged, unchanged_shelf}
use Rattle.alike.proofs.Renumbering.{Marks, Marked, Listed, SameList, same_list, same_on}

of_empty : (q : Production) → of q empty_shelf ≡ empty
of_empty First = refl
of_empty Second = refl

-- A test that keeps every command that changes something, and none that is refused.
module _ (o : Opening) (kept : Step → Bool) (changing : (t : Step) → changes t ≡ true → kept t ≡ true)
    (accepted : (t : Step) → kept t ≡ true → not_refused t ≡ true) where
  -- A number before n counts none of the steps from n on.
  count_early : (cs : List Command) (s : Shelf) (n m : ℕ) → m < n → new_number kept (run_from o s n cs) m ≡ 0
  unfolding keep run_from
  count_early [] s n m l = refl
  count_early (c ∷ cs) s n m l = rw (lt-leb n m l, and-false) (count_early cs (next_shelf o s n c) (suc n) m (omega arith))

  count_first : (t : Step) (ts : List Step) (m : ℕ) → t.number ≤ m → new_number kept (t ∷ ts) m ≡ one_for kept t + new_number kept ts m
  unfolding total
  count_first t ts m l =
      let counted : Step → Bool = λ t. kept t && (t.number ≤? m) in
      let first : one_for counted t ≡ one_for kept t = rw (le-leb t.number m l, and-true) in
      omega (arith, total_passing counted (t ∷ ts), total_passing counted ts)

  module _ (f : ℕ → ℕ) (q : Production) where
    -- The new numbers, where the steps ts are those from n on and the next that is kept gets the number k.
    record Numbers (n k : ℕ) (ts : List Step) : Type 0 where
      before : (m : ℕ) → m < n → f m < k
      onward : (m : ℕ) → n ≤ suc m → suc (f m) ≡ k + new_number kept ts m

    -- The commands of the steps ts, sent alone from the number k on, lead from s to s', and the items of the production q from `on` to `end`, all under
    -- their new numbers.
    record Followed (s : Shelf) (k : ℕ) (on : List Shelved) (ts : List Step) (s' : Shelf) (end : List Shelved) : Type 0 where
      same_outcomes : map (λ t. t.outcome) (run_from o (renumbered_shelf f s) k (map (λ t. renamed f t.command) ts)) ≡ map (λ t. t.outcome) ts
      same_shelf : shelf_from o (renumbered_shelf f s) k (map (λ t. renamed f t.command) ts) ≡ renumbered_shelf f s'
      same_shelved : shelved_by o (steps_of q (run_from o (renumbered_shelf f s) k (map (λ t. renamed f t.command) ts))) (map (renumbered_shelved f) on)
          ≡ map (renumbered_shelved f) end

    -- The items of q after a step, which is of q or not.
    abbrev on_after : Step → List Shelved → List Shelved
    on_after t on = elim (is_same q t.production) [
      | true ↦ shelving o t.number t.command t.outcome on
      | false ↦ on
    ]

    after_step : (t : Step) (ts : List Step) (on : List Shelved) → shelved_by o (steps_of q (t ∷ ts)) on ≡ shelved_by o (steps_of q ts) (on_after t on)
    unfolding steps_of
    after_step t ts on = go (is_same q t.production)
      where
        go : (b : Bool) → shelved_by o (elim b [ true ↦ t ∷ steps_of q ts | false ↦ steps_of q ts ]) on
            ≡ shelved_by o (steps_of q ts) (elim b [ true ↦ shelving o t.number t.command t.outcome on | false ↦ on ])
        go true = refl
        go false = refl

    -- One command: its step, and the same under its new number and name.
    module _ (s : Shelf) (n : ℕ) (c : Command) (on : List Shelved) where
      abbrev here : Step
      here = record { number = n; production = s.current; command = c; before = own s; outcome = answer_on o s n c }

      abbrev there : Step
      there =
          record {
            number = f n;
            production = s.current;
            command = renamed f c;
            before = own (renumbered_shelf f s);
            outcome = answer_on o (renumbered_shelf f s) (f n) (renamed f c);
          }

      module _ (h : (r : Production) → Marked f (of r s)) (k : Marks f n) (l : Listed f on) where
        list : SameList f o (own s) (stock_left o s) n on c (answer_on o s n c)
        list = same_list f o (own s) (stock_left o s) n (h s.current) k on l (move o (stock_left o s) (own s) n c)

        on_listed : Listed f (on_after here on)
        on_listed = go (is_same q s.current)
          where
            go : (b : Bool) → Listed f (elim b [ true ↦ shelving o n c (answer_on o s n c) on | false ↦ on ])
            go true = list.listed
            go false = l

        on_there : there.outcome ≡ here.outcome → on_after there (map (renumbered_shelved f) on) ≡ map (renumbered_shelved f) (on_after here on)
        on_there e = go (is_same q s.current)
          where
            go : (b : Bool) → elim b [ true ↦ shelving o (f n) (renamed f c) there.outcome (map (renumbered_shelved f) on) | false ↦ map (renumbered_shelved f) on ]
                ≡ map (renumbered_shelved f) (elim b [ true ↦ shelving o n c here.outcome on | false ↦ on ])
            go true = ap (λ a. shelving o (f n) (renamed f c) a (map (renumbered_shelved f) on)) e ∙ list.shelved
            go false = refl

      -- A command that changes nothing.
      module _ (z : changes here ≡ true → ⊥) where
        on_before : on_after here on ≡ on
        on_before = go (is_same q s.current)
          where
            go : (b : Bool) → elim b [ true ↦ shelving o n c (answer_on o s n c) on | false ↦ on ] ≡ on
            go true = (unchanged (move o (stock_left o s) (own s) n c) z).2 on
            go false = refl

    follow : (cs : List Command) (s : Shelf) (n k : ℕ) (on : List Shelved) → Numbers n k (run_from o s n cs) → ((r : Production) → Marked f (of r s)) → Listed f on
        → Followed s k on (keep kept (run_from o s n cs)) (shelf_from o s n cs) (shelved_by o (steps_of q (run_from o s n cs)) on)
    unfolding keep run_from shelf_from steps_of
    follow [] s n k on h m l = record { same_outcomes = refl; same_shelf = refl; same_shelved = refl }
    follow (c ∷ cs) s n k on h m l = rw (after_step t ts on) (go (kept t) refl (follow cs s' (suc n) (suc (f n))))
      where
        t : Step
        t = here s n c on

        s' : Shelf
        s' = next_shelf o s n c

        ts : List Step
        ts = run_from o s' (suc n) cs

        number : suc (f n) ≡ one_for kept t + k
        number = omega (arith, h.onward n (omega arith), count_first t ts n (omega arith), count_early cs s' (suc n) n (omega arith))

        later : Numbers (suc n) (suc (f n)) ts
        later =
            record {
              before = λ m l. ⊎_elim (λ same. omega (arith, ap f same)) (λ x. omega (arith, number, h.before m x)) (eq-or-lt_of_le {n = m} {m = n} (omega arith));
              onward = λ m l. omega (arith, number, h.onward m (omega arith), count_first t ts m (omega arith));
            }

        sent : List Command
        sent = map (λ t. renamed f t.command) (keep kept ts)

        go : (b : Bool) → kept t ≡ b
            → ((on : List Shelved) → Numbers (suc n) (suc (f n)) ts → ((r : Production) → Marked f (of r s')) → Listed f on
            → Followed s' (suc (f n)) on (keep kept ts) (shelf_from o s' (suc n) cs) (shelved_by o (steps_of q ts) on))
            → Followed s k on (if b then t ∷ keep kept ts else keep kept ts) (shelf_from o s' (suc n) cs) (shelved_by o (steps_of q ts) (on_after t on))
        go true e x =
            let first : k ≡ f n = omega (arith, rw e at number) in
            let marks : Marks f n = λ j l. omega (arith, h.before j l) in
            let same = same_on f o s n c m marks (accepted t e) in
            let rest = x (on_after t on) later same.marked (on_listed s n c on m marks l) in
            let listed = map (renumbered_shelved f) on in
            let again : List Step = run_from o (next_shelf o (renumbered_shelf f s) (f n) (renamed f c)) (suc (f n)) sent in
            let rest-outcomes : map (λ t. t.outcome) again ≡ map (λ t. t.outcome) (keep kept ts) =
            ap (λ y. map (λ t. t.outcome) (run_from o y (suc (f n)) sent)) same.after ∙ rest.same_outcomes in
            rw first
            (record {
              same_outcomes = cc (same.answer, rest-outcomes);
              same_shelf = ap (λ y. shelf_from o y (suc (f n)) sent) same.after ∙ rest.same_shelf;
              same_shelved =
                  after_step (there s n c on) again listed
                  ∙ ap (λ y. shelved_by o (steps_of q (run_from o y (suc (f n)) sent)) (on_after (there s n c on) listed)) same.after
                  ∙ ap (shelved_by o (steps_of q (run_from o (renumbered_shelf f s') (suc (f n)) sent))) (on_there s n c on m marks l same.answer)
                  ∙ rest.same_shelved;
            })
        go false e x =
            let first : k ≡ suc (f n) = omega (arith, rw e at number) in
            let z : changes t ≡ true → ⊥ = λ y. false≢true (sym e ∙ changing t y) in
            let back = unchanged_shelf o s n c z in
            let rest = x on later (λ r. subst (λ y. Marked f (of r y)) (sym back) (m r)) l in
            rw (first, on_before s n c on z)
            (subst (λ y. Followed y (suc (f n)) on (keep kept ts) (shelf_from o s' (suc n) cs) (shelved_by o (steps_of q ts) on)) back rest)

  same_without : (cs : List Command) → SameWithout o cs kept
  same_without cs =
      let f = new_number kept (run o cs) in
      let numbers : (q : Production) → Numbers f q 1 1 (run o cs) =
      λ q. record { before = λ m l. omega (arith, count_early cs empty_shelf 1 m l); onward = λ m l. omega arith } in
      let none : (r : Production) → Marked f (of r empty_shelf) = λ r b m. absurd (Memᴰ.not-nil (rw (of_empty r) at m)) in
      let all : (q : Production) → Followed f q empty_shelf 1 [] (keep kept (run o cs)) _ _ = λ q. follow f q cs empty_shelf 1 1 [] (numbers q) none (λ s m. absurd (Memᴰ.not-nil m)) in
      record { same_outcomes = (all First).same_outcomes; same_shelf = (all First).same_shelf; same_shelved = λ q. (all q).same_shelved }

-- No command that is refused changes anything, so both tests are such.
changes_accepted : (a : Outcome) → is_change a ≡ true → not (is_refused a) ≡ true
changes_accepted (Placed bin free) e = refl
changes_accepted (Counted opened) e = refl
changes_accepted (Withdrawn bin free) e = refl
changes_accepted (Switched r) e = refl
changes_accepted (Settled bin free) e = refl
changes_accepted (Refused reason) e = e

pub refused_left_out : (o : Opening) (cs : List Command) → RefusedLeftOut o cs
refused_left_out o cs =
    record {
      refused = same_without o not_refused (λ t. changes_accepted t.outcome) (λ t e. e) cs;
      alone = same_without o changes (λ t e. e) (λ t. changes_accepted t.outcome) cs;
    }
