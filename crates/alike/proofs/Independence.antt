-- Where no command is refused with 10, what is left of the stock plays no part in an answer. So two runs whose commands differ in one production alone
-- keep the other's packing alike, and answer its commands alike.
use Prim.Native.Nat.{ℕ, zero, suc, ◌<◌}
use mathlib.Core.Path.{◌≡◌, refl, sym, ap, subst, ◌∙◌}
use mathlib.Core.Bool.{Bool, true, false, ◌||◌, true≢false}
use mathlib.Core.List.{List, [], ◌∷◌, ◌++◌, map}
use Rattle.std.specs.Prelude.{Option, Some, None}
use native.Mathlib.Omega.{arith}
use borrow.Author.Tests.{not-true}
use lib.Dec.{ltb}
use lib.ListN.{length, take, drop, get_or, length-map}
use Rattle.packing.specs.declared.{Opening.Opening, Production.Production, Command.Command, Outcome.Outcome, Answer.Answer, ItemReason.ItemReason}
use Rattle.packing.specs.declared.Production.TheVariants.{First}
use Rattle.packing.specs.declared.Command.TheVariants.{Shelve, Count, Withdraw, Switch, Reserve, Settle}
use Rattle.packing.specs.declared.ItemReason.TheVariants.{AboveCapacity, StockSpent}
use Rattle.std.specs.Prelude.{if◌then◌else◌}
use Rattle.packing.specs.Prelude.{any}
use Rattle.packing.specs.Productions.{other}
use Rattle.packing.specs.Refusals.{is_refused}
use Rattle.packing.specs.Bins.{Item, Packing}
use Rattle.packing.specs.Placing.{Decision, into, refusing, bin_for, spent, decision, placed}
use Rattle.packing.specs.Shelves.{Shelf, empty_shelf, of, own, stock_left, belonging}
use Rattle.packing.specs.Sending.{fault, item_of}
use Rattle.packing.specs.Run.{told, Step, answer_of, shelved_as, answer_to, next, done, answer_on, next_shelf, steps_of, run_from, shelf_from, run, outcomes}
use Rattle.alike.specs.Independent.{Replaced, none, same, replaced, is_spent, Differing, Independence, IndependentStreams}
use Rattle.packing.proofs.Productions.{Whose, its_own, the_others, whose, other_apart, steps_own, steps_other, answer_of_lem, own_of, other_of, current_of, stays_current}
use Rattle.packing.proofs.Running.{run_length}

either_false : (x y : Bool) → (x || y) ≡ false → (x ≡ false) × (y ≡ false)
either_false true y e = absurd (true≢false e)
either_false false y e = (refl, e)

-- Not refused with 10, whatever is left of the stock: then it is decided alike.
module _ (o : Opening) (p : Packing) (left left' n : ℕ) where
  same_decision : (i : Item) (reason : Option ItemReason) → is_spent (told o (placed o p i) (decision o p i left reason)) ≡ false
      → is_spent (told o (placed o p i) (decision o p i left' reason)) ≡ false → decision o p i left reason ≡ decision o p i left' reason
  unfolding decision
  same_decision i (Some reason) x y = refl
  same_decision i None x y = go (ltb o.capacity i.size) (spent o p i left) (spent o p i left') x y
    where
      by : (b d : Bool) → Decision
      by b d = if b then refusing AboveCapacity else if d then refusing StockSpent else into (bin_for o p i)

      go : (b d d' : Bool) → is_spent (told o (placed o p i) (by b d)) ≡ false → is_spent (told o (placed o p i) (by b d')) ≡ false → by b d ≡ by b d'
      go true d d' x y = refl
      go false true d' x y = absurd (true≢false x)
      go false false true x y = absurd (true≢false y)
      go false false false x y = refl

  same_item : (c : Command) → is_spent (shelved_as o left p n c) ≡ false → is_spent (shelved_as o left' p n c) ≡ false → shelved_as o left p n c ≡ shelved_as o left' p n c
  same_item c x y = ap (told o (placed o p (item_of o n c))) (same_decision (item_of o n c) (fault c) x y)

  same_answer : (c : Command) → is_spent (answer_to o left p n c) ≡ false → is_spent (answer_to o left' p n c) ≡ false → answer_to o left p n c ≡ answer_to o left' p n c
  same_answer (Shelve s) x y = same_item (Shelve s) x y
  same_answer Count x y = refl
  same_answer (Withdraw named) x y = refl
  same_answer (Switch r) x y = refl
  same_answer (Reserve least greatest) x y = same_item (Reserve least greatest) x y
  same_answer (Settle named size) x y = refl

  same_next : (c : Command) → is_spent (answer_to o left p n c) ≡ false → is_spent (answer_to o left' p n c) ≡ false → next o left p n c ≡ next o left' p n c
  same_next c x y = ap (λ a. if is_refused a then p else done o p n c) (same_answer c x y)

module _ (o : Opening) (r : Production) where
  -- No step is refused with 10.
  abbrev Unspent : Shelf → ℕ → List Command → Type 0
  Unspent s n cs = any (λ t. is_spent t.outcome) (run_from o s n cs) ≡ false

  -- Two shelves on which the same production is current, and the one that is not r has the same packing.
  record Alike (q : Production) (s s' : Shelf) : Type 0 where
    first_current : s.current ≡ q
    second_current : s'.current ≡ q
    same_packing : of (other r) s ≡ of (other r) s'

  record Follow (s s' : Shelf) (n : ℕ) (cs ds : List Command) : Type 0 where
    same_answers : map answer_of (steps_of (other r) (run_from o s n cs)) ≡ map answer_of (steps_of (other r) (run_from o s' n ds))
    same_place : (j : ℕ) → (shelf_from o s n (take j cs)).current ≡ other r
        → take 1 (drop j (map (λ t. t.outcome) (run_from o s n cs))) ≡ take 1 (drop j (map (λ t. t.outcome) (run_from o s' n ds)))
    after : of (other r) (shelf_from o s n cs) ≡ of (other r) (shelf_from o s' n ds)

  -- One command on a shelf: its step, among those of the production that is current.
  module _ (s : Shelf) (n : ℕ) (c : Command) where
    abbrev step : Step
    step = record { number = n; production = s.current; command = c; before = own s; outcome = answer_on o s n c }

    module _ (q : Production) (e : s.current ≡ q) where
      own_steps : (ts : List Step) → steps_of q (step ∷ ts) ≡ step ∷ steps_of q ts
      own_steps ts = subst (λ x. steps_of x (step ∷ ts) ≡ step ∷ steps_of x ts) e (steps_own step ts)

      other_steps : (ts : List Step) → steps_of (other q) (step ∷ ts) ≡ steps_of (other q) ts
      other_steps ts = subst (λ x. steps_of (other x) (step ∷ ts) ≡ steps_of (other x) ts) e (steps_other step ts)

  -- Two commands of r, whatever they are: the steps of the other production are those behind them.
  module _ (s s' : Shelf) (n : ℕ) (c d : Command) (cs ds : List Command) (h : Alike r s s')
      (later : Follow (next_shelf o s n c) (next_shelf o s' n d) (suc n) cs ds) where
    follow_r : Follow s s' n (c ∷ cs) (d ∷ ds)
    unfolding run_from shelf_from
    follow_r =
        record {
          same_answers =
              ap (map answer_of) (other_steps s n c r h.first_current _) ∙ later.same_answers ∙ sym (ap (map answer_of) (other_steps s' n d r h.second_current _));
          same_place = at;
          after = later.after;
        }
      where
        at : (j : ℕ) → (shelf_from o s n (take j (c ∷ cs))).current ≡ other r
            → take 1 (drop j (map (λ t. t.outcome) (run_from o s n (c ∷ cs)))) ≡ take 1 (drop j (map (λ t. t.outcome) (run_from o s' n (d ∷ ds))))
        at zero e = absurd (other_apart r (sym e ∙ h.first_current))
        at (suc j) e = later.same_place j e

  -- One command of the other production, on both.
  module _ (s s' : Shelf) (n : ℕ) (c : Command) (cs ds : List Command) (same-a : answer_on o s n c ≡ answer_on o s' n c)
      (h : Alike (other r) s s') (later : Follow (next_shelf o s n c) (next_shelf o s' n c) (suc n) cs ds) where
    follow_other : Follow s s' n (c ∷ cs) (c ∷ ds)
    unfolding run_from shelf_from
    follow_other =
        record {
          same_answers =
              ap (map answer_of) (own_steps s n c (other r) h.first_current _) ∙ both
              ∙ sym (ap (map answer_of) (own_steps s' n c (other r) h.second_current _));
          same_place = at;
          after = later.after;
        }
      where
        both : ◌≡◌ {A = List Answer} (answer_of (step s n c) ∷ map answer_of (steps_of (other r) (run_from o (next_shelf o s n c) (suc n) cs)))
            (answer_of (step s' n c) ∷ map answer_of (steps_of (other r) (run_from o (next_shelf o s' n c) (suc n) ds)))
        both = cc (same-a, later.same_answers)

        at : (j : ℕ) → (shelf_from o s n (take j (c ∷ cs))).current ≡ other r
            → take 1 (drop j (map (λ t. t.outcome) (run_from o s n (c ∷ cs)))) ≡ take 1 (drop j (map (λ t. t.outcome) (run_from o s' n (c ∷ ds))))
        at zero e = ap (λ a. a ∷ []) same-a
        at (suc j) e = later.same_place j e

  -- One command on both, whosever it is, if what comes later follows from shelves that are alike.
  follow_same : {q : Production} → Whose r q → (s s' : Shelf) (n : ℕ) (c : Command) (cs ds : List Command) → Alike q s s'
      → is_spent (answer_on o s n c) ≡ false → is_spent (answer_on o s' n c) ≡ false
      → (Alike (belonging q c) (next_shelf o s n c) (next_shelf o s' n c) → Follow (next_shelf o s n c) (next_shelf o s' n c) (suc n) cs ds)
      → Follow s s' n (c ∷ cs) (c ∷ ds)
  follow_same its_own s s' n c cs ds h x y later =
      follow_r s s' n c c cs ds h
      (later (record {
        first_current = current_of o s n c r h.first_current;
        second_current = current_of o s' n c r h.second_current;
        same_packing = other_of o s n c r h.first_current ∙ h.same_packing ∙ sym (other_of o s' n c r h.second_current);
      }))
  follow_same the_others s s' n c cs ds h x y later =
      let q = other r in
      let p = of q s in
      let one = answer_of_lem o s n c q h.first_current in
      let two : answer_on o s' n c ≡ answer_to o (stock_left o s') p n c =
      answer_of_lem o s' n c q h.second_current ∙ ap (λ x. answer_to o (stock_left o s') x n c) (sym h.same_packing) in
      let not-one : is_spent (answer_to o (stock_left o s) p n c) ≡ false = sym (ap is_spent one) ∙ x in
      let not-two : is_spent (answer_to o (stock_left o s') p n c) ≡ false = sym (ap is_spent two) ∙ y in
      let same-a : answer_on o s n c ≡ answer_on o s' n c = one ∙ same_answer o p (stock_left o s) (stock_left o s') n c not-one not-two ∙ sym two in
      follow_other s s' n c cs ds same-a h
      (later (record {
        first_current = current_of o s n c q h.first_current;
        second_current = current_of o s' n c q h.second_current;
        same_packing =
            own_of o s n c q h.first_current ∙ same_next o p (stock_left o s) (stock_left o s') n c not-one not-two
            ∙ ap (λ x. next o (stock_left o s') x n c) h.same_packing ∙ sym (own_of o s' n c q h.second_current);
      }))

  follow : {q : Production} {cs ds : List Command} → Replaced r q cs ds → (s s' : Shelf) (n : ℕ) → Alike q s s' → Unspent s n cs → Unspent s' n ds → Follow s s' n cs ds
  unfolding run_from shelf_from steps_of any
  follow none s s' n h x y = record { same_answers = refl; same_place = λ j e. refl; after = h.same_packing }
  follow {q = q} (same c {cs = cs} {ds = ds} more) s s' n h x y =
      let one = either_false (is_spent (answer_on o s n c)) _ x in
      let two = either_false (is_spent (answer_on o s' n c)) _ y in
      follow_same (whose r q) s s' n c cs ds h one.0 two.0 (λ k. follow more (next_shelf o s n c) (next_shelf o s' n c) (suc n) k one.1 two.1)
  follow (replaced c d {cs = cs} {ds = ds} z w more) s s' n h x y =
      let one = either_false (is_spent (answer_on o s n c)) _ x in
      let two = either_false (is_spent (answer_on o s' n d)) _ y in
      follow_r s s' n c d cs ds h
      (follow more (next_shelf o s n c) (next_shelf o s' n d) (suc n)
      (record {
        first_current = current_of o s n c r h.first_current ∙ stays_current r c z;
        second_current = current_of o s' n d r h.second_current ∙ stays_current r d w;
        same_packing = other_of o s n c r h.first_current ∙ h.same_packing ∙ sym (other_of o s' n d r h.second_current);
      })
      one.1 two.1)

pub independence : (o : Opening) (r : Production) (cs ds : List Command) → Differing o r cs ds → Independence o r cs ds
independence o r cs ds h =
    let start : Alike o r First empty_shelf empty_shelf = record { first_current = refl; second_current = refl; same_packing = refl } in
    let all =
    follow o r h.differ empty_shelf empty_shelf 1 start (not-true (any (λ t. is_spent t.outcome) (run o cs)) h.first_unspent)
    (not-true (any (λ t. is_spent t.outcome) (run o ds)) h.second_unspent) in
    record { same_answers = all.same_answers; same_place = all.same_place; same_packing = all.after }

-- The lists are of one length.
replaced_length : {r q : Production} {cs ds : List Command} → Replaced r q cs ds → length cs ≡ length ds
replaced_length none = refl
replaced_length (same c more) = ap suc (replaced_length more)
replaced_length (replaced c d z w more) = ap suc (replaced_length more)

-- The word of a place, in front of whatever stands behind.
same_word : (tells : Outcome → ℕ) (j : ℕ) (xs ys : List Outcome) (rest rest' : List ℕ) → j < length xs → j < length ys → take 1 (drop j xs) ≡ take 1 (drop j ys)
    → get_or (map tells xs ++ rest) j 0 ≡ get_or (map tells ys ++ rest') j 0
same_word tells j [] ys rest rest' l m e = absurd (omega arith)
same_word tells j (x ∷ xs) [] rest rest' l m e = absurd (omega arith)
same_word tells zero (x ∷ xs) (y ∷ ys) rest rest' l m e = let here : x ≡ y = cc in ap tells here
same_word tells (suc j) (x ∷ xs) (y ∷ ys) rest rest' l m e = same_word tells j xs ys rest rest' (omega arith) (omega arith) e

pub independent_streams : (r : Production) (s s' : List ℕ) (words words' : ℕ) → IndependentStreams r s s' words words'
independent_streams r s s' words words' o cs ds a a' h tells row row' j l e =
    let all = independence o r cs ds h in
    let one = length-map (run o cs) (λ t. t.outcome) ∙ run_length o cs empty_shelf 1 in
    let two = length-map (run o ds) (λ t. t.outcome) ∙ run_length o ds empty_shelf 1 in
    rw (a, a')
    (same_word tells j (outcomes o cs) (outcomes o ds) _ _ (omega (arith, one)) (omega (arith, two, replaced_length h.differ)) (all.same_place j e))
