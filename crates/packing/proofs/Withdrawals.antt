-- Command 04: refused with 17 exactly when no step of its production shelved the item named, or one took it out; else answered by the bin that the item
-- was answered.
use Prim.Native.Nat.{ℕ, suc, ◌<◌}
use mathlib.Core.Path.{◌≡◌, refl, sym, ap, subst, ◌∙◌}
use mathlib.Core.Logic.{◌↔◌}
use mathlib.Core.Bool.{Bool, true, false, not, ◌&&◌, ◌||◌, or-false, false≢true, true≢false}
use mathlib.Core.List.Memᴰ
use mathlib.Core.List.{List, [], ◌∷◌, map, Memᴰ}
use native.Mathlib.Omega.{arith}
use borrow.Author.Tests.{eqb-true, eq-eqb}
use lib.Dec.{eqb}
use lib.ListN.{length, take, drop, get_or}
use Rattle.std.specs.Prelude.{if◌then◌else◌}
use Rattle.packing.specs.Prelude.{any, keep, Opening, Production, Command, Withdraw, Outcome, Withdrawn, Refused, NotShelved}
use Rattle.packing.specs.Refusals.{is_refused, is_withdrawn}
use Rattle.packing.specs.Bins.{Item, Bin, Packing, free_on}
use Rattle.packing.specs.Placing.{first_fit}
use Rattle.packing.specs.Withdrawing.{is_named, holds_named, bin_holding, without, withdrawal}
use Rattle.packing.specs.Settling.{settled}
use Rattle.packing.specs.Sending.{shelves_item}
use Rattle.packing.specs.Run.{Step, Shelved, shelving, outcomes, current, steps, packing, still_shelved}
use Rattle.packing.specs.Claims.{ShelvedIn, OnShelf}
use Rattle.packing.proofs.Tests.{clash, both_true}
use Rattle.packing.proofs.Searching.{found, any_reversed, any_map, any_keep, none_left}
use Rattle.packing.proofs.Moves.{Move, places, withdraws, settles, counts, switches, refuses, trace}
use Rattle.packing.proofs.Settling.{settled_command}
use Rattle.packing.proofs.Shelved.{Lying, lying_start, any_shelved, lying}
use Rattle.packing.proofs.Named.{shelved_each, earlier, none_yet, placed_there, Gone, gone_by}
use Rattle.packing.proofs.Holding.{holds}
use Rattle.packing.proofs.Running.{answer_at, move_at}

-- Each item still shelved was shelved by a step, in its bin.
pub as_shelved : (o : Opening) (q : Production) (cs : List Command) (s : Shelved) → Memᴰ s (still_shelved o q cs) → ShelvedIn (steps o q cs) s.item.command s.bin
as_shelved o q cs =
    shelved_each o (λ s. ShelvedIn (steps o q cs) s.item.command s.bin) (steps o q cs) [] (λ s m. absurd (Memᴰ.not-nil m))
    (λ t m bin free e. record { step = t; among = m; of_number = refl; placed = rw e; its_bin = rw e })
    (λ named size s h. rw (settled_command named size s.item) h)

module _ (named : ℕ) where
  -- The item of this number is on the list.
  abbrev on_list : List Shelved → Bool
  on_list on = any (λ s. is_named named s.item) on

  its_number : (i : Item) → is_named named i ≡ true → i.command ≡ named
  its_number i e = eqb-true i.command named e

  -- A settling leaves its number, whichever item it settles.
  number_stays : (m size : ℕ) (i : Item) → is_named named (settled m size i) ≡ is_named named i
  number_stays m size i = ap (λ k. eqb k named) (settled_command m size i)

  -- The bin that holds it.
  holds_it : (bins : List Bin) → any (holds_named named) bins ≡ true → any (is_named named) (get_or (map (λ b. b.items) bins) (first_fit (holds_named named) bins) []) ≡ true
  unfolding any first_fit
  holds_it [] e = absurd (false≢true e)
  holds_it (b ∷ bs) e = go (holds_named named b) refl e (holds_it bs)
    where
      go : (t : Bool) → holds_named named b ≡ t → (t || any (holds_named named) bs) ≡ true
          → (any (holds_named named) bs ≡ true → any (is_named named) (get_or (map (λ b. b.items) bs) (first_fit (holds_named named) bs) []) ≡ true)
          → any (is_named named) (get_or (b.items ∷ map (λ b. b.items) bs) (if t then 0 else suc (first_fit (holds_named named) bs)) []) ≡ true
      go true q e r = q
      go false q e r = r e

  module _ (o : Opening) where
    -- It is the bin that the item was answered.
    pub shelved_there : (q : Production) (cs : List Command) → any (holds_named named) (packing o q cs).bins ≡ true → ShelvedIn (steps o q cs) named (bin_holding named (packing o q cs))
    unfolding any
    shelved_there q cs e =
        let n = bin_holding named (packing o q cs) in
        let here : Shelved → Bool = λ s. eqb s.bin n in
        let on = still_shelved o q cs in
        let held = map (λ s. s.item) (keep here on) in
        let some : any (λ s. here s && is_named named s.item) on ≡ true =
        sym (any_keep (λ s. is_named named s.item) here on) ∙ sym (any_map (λ s. s.item) (λ s. is_named named s.item) (is_named named) (keep here on) (λ s m. refl))
        ∙ sym (any_reversed (is_named named) held [] ∙ or-false (any (is_named named) held))
        ∙ ap (any (is_named named)) (sym (holds o q cs n)) ∙ holds_it (packing o q cs).bins e in
        let f = found (λ s. here s && is_named named s.item) on some in
        let both = both_true (here f.member) (is_named named f.member.item) f.passes in
        rw (eqb-true f.member.bin n both.0, eqb-true f.member.item.command named both.1) at (as_shelved o q cs f.member f.among)

    -- So no item has the number of a command to come.
    pub not_yet : (q : Production) (cs : List Command) → length cs < named → any (holds_named named) (packing o q cs).bins ≡ false
    not_yet q cs l = any_shelved o (lying o q cs) (is_named named) ∙ none_yet o named (is_named named) its_number (lying o q cs) (omega arith)

    -- The step that takes it out.
    record TakesOut (t : Step) : Type 0 where
      command_is : t.command ≡ Withdraw named
      accepted : is_refused t.outcome ≡ false

    take_out : (left k : ℕ) (p : Packing) (r : Production) (c : Command) (q : Packing) (a : Outcome) (on : List Shelved) → Lying o k p on → Move o left p k c a q
        → TakesOut (record { number = k; production = r; command = c; before = p; outcome = a })
        → Gone o named (is_named named) its_number (λ m size i e. sym (number_stays m size i) ∙ e) k (shelving o k c a on)
    take_out left k p r c q a on h (places x) z = absurd (false≢true (ap shelves_item (sym z.command_is) ∙ x.shelves))
    take_out left k p r c q a on h (withdraws {named = m} x) z =
        let e = z.command_is in
        let same : m ≡ named = cc in
        record {
          was = earlier o named (is_named named) its_number h (sym (any_shelved o h (is_named named)) ∙ subst (λ k. any (holds_named k) p.bins ≡ true) same x);
          gone = rw same (none_left (λ s. is_named named s.item) on);
        }
    take_out left k p r c q a on h (settles x) z = let e = z.command_is in clash (cc)
    take_out left k p r c q a on h counts z = let e = z.command_is in clash (cc)
    take_out left k p r c q a on h switches z = let e = z.command_is in clash (cc)
    take_out left k p r c q a on h (refuses w) z = absurd (true≢false z.accepted)

    taken_out : (q : Production) (cs : List Command) (t : Step) → Memᴰ t (steps o q cs) → t.command ≡ Withdraw named → is_refused t.outcome ≡ false
        → on_list (still_shelved o q cs) ≡ false
    taken_out q cs t m c z =
        gone_by o named (is_named named) its_number (λ m size i e. sym (number_stays m size i) ∙ e) TakesOut take_out (trace o q cs) [] (lying_start o) t m
        (record { command_is = c; accepted = z })

    -- So what the answers tell is what is on the list.
    pub on_shelf : (q : Production) (cs : List Command) → on_list (still_shelved o q cs) ≡ true → OnShelf (steps o q cs) named
    on_shelf q cs e =
        let f = found (λ s. is_named named s.item) (still_shelved o q cs) e in
        record {
          bin = f.member.bin;
          shelved = rw (eqb-true f.member.item.command named f.passes) at (as_shelved o q cs f.member f.among);
          not_out = λ t m c. go t m c (is_refused t.outcome) refl;
        }
      where
        go : (t : Step) → Memᴰ t (steps o q cs) → t.command ≡ Withdraw named → (r : Bool) → is_refused t.outcome ≡ r → r ≡ true
        go t m c true z = refl
        go t m c false z = absurd (true≢false (sym e ∙ taken_out q cs t m c z))

    is_on : (q : Production) (cs : List Command) → OnShelf (steps o q cs) named → on_list (still_shelved o q cs) ≡ true
    is_on q cs h =
        let s = h.shelved in
        placed_there o named (is_named named) its_number (λ m. Unit {0}) (λ m size z i. number_stays m size i) (trace o q cs) [] (lying_start o) h.not_out (λ t m size x e z. tt)
        s.step s.among s.of_number s.placed ∙ eq-eqb s.step.number named s.of_number

    -- 17 exactly then.
    exactly_when : (q : Production) (cs : List Command) → (withdrawal o (packing o q cs) named ≡ Refused NotShelved) ↔ (OnShelf (steps o q cs) named → ⊥)
    unfolding withdrawal
    exactly_when q cs = go (any (holds_named named) (packing o q cs).bins) (sym (any_shelved o (lying o q cs) (is_named named)))
      where
        p : Packing
        p = packing o q cs

        go : (t : Bool) → on_list (still_shelved o q cs) ≡ t
            → ((if not t then Refused NotShelved else Withdrawn (bin_holding named p) (free_on o (bin_holding named p) (without named p))) ≡ Refused NotShelved)
            ↔ (OnShelf (steps o q cs) named → ⊥)
        go true e = (λ x. clash (cc), λ x. absurd (x (on_shelf q cs e)))
        go false e = (λ x h. true≢false (sym (is_on q cs h) ∙ e), λ x. refl)

    -- And else it is taken out.
    out_when : (q : Production) (cs : List Command) → OnShelf (steps o q cs) named → is_withdrawn (withdrawal o (packing o q cs) named) ≡ true
    unfolding withdrawal
    out_when q cs h = rw (any_shelved o (lying o q cs) (is_named named), is_on q cs h) refl

    -- The bin answered.
    bin_when : {left n : ℕ} {p : Packing} {c : Command} {q : Packing} {a : Outcome} (bin free : ℕ) → Move o left p n c a q → c ≡ Withdraw named → a ≡ Withdrawn bin free
        → (any (holds_named named) p.bins ≡ true) × (bin_holding named p ≡ bin)
    bin_when bin free (places h) e f = absurd (false≢true (ap shelves_item (sym e) ∙ h.shelves))
    bin_when {p = p} bin free (withdraws {named = m} h) e f =
        let same : m ≡ named = cc in
        (subst (λ k. any (holds_named k) p.bins ≡ true) same h, rw (← same) (cc))
    bin_when bin free (settles h) e f = clash (cc)
    bin_when bin free counts e f = clash (cc)
    bin_when bin free switches e f = clash (cc)
    bin_when bin free (refuses z) e f = clash (cc)

module _ (o : Opening) (cs : List Command) (j named : ℕ) (later : List Command) (here : drop j cs ≡ Withdraw named ∷ later) where
  -- The production that the command belongs to, and its steps before it.
  abbrev whose_it_is : Production
  whose_it_is = current o (take j cs)

  abbrev before_it : List Step
  before_it = steps o whose_it_is (take j cs)

  pub withdrawn_exactly : (take 1 (drop j (outcomes o cs)) ≡ Refused NotShelved ∷ []) ↔ (OnShelf before_it named → ⊥)
  withdrawn_exactly =
      let both = exactly_when named o whose_it_is (take j cs) in
      rw (answer_at o j cs (Withdraw named) later here) (λ e. both.0 (cc), λ h. ap (λ a. a ∷ []) (both.1 h))

  pub withdrawn_if_there : (a : Outcome) (others : List Outcome) → drop j (outcomes o cs) ≡ a ∷ others → OnShelf before_it named → is_withdrawn a ≡ true
  withdrawn_if_there a others e h =
      let p = packing o whose_it_is (take j cs) in
      let told : take 1 (a ∷ others) ≡ withdrawal o p named ∷ [] = rw e at (answer_at o j cs (Withdraw named) later here) in
      let same : a ≡ withdrawal o p named = cc in
      rw same (out_when named o whose_it_is (take j cs) h)

  pub withdrawn_from : (bin free : ℕ) (others : List Outcome) → drop j (outcomes o cs) ≡ Withdrawn bin free ∷ others → ShelvedIn before_it named bin
  withdrawn_from bin free others e =
      let m = move_at o j cs (Withdrawn bin free) others e in
      let first : m.command ∷ m.later ≡ Withdraw named ∷ later = sym m.rest_is ∙ here in
      let b = bin_when named o bin free m.moved (cc) refl in
      subst (ShelvedIn before_it named) b.1 (shelved_there named o whose_it_is (take j cs) b.0)
