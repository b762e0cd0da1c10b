-- A stretch of one production: what every run that had come so far has come to, one command after another. The state follows the packing of the
-- production; the other's packing, and so what is left of the stock, stays.
use mathlib.Core.Path.{◌≡◌, refl, sym, ap, subst, ◌∙◌}
use mathlib.Core.Bool.{true, false, true≢false, false≢true}
use mathlib.Core.List.{List, [], ◌∷◌, ◌++◌, append_assoc, append-nil}
use Prim.Native.Nat.{ℕ, suc, ◌+◌, ◌-◌, ◌≤◌, max}
use native.Mathlib.Omega.{arith}
use lib.ListN.{length, drop, length-drop}
use lib.Seq.{drop-drop}
use Rattle.packing.specs.declared.{Opening.Opening, Production.Production, Command.Command, Answer.Answer}
use Rattle.packing.specs.declared.Production.TheVariants.{First, Second}
use Rattle.packing.specs.Refusals.{word, free_units}
use Rattle.packing.specs.Productions.{other, is_same}
use Rattle.packing.specs.Bins.{opened}
use Rattle.packing.specs.Shelves.{Shelf, of, own, stock_left, belonging}
use Rattle.packing.specs.Streams.{whole, front_of, WholeFront}
use Rattle.packing.specs.Run.{answer_to, answer_on, next, looks_to, shelf, most_looks, packing, current}
use Rattle.packing.specs.Underway.{Underway}
use Rattle.packing.proofs.Fronts.{whole_passed}
use Rattle.packing.proofs.Productions.{left_of, answer_of_lem, own_of, other_of, current_of}
use Rattle.packing.proofs.Running.{shelved_few, shelf_more}
use Rattle.packing.proofs.Looks.{most_more}
use Rattle.packing.proofs.Shelved.{held_shelved}
use Rattle.packing.proofs.Withdrawals.{not_yet}
use Rattle.packing.proofs.Underway.{underway_few, underway_whole, coming, underway_more, underway_word, underway_next}
use Rattle.tournament.specs.declared.Shape.{Shape}
use Rattle.ledger.proofs.Noting.{not_noted}
use Rattle.engine.specs.declared.Terms.{Terms}
use Rattle.engine.specs.Store.{State, Sound, Represents, Ready}
use Rattle.engine.specs.Done.{Done}
use Rattle.stretch.specs.Words.{Writable, Written}
use Rattle.stretch.specs.Stretches.{Begun, Gone, Startable, Stretched}

-- By the test, a production is the same or the other.
same_production : (q r : Production) → true ≡ is_same q r → r ≡ q
same_production First First e = refl
same_production First Second e = absurd (true≢false e)
same_production Second First e = absurd (true≢false e)
same_production Second Second e = refl

other_production : (q r : Production) → false ≡ is_same q r → r ≡ other q
other_production First First e = absurd (false≢true e)
other_production First Second e = refl
other_production Second First e = refl
other_production Second Second e = absurd (false≢true e)

-- Items of either production are no more than the commands.
held_few : (o : Opening) (q : Production) (cs : List Command) {s : State} → Represents o s (packing o q cs) → s.counters.items ≤ length cs
held_few o First cs r = omega (arith, r.items, held_shelved o First cs, shelved_few o cs)
held_few o Second cs r = omega (arith, r.items, held_shelved o Second cs, shelved_few o cs)

module _ {o : Opening} {q : Production} {left : ℕ} {row free_row : List ℕ} {past later : List Command} where
  -- It begins with no command of its own.
  gone_none : {rest words free : List ℕ} {done looks : ℕ} {s : State} → Begun o q left rest words free done looks s row free_row past later
      → Gone o q q rest words free done looks s row free_row past later
  gone_none {rest = rest} {words = words} {free = free} {done = done} {s = s} b =
      let same : past ++ [] ≡ past = append-nil past in
      record {
        mine = [];
        still = later;
        later_are = refl;
        underway = subst (λ cs. Underway o row free_row cs later words free rest done) (sym same) b.underway;
        looks_are = b.looks_are ∙ ap (most_looks o) (sym same);
        whose = λ some. ap (current o) same ∙ b.whose some;
        represents = subst (λ cs. Represents o s (packing o q cs)) (sym same) b.represents;
        other_same = ap (packing o (other q)) same;
      }

  -- One more command.
  module _ {rest₀ words₀ free₀ : List ℕ} {done₀ looks₀ : ℕ} {s₀ : State} (b : Begun o q left rest₀ words₀ free₀ done₀ looks₀ s₀ row free_row past later)
      {rest words free : List ℕ} {done looks : ℕ} {s : State} (g : Gone o q q rest words free done looks s row free_row past later)
      (c : Command) (width : ℕ) (f : front_of rest ≡ whole c width) where
    abbrev so_far : List Command
    so_far = past ++ g.mine

    abbrev n : ℕ
    n = suc (length so_far)

    some : 1 ≤ length rest
    some = omega (arith, (whole_passed rest c width f).inside)

    -- The production is current, and for it is left what was left.
    is_current : current o so_far ≡ q
    is_current = g.whose some

    left_same : stock_left o (shelf o so_far) ≡ left
    left_same = left_of o (shelf o so_far) n c q is_current ∙ ap (λ p. o.stock - opened p) g.other_same ∙ sym b.left_is

    -- No item has the command's number yet, and at most 4,096 are on the shelf, so one more can be counted.
    gone_ready : {shape : Shape} → Sound o shape s → Ready o left shape (done + 1) s
    gone_ready sound =
        record {
          sound = sound;
          room = omega (arith, held_few o q so_far g.represents, g.underway.done_are, underway_few g.underway);
          numbered = omega (arith, underway_more g.underway c width f);
          new = not_noted (done + 1) g.represents.noted (not_yet (done + 1) o q so_far (omega (arith, g.underway.done_are)));
          left_few = omega (arith, b.left_is);
        }

    gone_next : {shape : Shape} (s' : State) (behind words' free' : List ℕ) (r : Answer) (own-looks looks' : ℕ) → Done o left shape s (done + 1) c r own-looks s'
        → Written r words free words' free' → looks' ≡ max looks own-looks → behind ≡ drop (width + 1) rest
        → Gone o q (belonging q c) behind words' free' r.number looks' s' row free_row past later
    gone_next s' behind words' free' r own-looks looks' step w el e =
        let place : r.number - 1 ≡ done = omega (arith, step.numbered) in
        let number : done + 1 ≡ n = omega (arith, g.underway.done_are) in
        let all : past ++ (g.mine ++ c ∷ []) ≡ so_far ++ c ∷ [] = sym (append_assoc past g.mine (c ∷ [])) in
        let after = shelf_more o so_far c in
        let p = packing o q so_far in
        let model = rw number at (step.model p g.represents) in
        let answered : r.outcome ≡ answer_on o (shelf o so_far) n c =
        model.answered ∙ ap (λ l. answer_to o l p n c) (sym left_same) ∙ sym (answer_of_lem o (shelf o so_far) n c q is_current) in
        let own_after : packing o q (so_far ++ c ∷ []) ≡ next o left p n c =
        ap (of q) after ∙ own_of o (shelf o so_far) n c q is_current ∙ ap (λ l. next o l p n c) left_same in
        let looked : own-looks ≡ looks_to o (own (shelf o so_far)) n c = model.looked ∙ ap (λ x. looks_to o x n c) (sym (ap (λ r. of r (shelf o so_far)) is_current)) in
        rw (w.words_are, w.free_are, place, step.numbered)
        (record {
          mine = g.mine ++ c ∷ [];
          still = (coming g.underway c width f).after;
          later_are =
              g.later_are ∙ ap (λ l. g.mine ++ l) (coming g.underway c width f).later_are ∙ sym (append_assoc g.mine (c ∷ []) (coming g.underway c width f).after);
          underway = rw all (underway_next g.underway c width f r.outcome (word r.outcome) (free_units r.outcome) behind answered refl refl e);
          looks_are = omega (arith, el, g.looks_are, looked, most_more o so_far c, ap (most_looks o) all);
          whose = λ more. ap (current o) all ∙ ap (λ (x : Shelf). x.current) after ∙ current_of o (shelf o so_far) n c q is_current;
          represents = rw (all, own_after) model.represents;
          other_same = ap (packing o (other q)) all ∙ ap (of (other q)) after ∙ other_of o (shelf o so_far) n c q is_current ∙ g.other_same;
        })

-- The invariant of the loop: what is left of the bytes, and what every run that had come so far has come to, in the same production.
pub record Stretching (t : Terms) (q : Production) (rest₀ words₀ free₀ : List ℕ) (done₀ looks₀ : ℕ) (s₀ : State)
    (rest words free : List ℕ) (done looks : ℕ) (s : State) : Type 0 where
  pub start : Startable t q rest₀ words₀ free₀ done₀ looks₀ s₀
  pub sound : Sound t.opening t.shape s
  pub inside : length rest ≤ length rest₀
  pub rest_is : rest ≡ drop (length rest₀ - length rest) rest₀
  pub goes : (row free_row : List ℕ) (past later : List Command) → Begun t.opening q t.left rest₀ words₀ free₀ done₀ looks₀ s₀ row free_row past later
      → Gone t.opening q q rest words free done looks s row free_row past later

pub stretching_start : {t : Terms} {q : Production} {rest words free : List ℕ} {done looks : ℕ} {s : State}
    → Startable t q rest words free done looks s → Stretching t q rest words free done looks s rest words free done looks s
stretching_start {rest = rest} h =
    let none : 0 ≡ length rest - length rest = omega arith in
    record { start = h; sound = h.sound; inside = omega arith; rest_is = ap (λ k. drop k rest) none; goes = λ row free_row past later b. gone_none b }

module _ {t : Terms} {q : Production} {rest₀ words₀ free₀ : List ℕ} {done₀ looks₀ : ℕ} {s₀ : State}
    {rest words free : List ℕ} {done looks : ℕ} {s : State} (g : Stretching t q rest₀ words₀ free₀ done₀ looks₀ s₀ rest words free done looks s) where
  abbrev begun : Begun t.opening q t.left rest₀ words₀ free₀ done₀ looks₀ s₀ g.start.row g.start.free_row g.start.past g.start.later
  begun = g.start.begun

  abbrev gone : Gone t.opening q q rest words free done looks s g.start.row g.start.free_row g.start.past g.start.later
  gone = g.goes g.start.row g.start.free_row g.start.past g.start.later begun

  pub stretching_few : done ≤ 4096
  stretching_few = underway_few gone.underway

  pub stretching_whole : 1 ≤ length rest → WholeFront rest
  stretching_whole some = underway_whole gone.underway some

  -- It ends with the stream: all bytes are passed.
  pub stretching_end : length rest ≤ 0 → Stretched t q rest₀ words₀ free₀ done₀ looks₀ s₀ words free (length rest₀) done looks s
  stretching_end none =
      let all : length rest₀ - length rest ≡ length rest₀ = omega arith in
      record {
        sound = g.sound;
        inside = omega arith;
        onward = λ some. some;
        ends = λ row free_row past later b.
            let here = g.goes row free_row past later b in
            rw (← (g.rest_is ∙ ap (λ k. drop k rest₀) all))
            (record {
              mine = here.mine;
              still = here.still;
              later_are = here.later_are;
              underway = here.underway;
              looks_are = here.looks_are;
              whose = λ some. absurd (omega arith);
              represents = here.represents;
              other_same = here.other_same;
            });
      }

  module _ (command : Command) (width : ℕ) (f : front_of rest ≡ whole command width) where
    pub stretching_ready : Ready t.opening t.left t.shape (done + 1) s
    stretching_ready = gone_ready begun gone command width f g.sound

    -- Its answer, which has the next number, has a word in both rows.
    pub stretching_word : (number : ℕ) → number ≡ done + 1 → Writable number words free
    stretching_word number n =
        let words_left = underway_word gone.underway command width f in
        record {
          from_1 = omega arith;
          few = omega (arith, underway_more gone.underway command width f);
          word = omega (arith, words_left.0);
          free_word = omega (arith, words_left.1);
        }

    -- One command further.
    module _ (s' : State) (behind words' free' : List ℕ) (r : Answer) (own-looks looks' : ℕ) (step : Done t.opening t.left t.shape s (done + 1) command r own-looks s')
        (w : Written r words free words' free') (el : looks' ≡ max looks own-looks) (e : behind ≡ drop (width + 1) rest) where
      -- What a run has come to then, if the next command is of this production and the rest is this.
      abbrev Then : Production → List ℕ → (row free_row : List ℕ) (past later : List Command) → Type 0
      Then next y row free_row past later = Gone t.opening q next y words' free' r.number looks' s' row free_row past later

      shorter : length behind + (width + 1) ≡ length rest
      shorter = omega (arith, ap length e, length-drop (width + 1) rest, (whole_passed rest command width f).inside)

      behind_is : behind ≡ drop (length rest₀ - length behind) rest₀
      behind_is =
          let passed : (length rest₀ - length rest) + (width + 1) ≡ length rest₀ - length behind = omega (arith, shorter, g.inside) in
          e ∙ ap (drop (width + 1)) g.rest_is ∙ drop-drop (width + 1) (length rest₀ - length rest) rest₀ ∙ ap (λ k. drop k rest₀) passed

      pub stretching_next : true ≡ is_same q (belonging q command)
          → Stretching t q rest₀ words₀ free₀ done₀ looks₀ s₀ behind words' free' r.number looks' s'
      stretching_next stays =
          record {
            start = g.start;
            sound = step.sound;
            inside = omega (arith, shorter, g.inside);
            rest_is = behind_is;
            goes = λ row free_row past later b.
                subst (λ x. Then x behind row free_row past later) (same_production q (belonging q command) stays)
                (gone_next b (g.goes row free_row past later b) command width f s' behind words' free' r own-looks looks' step w el e);
          }

      pub stretching_left : false ≡ is_same q (belonging q command)
          → Stretched t q rest₀ words₀ free₀ done₀ looks₀ s₀ words' free' (length rest₀ - length behind) r.number looks' s'
      stretching_left leaves =
          record {
            sound = step.sound;
            inside = omega arith;
            onward = λ some. omega (arith, shorter, g.inside);
            ends = λ row free_row past later b.
                subst (λ x. Then (other q) x row free_row past later) behind_is
                (subst (λ x. Then x behind row free_row past later) (other_production q (belonging q command) leaves)
                (gone_next b (g.goes row free_row past later b) command width f s' behind words' free' r own-looks looks' step w el e));
          }
