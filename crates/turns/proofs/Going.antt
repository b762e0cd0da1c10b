-- The turns of the two productions: where they start, what a stretch of either adds, and where they end.
use mathlib.Core.Path.{◌≡◌, refl, sym, ap, subst, ◌∙◌}
use mathlib.Core.List.{List, [], ◌++◌, append_assoc, append-nil}
use Prim.Native.Nat.{ℕ, ◌-◌, ◌≤◌}
use lib.ListN.{length, drop}
use Rattle.packing.specs.declared.{Opening.Opening, Production.Production, Command.Command}
use Rattle.packing.specs.declared.Production.TheVariants.{First, Second}
use Rattle.packing.specs.Prelude.{greatest}
use Rattle.packing.specs.Productions.{other}
use Rattle.packing.specs.Bins.{Packing}
use Rattle.packing.specs.Streams.{behind_opening, words_lent, accepted, verdict}
use Rattle.packing.specs.Run.{run_from, shelf_from, current, packing, most_looks}
use Rattle.packing.specs.Underway.{Underway}
use Rattle.packing.specs.Claims.{WholeStream}
use Rattle.packing.proofs.Accepted.{accepted_whole}
use Rattle.packing.proofs.Underway.{underway_start, underway_end}
use Rattle.tournament.specs.declared.Shape.{Shape}
use Rattle.engine.specs.declared.Terms.{Terms}
use Rattle.engine.specs.Store.{State, state, Sound, Represents, at_opening, blank_store}
use Rattle.stretch.specs.Stretches.{Begun, Startable, Stretched}
use Rattle.turns.specs.Running.{terms_beside, Runnable, Tells, Ran}
use Rattle.turns.specs.Turns.{Going, Turnable, Turned}
use Rattle.ledger.specs.declared.Row.{Row}

pub runnable_whole : {stream row free_row : List ℕ} {o : Opening} {shape : Shape} {first second : List Row} (r : Runnable stream row free_row o shape first second)
    → WholeStream stream (words_lent row free_row) o r.commands
runnable_whole {stream = stream} {row = row} {free_row = free_row} {o = o} r = accepted_whole (words_lent row free_row) o r.commands stream r.accepts

-- A state that represents a packing tells of it by its counters and its ledger.
tells : {o : Opening} {s : State} {p : Packing} → Represents o s p → Tells o s.counters s.ledger p
tells r = record { items = r.items; bins = r.bins; records = r.records }

pub going_start : {o : Opening} {shape : Shape} {stream row free_row : List ℕ} {first second : List Row} → Runnable stream row free_row o shape first second
    → (rest : List ℕ) → rest ≡ behind_opening stream
    → Going o shape First row free_row rest 0 0 (state blank_store first at_opening) (state blank_store second at_opening) stream row free_row
unfolding run_from shelf_from greatest
going_start r rest b =
    record {
      past = [];
      later = r.commands;
      accepts = r.accepts;
      underway = underway_start (runnable_whole r) rest b;
      looks_are = refl;
      whose = λ some. refl;
      first_sound = r.first_empty.sound;
      second_sound = r.second_empty.sound;
      first_is = r.first_empty.represents;
      second_is = r.second_empty.represents;
    }

module _ {o : Opening} {shape : Shape} {q : Production} {words free rest : List ℕ} {done looks : ℕ} {first second : State} {stream row free_row : List ℕ}
    (g : Going o shape q words free rest done looks first second stream row free_row) where
  pub going_end : length rest ≤ 0 → Ran stream row free_row o words free first.counters first.ledger second.counters second.ledger looks
  going_end none =
      let all : g.past ++ g.later ≡ g.past = ap (λ l. g.past ++ l) (underway_end g.underway none) ∙ append-nil g.past in
      record {
        commands = g.past;
        accepts = g.accepts ∙ ap (accepted o) all;
        answers = g.underway.words_are;
        frees = g.underway.free_are;
        looks_are = g.looks_are;
        first_is = tells g.first_is;
        second_is = tells g.second_is;
      }

-- A stretch of one production, which leaves the store of the other as it was.
module _ {o : Opening} {shape : Shape} {q : Production} {words free rest : List ℕ} {done looks : ℕ} {first second : State} {stream row free_row : List ℕ}
    (g : Going o shape q words free rest done looks first second stream row free_row) {own other-one : State} (sound : Sound o shape own)
    (own_is : Represents o own (packing o q g.past)) (other-is : Represents o other-one (packing o (other q) g.past))
    (t : Terms) (e : t ≡ terms_beside o shape other-one.counters.opened) where
  begun : Begun o q (o.stock - other-one.counters.opened) rest words free done looks own row free_row g.past g.later
  begun = record { underway = g.underway; looks_are = g.looks_are; whose = g.whose; left_is = ap (λ n. o.stock - n) other-is.bins; represents = own_is }

  startable : Startable t q rest words free done looks own
  startable =
      subst (λ x. Startable x q rest words free done looks own) (sym e)
      (record { sound = sound; row = row; free_row = free_row; past = g.past; later = g.later; begun = begun })

  -- Where the stream has come to then.
  record Come (words' free' behind : List ℕ) (done' looks' : ℕ) (own' : State) : Type 0 where
    past : List Command
    later : List Command
    accepts : verdict stream (words_lent row free_row) ≡ accepted o (past ++ later)
    underway : Underway o row free_row past later words' free' behind done'
    looks_are : looks' ≡ most_looks o past
    sound_there : Sound o shape own'
    whose : 1 ≤ length behind → current o past ≡ other q
    own_there : Represents o own' (packing o q past)
    other_there : Represents o other-one (packing o (other q) past)

  come : {words' free' behind : List ℕ} {passed done' looks' : ℕ} {own' : State} → Stretched t q rest words free done looks own words' free' passed done' looks' own'
      → behind ≡ drop passed rest → Come words' free' behind done' looks' own'
  come {words' = words'} {free' = free'} {passed = passed} {done' = done'} {looks' = looks'} {own' = own'} s b =
      let had = subst (λ x. Stretched x q rest words free done looks own words' free' passed done' looks' own') e s in
      let gone = had.ends row free_row g.past g.later begun in
      rw b
      (record {
        past = g.past ++ gone.mine;
        later = gone.still;
        accepts = g.accepts ∙ ap (λ l. accepted o (g.past ++ l)) gone.later_are ∙ ap (accepted o) (sym (append_assoc g.past gone.mine gone.still));
        underway = gone.underway;
        looks_are = gone.looks_are;
        sound_there = had.sound;
        whose = gone.whose;
        own_there = gone.represents;
        other_there = rw gone.other_same other-is;
      })

-- The one of production 0, and the one of production 1.
module _ {o : Opening} {shape : Shape} {words free rest : List ℕ} {done looks : ℕ} {first second : State} {stream row free_row : List ℕ} (t : Terms) where
  module _ (g : Going o shape First words free rest done looks first second stream row free_row) (e : t ≡ terms_beside o shape second.counters.opened) where
    pub first_startable : Startable t First rest words free done looks first
    first_startable = startable g g.first_sound g.first_is g.second_is t e

    pub first_next : {words' free' behind : List ℕ} {passed done' looks' : ℕ} {first' : State}
        → Stretched t First rest words free done looks first words' free' passed done' looks' first' → behind ≡ drop passed rest
        → Going o shape Second words' free' behind done' looks' first' second stream row free_row
    first_next s b =
        let c = come g g.first_sound g.first_is g.second_is t e s b in
        record {
          past = c.past;
          later = c.later;
          accepts = c.accepts;
          underway = c.underway;
          looks_are = c.looks_are;
          whose = c.whose;
          first_sound = c.sound_there;
          second_sound = g.second_sound;
          first_is = c.own_there;
          second_is = c.other_there;
        }

  module _ (g : Going o shape Second words free rest done looks first second stream row free_row) (e : t ≡ terms_beside o shape first.counters.opened) where
    pub second_startable : Startable t Second rest words free done looks second
    second_startable = startable g g.second_sound g.second_is g.first_is t e

    pub second_next : {words' free' behind : List ℕ} {passed done' looks' : ℕ} {second' : State}
        → Stretched t Second rest words free done looks second words' free' passed done' looks' second' → behind ≡ drop passed rest
        → Going o shape First words' free' behind done' looks' first second' stream row free_row
    second_next s b =
        let c = come g g.second_sound g.second_is g.first_is t e s b in
        record {
          past = c.past;
          later = c.later;
          accepts = c.accepts;
          underway = c.underway;
          looks_are = c.looks_are;
          whose = c.whose;
          first_sound = g.first_sound;
          second_sound = c.sound_there;
          first_is = c.other_there;
          second_is = c.own_there;
        }

-- The invariant of the turns: every stream that had come so far at the first of them has come further, and production 1 is to have the next.
pub record Turning (o : Opening) (shape : Shape) (rest₀ words₀ free₀ : List ℕ) (done₀ looks₀ : ℕ) (first₀ : State) (other₀ : List Row)
    (words free rest : List ℕ) (done looks : ℕ) (first second : State) : Type 0 where
  pub start : Turnable o shape rest₀ words₀ free₀ done₀ looks₀ first₀ other₀
  pub goes : (stream row free_row : List ℕ) → Going o shape Second words₀ free₀ rest₀ done₀ looks₀ first₀ (state blank_store other₀ at_opening) stream row free_row
      → Going o shape Second words free rest done looks first second stream row free_row

pub turning_start : {o : Opening} {shape : Shape} {rest words free : List ℕ} {done looks : ℕ} {first : State} {other-row : List Row}
    → Turnable o shape rest words free done looks first other-row
    → Turning o shape rest words free done looks first other-row words free rest done looks first (state blank_store other-row at_opening)
turning_start h = record { start = h; goes = λ stream row free_row g. g }

module _ {o : Opening} {shape : Shape} {rest₀ words₀ free₀ : List ℕ} {done₀ looks₀ : ℕ} {first₀ : State} {other₀ : List Row}
    {words free rest : List ℕ} {done looks : ℕ} {first second : State}
    (t : Turning o shape rest₀ words₀ free₀ done₀ looks₀ first₀ other₀ words free rest done looks first second) where
  pub turning_here : Going o shape Second words free rest done looks first second t.start.stream t.start.row t.start.free_row
  turning_here = t.goes t.start.stream t.start.row t.start.free_row t.start.going

  -- A stretch of each.
  pub turning_next : (x y : Terms) {words' free' behind words'' free'' behind' : List ℕ} {passed done' looks' passed' done'' looks'' : ℕ} {second' first' : State}
      → x ≡ terms_beside o shape first.counters.opened
      → Stretched x Second rest words free done looks second words' free' passed done' looks' second' → behind ≡ drop passed rest
      → y ≡ terms_beside o shape second'.counters.opened
      → Stretched y First behind words' free' done' looks' first words'' free'' passed' done'' looks'' first' → behind' ≡ drop passed' behind
      → Turning o shape rest₀ words₀ free₀ done₀ looks₀ first₀ other₀ words'' free'' behind' done'' looks'' first' second'
  turning_next x y e s b e' s' b' =
      record { start = t.start; goes = λ stream row free_row g. first_next y (second_next x (t.goes stream row free_row g) e s b) e' s' b' }

  pub turning_end : length rest ≤ 0
      → Turned o shape rest₀ words₀ free₀ done₀ looks₀ first₀ other₀ words free first.counters first.ledger second.counters second.ledger looks
  turning_end none stream row free_row g = going_end (t.goes stream row free_row g) none
