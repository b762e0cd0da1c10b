-- The ways out of a step, each a law over what the code knows there, with so much of the stock left.
use mathlib.Core.Path.{◌≡◌, refl, sym, ap, ◌∙◌}
use mathlib.Core.Logic.{◌⊎◌, inl, inr, ⊎_elim}
use mathlib.Core.Bool.{true, false≢true}
use mathlib.Core.List.{List}
use Rattle.std.specs.Prelude.{None}
use Prim.Native.Nat.{ℕ, ◌+◌, ◌<◌}
use native.Mathlib.Omega.{arith}
use lib.ListN.{set}
use Rattle.packing.specs.declared.{Opening.Opening, Command.Command, ItemReason.ItemReason}
use Rattle.packing.specs.declared.Outcome.TheVariants.{Placed, Refused}
use Rattle.packing.specs.declared.Command.TheVariants.{Shelve, Count, Withdraw, Switch, Reserve, Settle}
use Rattle.packing.specs.Bins.{Packing, free_on, stored}
use Rattle.packing.specs.Looks.{looks as looksBy}
use Rattle.packing.specs.Placing.{into, refusing, bin_for, decision, placed}
use Rattle.packing.specs.Sending.{shelves_item, size_of, least_of, fault, item, item_of}
use Rattle.packing.specs.Run.{told as toldAs, shelved_as, answer_to, done, next, looks_to}
use Rattle.packing.proofs.Tests.{clash}
use Rattle.packing.proofs.Decided.{goes_in, decides}
use Rattle.packing.proofs.Reached.{opened_placed}
use Rattle.tournament.specs.declared.Shape.{Shape}
use Rattle.aim.specs.declared.Counters.{Counters}
use Rattle.aim.specs.Aims.{home, a_for, accepting}
use Rattle.ledger.specs.declared.{Row.Row, Note.Note}
use Rattle.ledger.specs.Rows.{places, row_at}
use Rattle.ledger.specs.Notes.{numbers, note_at, least_by}
use Rattle.ledger.specs.Entering.{Entered}
use Rattle.ledger.proofs.Chosen.{free_left}
use Rattle.ledger.proofs.Entering.{IsEntry, row_before, records_placed}
use Rattle.ledger.proofs.Few.{held_placed}
use Rattle.ledger.proofs.Noting.{noted_placed}
use Rattle.index.specs.Shown.{Shown}
use Rattle.index.proofs.Indexing.{indexes_set}
use Rattle.engine.specs.declared.Spot.{Spot}
use Rattle.engine.specs.Store.{State, Sound, Represents, Ready}
use Rattle.engine.specs.Done.{answering, Modelled, Done}
use Rattle.engine.proofs.States.{state_of}
use Rattle.engine.proofs.Aimed.{Aimed, phase_few, a_more, phase_after_lem}
use Rattle.engine.proofs.Spotted.{IsSpot, Spotted}

-- A command that shelves an item is answered as its item is decided of, and does what placing it does.
answered_so : (o : Opening) (left : ℕ) (p : Packing) (number : ℕ) (c : Command) → shelves_item c ≡ true → answer_to o left p number c ≡ shelved_as o left p number c
answered_so o left p number (Shelve size) e = refl
answered_so o left p number Count e = absurd (false≢true e)
answered_so o left p number (Withdraw named) e = absurd (false≢true e)
answered_so o left p number (Switch r) e = absurd (false≢true e)
answered_so o left p number (Reserve least greatest) e = refl
answered_so o left p number (Settle named size) e = absurd (false≢true e)

does_so : (o : Opening) (p : Packing) (number : ℕ) (c : Command) → shelves_item c ≡ true → done o p number c ≡ placed o p (item_of o number c)
does_so o p number (Shelve size) e = refl
does_so o p number Count e = absurd (false≢true e)
does_so o p number (Withdraw named) e = absurd (false≢true e)
does_so o p number (Switch r) e = absurd (false≢true e)
does_so o p number (Reserve least greatest) e = refl
does_so o p number (Settle named size) e = absurd (false≢true e)

pub refused_so : (o : Opening) (left : ℕ) (p : Packing) (number : ℕ) (c : Command) → shelves_item c ≡ true → {reason : ItemReason}
    → decision o p (item_of o number c) left (fault c) ≡ refusing reason → answer_to o left p number c ≡ Refused reason
refused_so o left p number c shelves e = answered_so o left p number c shelves ∙ ap (toldAs o (placed o p (item_of o number c))) e

-- The looks of a search for it.
pub looks_so : (o : Opening) (p : Packing) (number : ℕ) (c : Command) → shelves_item c ≡ true → {n : ℕ} → looksBy o p (item_of o number c) (fault c) ≡ n → n ≡ looks_to o p number c
looks_so o p number c shelves e = rw shelves (sym e)

-- Refused: the store stays.
pub done_refused : {o : Opening} {left : ℕ} {shape : Shape} {w : State} {number : ℕ} {command : Command} {reason : ItemReason} {looks : ℕ} → Sound o shape w
    → ((p : Packing) → Represents o w p → answer_to o left p number command ≡ Refused reason) → ((p : Packing) → Represents o w p → looks ≡ looks_to o p number command)
    → Done o left shape w number command (answering number (Refused reason)) looks w
done_refused sound m l = record {
  sound = sound;
  numbered = refl;
  model = λ p r. record { answered = sym (m p r); looked = l p r; represents = rw (m p r) r };
  refused = λ _ _. refl;
}

-- The notes with that of an item which lies at a place.
abbrev noting : (notes : List Note) (number place size low : ℕ) → List Note
noting notes number place size low = set notes number (record { bin = place + 1; size = size; least = low; greatest = size })

-- Placed in a spot that is the model's: the item is entered in the ledger and noted, and then the row is shown. The command shelves it, and has no fault;
-- the word `low` is noted for the least.
module _ {o : Opening} {left : ℕ} {k : Counters} {n : ℕ} (c : Command) (shelves : shelves_item c ≡ true) (faultless : fault c ≡ None) {size : ℕ} (sized : size ≡ stored o (size_of c)) (a : Aimed o k size n) (low : ℕ)
    (told : least_by low ≡ least_of o c) {s : Spot} {shape : Shape} {t u : List ℕ} {ledger ledger' : List Row} {notes : List Note} {row : Row}
    (e : Entered ledger s.place (home n) s.free (a_for n) row ledger') (d : Shown shape t s.place row u) (inside : s.place < places) (number looks : ℕ) where
  module _ {p : Packing} (r : Represents o (state_of t ledger notes k) p) (m : IsSpot o left p number size (least_of o c) n s) where
    entry : IsEntry o p (item number size (least_of o c)) s.place (home n) s.free (a_for n)
    entry = record { whole = refl; fits = a.fits; place_is = m.place_is; class_is = sym m.class_is; free_is = m.free_is; a_is = a_more a number (least_of o c) }

    modelled : number < numbers → (note_at notes number).bin ≡ 0 → looks ≡ looks_to o p number c
        → Modelled o left number c (Placed (s.place + 1) s.free) looks (state_of u ledger' (noting notes number s.place size low) (accepting n s.opened o.m k)) p
    modelled numbered new looked =
        let i = item number size (least_of o c) in
        let it : item_of o number c ≡ i = ap (λ size. item number size (least_of o c)) (sym sized) in
        let goes : decision o p i left (fault c) ≡ into (bin_for o p i) =
        decides o p i left (fault c) _ (goes_in (record { faultless = faultless; within_capacity = a.fits; not_spent = m.in_stock })) in
        let bin : s.place + 1 ≡ bin_for o p i = omega (arith, m.place_is) in
        let answered : answer_to o left p number c ≡ Placed (bin_for o p i) (free_on o (bin_for o p i) (placed o p i)) =
        answered_so o left p number c shelves ∙ ap (λ i. toldAs o (placed o p i) (decision o p i left (fault c))) it ∙ ap (toldAs o (placed o p i)) goes in
        record {
          looked = looked;
          answered = rw (answered, free_left o p i, ← m.free_is) (ap (λ bin. Placed bin s.free) bin);
          represents =
              rw (answered, does_so o p number c shelves, it)
              (record {
                bins = m.opened_is ∙ sym (opened_placed o p i);
                b2s = phase_after_lem a r number (least_of o c);
                items = omega (arith, r.items, held_placed o p i);
                records = records_placed r.records inside entry e;
                noted = noted_placed o r.noted number size low (s.place + 1) numbered new told bin;
              });
        }

    -- The place had no bin, or one of this class.
    class_before : ((row_at ledger s.place).class ≡ 0) ⊎ ((row_at ledger s.place).class ≡ row.class)
    class_before =
        let new : row.class ≡ home n = ap (λ (row : Row). row.class) e.row_is in
        ⊎_elim inl (λ same. inr (same ∙ m.class_is ∙ sym new)) (row_before r.records inside entry).class

  pub done_placed : Ready o left shape number (state_of t ledger notes k) → Spotted o left shape (state_of t ledger notes k) number size (least_of o c) n s
      → ((p : Packing) → Represents o (state_of t ledger notes k) p → looks ≡ looks_to o p number c)
      → Done o left shape (state_of t ledger notes k) number c (answering number (Placed (s.place + 1) s.free)) looks
      (state_of u ledger' (noting notes number s.place size low) (accepting n s.opened o.m k))
  done_placed ready w looked =
      let sound = ready.sound in
      let then = sound.represents in
      let there = w.model sound.packing then in
      record {
        sound = record {
          index = rw e.ledger_is (indexes_set sound.index (omega (arith, then.records.whole)) (class_before then there) d);
          fitted = sound.fitted;
          capacity = sound.capacity;
          within = w.stock;
          phase = phase_few a;
          b2 = refl;
          packing = next o left sound.packing number c;
          represents = (modelled then there ready.numbered ready.new (looked sound.packing then)).represents;
        };
        numbered = refl;
        model = λ p r. modelled r (w.model p r) ready.numbered ready.new (looked p r);
        refused = λ reason e. clash (cc);
      }
