-- The ways out of a settling, each a law over what the code knows there, whatever is left of the stock. None takes a look.
use mathlib.Core.Path.{◌≡◌, refl, sym, ap, ◌∙◌}
use mathlib.Core.Logic.{◌⊎◌, inl, inr}
use mathlib.Core.Bool.{true, false}
use mathlib.Core.List.{List}
use Prim.Native.Nat.{ℕ, suc, ◌-◌, ◌≤◌, ◌<◌}
use native.Mathlib.Omega.{arith}
use native.Mathlib.Decide.{dec_le}
use borrow.Author.Tests.{le-leb, leb-true, leb-false}
use lib.Dec.{leb}
use lib.ListN.{set}
use Rattle.packing.specs.declared.{Opening.Opening}
use Rattle.packing.specs.declared.Outcome.TheVariants.{Settled, Refused}
use Rattle.packing.specs.declared.Command.TheVariants.{Settle}
use Rattle.packing.specs.declared.ItemReason.TheVariants.{NotReserved, OutsideRange}
use Rattle.packing.specs.Prelude.{any}
use Rattle.packing.specs.Bins.{Packing, free_on, stored, holds, in_range}
use Rattle.packing.specs.Withdrawing.{bin_holding}
use Rattle.packing.specs.Settling.{awaits, admits, settling, settlement}
use Rattle.packing.specs.Run.{next}
use Rattle.packing.proofs.Tests.{clash, both_true}
use Rattle.packing.proofs.Reached.{opened_settling}
use Rattle.tournament.specs.declared.Shape.{Shape}
use Rattle.aim.specs.declared.Counters.{Counters}
use Rattle.ledger.specs.declared.{Row.Row, Note.Note}
use Rattle.ledger.specs.Rows.{places, row_at}
use Rattle.ledger.specs.Notes.{numbers, note_at, noted_item, settled_note}
use Rattle.ledger.specs.Settling.{Settleable, HasSettled}
use Rattle.ledger.proofs.Offering.{offers_most}
use Rattle.ledger.proofs.Noting.{past_notes as none-past, present, bin_is}
use Rattle.ledger.proofs.Few.{held_settled}
use Rattle.ledger.proofs.Settling.{not_reserved, reserved, outside_range, within_range, range_by_words, noted_settled, size_less, size_few, can_settle, class_remains, class_one_of_four, free_settled, records_settled}
use Rattle.index.specs.Shown.{Freed, Shown}
use Rattle.index.proofs.Indexing.{indexes_set}
use Rattle.engine.specs.Store.{State, Represents}
use Rattle.engine.specs.Done.{answering, Modelled, Done}
use Rattle.engine.proofs.States.{state_of}
use Rattle.settlement.specs.Waiting.{in_words, Waits, Fits}

-- 20, 21, and what else.
not_reserved_as : (o : Opening) (p : Packing) (named size : ℕ) → any (holds (awaits named)) p.bins ≡ false → settlement o p named size ≡ Refused NotReserved
unfolding settlement
not_reserved_as o p named size e = rw e

outside_as : (o : Opening) (p : Packing) (named size : ℕ) → any (holds (awaits named)) p.bins ≡ true → any (holds (admits named size)) p.bins ≡ false
    → settlement o p named size ≡ Refused OutsideRange
unfolding settlement
outside_as o p named size e f = rw (e, f)

settled_as : (o : Opening) (p : Packing) (named size : ℕ) → any (holds (awaits named)) p.bins ≡ true → any (holds (admits named size)) p.bins ≡ true
    → settlement o p named size ≡ Settled (bin_holding named p) (free_on o (bin_holding named p) (settling named size p))
unfolding settlement
settled_as o p named size e f = rw (e, f)

-- The note of the number has no bin, or no least.
pub no_least : {o : Opening} {s : State} {p : Packing} → Represents o s p → (named size : ℕ) → ((note_at s.store.notes named).bin ≡ 0) ⊎ ((note_at s.store.notes named).least ≡ 0)
    → settlement o p named size ≡ Refused NotReserved
no_least {o = o} {p = p} r named size e = not_reserved_as o p named size (not_reserved r.noted named e)

-- A number past the notes.
pub past_notes : {o : Opening} {s : State} {p : Packing} → Represents o s p → (named size : ℕ) → numbers ≤ named → settlement o p named size ≡ Refused NotReserved
past_notes r named size l = no_least r named size (inl (none-past named r.noted l))

-- The item waits, and the size is outside its range.
pub outside : {o : Opening} {shape : Shape} {named : ℕ} {s : State} {p : Packing} → Waits o shape named s → Represents o s p → (size : ℕ)
    → (size < (note_at s.store.notes named).least) ⊎ ((note_at s.store.notes named).greatest < size) → settlement o p named size ≡ Refused OutsideRange
outside {o = o} {named = named} {p = p} h r size e =
    outside_as o p named size (reserved r.noted named h.in_a_bin h.unsettled) (outside_range r.noted named size e)

-- By the words of the note.
pub outside_words : (note : Note) (size : ℕ) → in_words note size ≡ false → (size < note.least) ⊎ (note.greatest < size)
outside_words note size e = elim (dec_le note.least size) [
  | yes l ↦ inr (omega (arith, leb-false size note.greatest (rw (le-leb note.least size l) at e)))
  | no l ↦ inl (omega (arith, l))
]

pub within_words : {o : Opening} {shape : Shape} {named : ℕ} {s : State} → Waits o shape named s → (size : ℕ) → in_words (note_at s.store.notes named) (stored o size) ≡ true
    → Fits o shape named size s
within_words {o = o} {named = named} {s = s} h size e =
    let note = note_at s.store.notes named in
    let both = both_true (leb note.least (stored o size)) (leb (stored o size) note.greatest) e in
    record { waits = h; from_least = leb-true note.least (stored o size) both.0; to_greatest = leb-true (stored o size) note.greatest both.1 }

-- The size is within it.
module _ {o : Opening} {shape : Shape} {named size : ℕ} {t : List ℕ} {ledger : List Row} {notes : List Note} {c : Counters} (h : Fits o shape named size (state_of t ledger notes c)) where
  -- The place of its bin, and what it frees.
  abbrev place : ℕ
  place = (note_at notes named).bin - 1

  abbrev freed : ℕ
  freed = (note_at notes named).size - stored o size

  there : (note_at notes named).bin ≡ suc place
  there = omega (arith, h.waits.in_a_bin)

  within : in_range (stored o size) (noted_item named (note_at notes named)) ≡ true
  within = range_by_words named (note_at notes named) (stored o size) h.waits.unsettled h.from_least h.to_greatest

  -- What is known before it is settled: the place is one of the stock's and of the trees', and the row can be freed so much.
  pub in_stock : place < o.stock
  in_stock = let sound = h.waits.sound in omega (arith, (present named sound.represents.noted place there).there, sound.represents.bins, sound.within)

  pub inside : place < places
  inside = let sound = h.waits.sound in omega (arith, in_stock, sound.fitted.enough, sound.index.forest.few)

  pub frees : stored o size ≤ (note_at notes named).size
  frees = let now = h.waits.sound.represents in size_less now.records now.noted named place (stored o size) there inside within

  pub counted_few : (note_at notes named).size ≤ o.capacity
  counted_few = let now = h.waits.sound.represents in size_few now.records now.noted named place (stored o size) there inside within

  pub settleable : Settleable ledger place freed
  settleable =
      let sound = h.waits.sound in
      can_settle sound.represents.records sound.represents.noted named place (stored o size) there inside within sound.capacity

  -- The row has so much more free, and is shown.
  module _ {row : Row} {ledger' : List Row} (d : HasSettled ledger place freed row ledger') where
    -- The row is that of a bin, and its place shows what was free before, if the tree of its class shows anything there.
    pub rises : Freed shape t place row
    rises =
        let sound = h.waits.sound in
        let now = sound.represents in
        let class = class_one_of_four now.records now.noted named place (stored o size) there inside within d in
        let in-trees : place < shape.places = omega (arith, in_stock, sound.fitted.enough) in
        record {
          showable = record { forest = sound.index.forest; inside = in-trees; classed = class.0; class_few = class.1 };
          rises =
              omega (arith, sound.index.leaf row.class place class.1 in-trees, offers_most row.class (row_at ledger place), ap (λ (row : Row). row.free) d.row_is);
        }

    module _ {u : List ℕ} (shown : Shown shape t place row u) (number left : ℕ) where
      modelled : (p : Packing) → Represents o (state_of t ledger notes c) p
          → Modelled o left number (Settle named size) (Settled (note_at notes named).bin row.free) 0
          (state_of u ledger' (set notes named (settled_note (stored o size) (note_at notes named))) c) p
      unfolding settling
      modelled p r =
          let s = stored o size in
          let came =
          settled_as o p named s (reserved r.noted named h.waits.in_a_bin h.waits.unsettled) (within_range r.noted named s h.waits.in_a_bin within) in
          let bin = bin_is named r.noted place there in
          record {
            looked = refl;
            answered =
                ap (λ n. Settled n row.free) there ∙ ap (Settled (suc place)) (free_settled r.records r.noted named place s there inside within d)
                ∙ ap (λ n. Settled n (free_on o n (settling named s p))) (sym bin) ∙ sym came;
            represents =
                rw came
                (record {
                  bins = r.bins ∙ sym (opened_settling o named s p);
                  b2s = r.b2s;
                  items = r.items ∙ sym (held_settled named s p);
                  records = records_settled r.records r.noted named place s there inside within d;
                  noted = noted_settled r.noted named s h.waits.numbered within;
                });
          }

      pub done_settled : Done o left shape (state_of t ledger notes c) number (Settle named size) (answering number (Settled (note_at notes named).bin row.free)) 0
          (state_of u ledger' (set notes named (settled_note (stored o size) (note_at notes named))) c)
      done_settled =
          let sound = h.waits.sound in
          let now = sound.represents in
          record {
            sound = record {
              index =
                  rw d.ledger_is
                  (indexes_set sound.index (omega (arith, now.records.whole, inside))
                  (inr (class_remains now.records now.noted named place (stored o size) there inside within d)) shown);
              fitted = sound.fitted;
              capacity = sound.capacity;
              within = sound.within;
              phase = sound.phase;
              b2 = sound.b2;
              packing = next o left sound.packing number (Settle named size);
              represents = (modelled sound.packing now).represents;
            };
            numbered = refl;
            model = modelled;
            refused = λ reason e. clash (cc);
          }
