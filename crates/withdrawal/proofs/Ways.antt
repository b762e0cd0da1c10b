-- The ways out of a withdrawal, each a law over what the code knows there, whatever is left of the stock. None takes a look.
use mathlib.Core.Path.{◌≡◌, refl, sym, ap, ◌∙◌}
use mathlib.Core.Logic.{inr}
use mathlib.Core.Bool.{true, false}
use mathlib.Core.List.{List}
use Prim.Native.Nat.{ℕ, suc, ◌-◌, ◌≤◌, ◌<◌}
use native.Mathlib.Omega.{arith}
use lib.ListN.{set}
use Rattle.packing.specs.declared.{Opening.Opening}
use Rattle.packing.specs.declared.Outcome.TheVariants.{Withdrawn, Refused}
use Rattle.packing.specs.declared.Command.TheVariants.{Withdraw}
use Rattle.packing.specs.declared.ItemReason.TheVariants.{NotShelved}
use Rattle.packing.specs.Prelude.{any}
use Rattle.packing.specs.Bins.{Packing, free_on}
use Rattle.packing.specs.Withdrawing.{holds_named, bin_holding, without, withdrawal}
use Rattle.packing.specs.Run.{next}
use Rattle.packing.proofs.Tests.{clash}
use Rattle.packing.proofs.Reached.{opened_without}
use Rattle.tournament.specs.declared.Shape.{Shape}
use Rattle.aim.specs.declared.Counters.{Counters}
use Rattle.aim.specs.Aims.{withdrawing}
use Rattle.ledger.specs.declared.{Row.Row, Note.Note}
use Rattle.ledger.specs.Rows.{places, row_at}
use Rattle.ledger.specs.Notes.{numbers, unnoted, note_at, noted_item}
use Rattle.ledger.specs.Leaving.{Leavable, HasLeft}
use Rattle.ledger.proofs.Entering.{one_a}
use Rattle.ledger.proofs.Offering.{offers_most}
use Rattle.ledger.proofs.Noting.{absent, past_notes as none-past, present, bin_is, noted_without}
use Rattle.ledger.proofs.Leaving.{can_leave, held_without, class_kept, class_good, free_then, records_without}
use Rattle.index.specs.Shown.{Freed, Shown}
use Rattle.index.proofs.Indexing.{indexes_set}
use Rattle.engine.specs.Store.{State, Represents}
use Rattle.engine.specs.Done.{answering, Modelled, Done}
use Rattle.engine.proofs.States.{state_of}
use Rattle.withdrawal.specs.Lying.{Lies}

-- 17, and what else.
refused_as : (o : Opening) (p : Packing) (named : ℕ) → any (holds_named named) p.bins ≡ false → withdrawal o p named ≡ Refused NotShelved
unfolding withdrawal
refused_as o p named e = rw e

withdrawn_as : (o : Opening) (p : Packing) (named : ℕ) → any (holds_named named) p.bins ≡ true
    → withdrawal o p named ≡ Withdrawn (bin_holding named p) (free_on o (bin_holding named p) (without named p))
unfolding withdrawal
withdrawn_as o p named e = rw e

-- No note has a bin of the number.
pub no_bin : {o : Opening} {s : State} {p : Packing} → Represents o s p → (named : ℕ) → (note_at s.store.notes named).bin ≡ 0 → withdrawal o p named ≡ Refused NotShelved
no_bin {o = o} {p = p} r named e = refused_as o p named (absent named r.noted e)

-- A number past the notes.
pub past_notes : {o : Opening} {s : State} {p : Packing} → Represents o s p → (named : ℕ) → numbers ≤ named → withdrawal o p named ≡ Refused NotShelved
past_notes r named l = no_bin r named (none-past named r.noted l)

-- The item lies in a bin.
module _ {o : Opening} {shape : Shape} {named : ℕ} {t : List ℕ} {ledger : List Row} {notes : List Note} {c : Counters} (h : Lies o shape named (state_of t ledger notes c)) where
  -- Its bin has this place, and it has this size.
  abbrev place : ℕ
  place = (note_at notes named).bin - 1

  abbrev size : ℕ
  size = (note_at notes named).size

  there : (note_at notes named).bin ≡ suc place
  there = omega (arith, h.in_a_bin)

  -- What is known before it is taken out: the place is one of the stock's and of the trees', and the row can give an item.
  pub in_stock : place < o.stock
  in_stock = omega (arith, (present named h.sound.represents.noted place there).there, h.sound.represents.bins, h.sound.within)

  pub inside : place < places
  inside = omega (arith, in_stock, h.sound.fitted.enough, h.sound.index.forest.few)

  pub leavable : Leavable ledger place size (one_a o (noted_item named (note_at notes named)))
  leavable = can_leave h.sound.represents.records h.sound.represents.noted named place there inside h.sound.capacity

  pub some_held : 1 ≤ c.items
  some_held = omega (arith, h.sound.represents.items, held_without h.sound.represents.records h.sound.represents.noted named place there inside)

  -- It has left its bin, and the row is shown.
  module _ {row : Row} {ledger' : List Row} (d : HasLeft ledger place size (one_a o (noted_item named (note_at notes named))) row ledger') where
    -- The row is that of a bin, and its place shows what was free before, if the tree of its class shows anything there.
    pub freed : Freed shape t place row
    freed =
        let then = h.sound.represents in
        let class = class_good then.records then.noted named place there inside d in
        let within : place < shape.places = omega (arith, in_stock, h.sound.fitted.enough) in
        record {
          showable = record { forest = h.sound.index.forest; inside = within; classed = class.0; class_few = class.1 };
          rises =
              omega (arith, h.sound.index.leaf row.class place class.1 within, offers_most row.class (row_at ledger place), ap (λ (row : Row). row.free) d.row_is);
        }

    module _ {u : List ℕ} (shown : Shown shape t place row u) (number left : ℕ) where
      modelled : (p : Packing) → Represents o (state_of t ledger notes c) p
          → Modelled o left number (Withdraw named) (Withdrawn (note_at notes named).bin row.free) 0 (state_of u ledger' (set notes named unnoted) (withdrawing c)) p
      unfolding without
      modelled p r =
          let first = present named r.noted place there in
          let came = withdrawn_as o p named first.some in
          let bin = bin_is named r.noted place there in
          record {
            looked = refl;
            answered =
                ap (λ n. Withdrawn n row.free) there ∙ ap (Withdrawn (suc place)) (free_then r.records r.noted named place there inside d)
                ∙ ap (λ n. Withdrawn n (free_on o n (without named p))) (sym bin) ∙ sym came;
            represents =
                rw came
                (record {
                  bins = r.bins ∙ sym (opened_without o named p);
                  b2s = r.b2s;
                  items = omega (arith, r.items, held_without r.records r.noted named place there inside);
                  records = records_without r.records r.noted named place there inside d;
                  noted = noted_without r.noted named h.numbered;
                });
          }

      pub done_withdrawn : Done o left shape (state_of t ledger notes c) number (Withdraw named) (answering number (Withdrawn (note_at notes named).bin row.free)) 0
          (state_of u ledger' (set notes named unnoted) (withdrawing c))
      done_withdrawn =
          let sound = h.sound in
          let then = sound.represents in
          record {
            sound = record {
              index =
                  rw d.ledger_is
                  (indexes_set sound.index (omega (arith, then.records.whole, inside)) (inr (class_kept then.records then.noted named place there inside d)) shown);
              fitted = sound.fitted;
              capacity = sound.capacity;
              within = sound.within;
              phase = sound.phase;
              b2 = sound.b2;
              packing = next o left sound.packing number (Withdraw named);
              represents = (modelled sound.packing then).represents;
            };
            numbered = refl;
            model = modelled;
            refused = λ reason e. clash (cc);
          }
