-- The item that a note tells of is taken out: the ledger then records the packing without it.
use mathlib.Core.Path.{◌≡◌, refl, sym, ap, ◌∙◌}
use mathlib.Core.List.{List, [], ◌∷◌, map}
use Prim.Native.Nat.{ℕ, zero, suc, ◌+◌, ◌≤◌, ◌<◌}
use native.Mathlib.Omega.{arith}
use lib.ListN.{length, get_or}
use Rattle.packing.specs.declared.Opening.{Opening}
use Rattle.packing.specs.Prelude.{total, keep}
use Rattle.packing.specs.SizeClasses.{is_a}
use Rattle.packing.specs.Bins.{Item, Bin, Packing, load, kind, free_on}
use Rattle.packing.specs.Withdrawing.{is_named, emptied_of, without}
use Rattle.packing.proofs.Tests.{clash}
use Rattle.packing.proofs.Keeping.{keep_others}
use Rattle.packing.proofs.Weights.{total_split, total_ones, one_for, total_passing}
use Rattle.packing.proofs.Reached.{sound_without}
use Rattle.ledger.specs.declared.{Row.Row, Note.Note}
use Rattle.ledger.specs.Rows.{places, row_at}
use Rattle.ledger.specs.Notes.{note_at, noted_item, Noted}
use Rattle.ledger.specs.Records.{held_a, row_of, items_held, Records}
use Rattle.ledger.specs.Leaving.{leaving, Leavable, HasLeft}
use Rattle.ledger.proofs.Entering.{one_a, same_row}
use Rattle.ledger.proofs.Noting.{lies_there, lies_nowhere_else}
use Rattle.ledger.proofs.Holder.{bin_at, holds_one, holder_row, holder_sound, free_made, records_made}

module _ (number : ℕ) where
  -- Of a bin that holds one item of the number: what it weighs without it.
  module _ (b : Bin) (i : Item) (one : keep (is_named number) b.items ≡ i ∷ []) where
    pub weight_less : (w : Item → ℕ) → total (map w b.items) ≡ w i + total (map w (emptied_of number b).items)
    unfolding total
    weight_less w = omega (arith, total_split w (is_named number) b.items, ap (λ l. total (map w l)) one)

    held_less : length b.items ≡ 1 + length (emptied_of number b).items
    held_less = omega (arith, weight_less (λ j. 1), total_ones b.items, total_ones (emptied_of number b).items)

    held_a_less : (o : Opening) → held_a o b ≡ one_a o i + held_a o (emptied_of number b)
    held_a_less o =
        let a : Item → _ = λ j. is_a (kind o j) in
        omega (arith, weight_less (one_for a), total_passing a b.items, total_passing a (emptied_of number b).items)

    row_less : (o : Opening) → load b ≤ o.capacity → leaving i.size (one_a o i) (row_of o b) ≡ row_of o (emptied_of number b)
    row_less o h = same_row refl (omega (arith, weight_less (λ j. j.size))) (omega (arith, held_less)) (omega (arith, held_a_less o))

  -- A bin that holds none of it is the same without it.
  same_without : (b : Bin) → keep (is_named number) b.items ≡ [] → emptied_of number b ≡ b
  same_without b e = ap (λ items. record { class = b.class; items = items }) (keep_others (is_named number) b.items e)

  -- The bins hold as many without the number as before, or one less if one of them holds one item of it.
  held_none : (bins : List Bin) → ((j : ℕ) → keep (is_named number) (get_or (map (λ b. b.items) bins) j []) ≡ [])
      → total (map (λ b. length b.items) bins) ≡ total (map (λ b. length b.items) (map (emptied_of number) bins))
  unfolding total
  held_none [] h = refl
  held_none (b ∷ bs) h = omega (arith, ap length (keep_others (is_named number) b.items (h 0)), held_none bs (λ j. h (suc j)))

  held_one : (bins : List Bin) (place : ℕ) (i : Item) → keep (is_named number) (get_or (map (λ b. b.items) bins) place []) ≡ i ∷ []
      → ((j : ℕ) → (j ≡ place → ⊥) → keep (is_named number) (get_or (map (λ b. b.items) bins) j []) ≡ [])
      → total (map (λ b. length b.items) bins) ≡ total (map (λ b. length b.items) (map (emptied_of number) bins)) + 1
  unfolding total keep
  held_one [] place i e h = clash (cc)
  held_one (b ∷ bs) zero i e h = omega (arith, held_less b i e, held_none bs (λ j. h (suc j) (λ q. omega arith)))
  held_one (b ∷ bs) (suc place) i e h =
      omega (
        arith,
        ap length (keep_others (is_named number) b.items (h 0 (λ q. omega arith))),
        held_one bs place i e (λ j z. h (suc j) (λ q. z (omega (arith, q)))),
      )

module _ {o : Opening} {ledger : List Row} {notes : List Note} {p : Packing} (k : Records o ledger p) (t : Noted notes p) (number place : ℕ)
    (there : (note_at notes number).bin ≡ suc place) (inside : place < places) where
  -- The bin, and the item that it holds.
  abbrev left : Bin
  left = bin_at p place

  abbrev taken : Item
  taken = noted_item number (note_at notes number)

  one : keep (is_named number) left.items ≡ taken ∷ []
  one = holds_one k t number place there inside

  row_there : row_at ledger place ≡ row_of o left
  row_there = holder_row k t number place there inside

  few : load left ≤ o.capacity
  few = (holder_sound k t number place there inside).not_overfull

  pub can_leave : o.capacity ≤ 16_777_216 → Leavable ledger place taken.size (one_a o taken)
  can_leave most = record {
    inside = inside;
    room = omega (arith, ap (λ (row : Row). row.free) row_there, weight_less number left taken one (λ j. j.size), few);
    some = omega (arith, ap (λ (row : Row). row.held) row_there, held_less number left taken one);
    some_a = omega (arith, ap (λ (row : Row). row.held_a) row_there, held_a_less number left taken one o);
  }

  -- One item less is held.
  pub held_without : items_held p ≡ items_held (without number p) + 1
  unfolding without
  held_without = held_one number p.bins place taken (lies_there number t place there) (lies_nowhere_else number t place there)

  module _ {row : Row} {ledger' : List Row} (d : HasLeft ledger place taken.size (one_a o taken) row ledger') where
    row_left : row ≡ row_of o (emptied_of number left)
    row_left = d.row_is ∙ ap (leaving taken.size (one_a o taken)) row_there ∙ row_less number left taken one o few

    -- The bin keeps its class, which is one of the four.
    pub class_kept : (row_at ledger place).class ≡ row.class
    class_kept = sym (ap (λ (row : Row). row.class) d.row_is)

    pub class_good : (1 ≤ row.class) × (row.class < 5)
    class_good =
        let sound = holder_sound k t number place there inside in
        omega (arith, ap (λ (row : Row). row.class) row_left, sound.from_class_1, sound.to_class_4)

    -- What is then free on it.
    pub free_then : row.free ≡ free_on o (suc place) (without number p)
    unfolding without
    free_then = free_made k t number place there inside (emptied_of number) (same_without number) (without number p) refl row_left

    pub records_without : Records o ledger' (without number p)
    unfolding without
    records_without =
        records_made k t number place there inside (emptied_of number) (same_without number) (without number p) refl row_left d.ledger_is (sound_without o number p k.sound)
