-- The bin that holds the item which a note tells of; and the ledger once this bin is made another and its row is written: it then records the bins so.
use mathlib.Core.Path.{◌≡◌, refl, sym, ap, ◌∙◌}
use mathlib.Core.List.{List, [], ◌∷◌, map, Memᴰ}
use Prim.Native.Nat.{ℕ, zero, suc, ◌-◌, ◌<◌}
use native.Mathlib.Decide.{ℕ_discrete}
use native.Mathlib.Omega.{arith}
use lib.ListN.{length, get_or, set, length-set}
use lib.Seq.{get_or-set_same, get_or-set_other}
use Rattle.packing.specs.declared.Opening.{Opening}
use Rattle.packing.specs.Prelude.{total, keep}
use Rattle.packing.specs.Bins.{Item, Bin, Packing, free_on}
use Rattle.packing.specs.Claims.{SoundBin}
use Rattle.packing.specs.Withdrawing.{is_named}
use Rattle.packing.proofs.Putting.{fresh}
use Rattle.ledger.specs.declared.{Row.Row, Note.Note}
use Rattle.ledger.specs.Rows.{places, blank, row_at}
use Rattle.ledger.specs.Notes.{note_at, noted_item, Noted}
use Rattle.ledger.specs.Records.{row_of, Records}
use Rattle.ledger.proofs.Offering.{bin_row}
use Rattle.ledger.proofs.Noting.{lies_there, lies_nowhere_else, present}

-- The bin at a place.
abbrev pub bin_at : Packing → (place : ℕ) → Bin
bin_at p place = get_or p.bins place (fresh 0)

each_there : (P : Bin → Type 0) (new : Bin) (bins : List Bin) (j : ℕ) → j < length bins → ((b : Bin) → Memᴰ b bins → P b) → P (get_or bins j new)
each_there P new [] j l h = absurd (omega arith)
each_there P new (b ∷ bs) zero l h = h b (Memᴰ.head refl)
each_there P new (b ∷ bs) (suc j) l h = each_there P new bs j (omega arith) (λ x m. h x (Memᴰ.tail m))

items_there : (new : Bin) (bins : List Bin) (j : ℕ) → j < length bins → get_or (map (λ b. b.items) bins) j [] ≡ (get_or bins j new).items
items_there new [] j l = absurd (omega arith)
items_there new (b ∷ bs) zero l = refl
items_there new (b ∷ bs) (suc j) l = items_there new bs j (omega arith)

-- Each bin is made another: a fact of the one at a place, and its items.
module _ (f : Bin → Bin) where
  made_at : (o : Opening) (new : Bin) (bins : List Bin) (j : ℕ) → j < length bins → get_or (map (row_of o) (map f bins)) j blank ≡ row_of o (f (get_or bins j new))
  made_at o new [] j l = absurd (omega arith)
  made_at o new (b ∷ bs) zero l = refl
  made_at o new (b ∷ bs) (suc j) l = made_at o new bs j (omega arith)

  items_made : (new : Bin) (bins : List Bin) (j : ℕ) → j < length bins → get_or (map (λ b. b.items) (map f bins)) j [] ≡ (f (get_or bins j new)).items
  items_made new [] j l = absurd (omega arith)
  items_made new (b ∷ bs) zero l = refl
  items_made new (b ∷ bs) (suc j) l = items_made new bs j (omega arith)

  -- One that holds no item of the number stays as it is.
  untouched_at : (o : Opening) (number : ℕ) → ((b : Bin) → keep (is_named number) b.items ≡ [] → f b ≡ b) → (bins : List Bin) (j : ℕ)
      → keep (is_named number) (get_or (map (λ b. b.items) bins) j []) ≡ [] → get_or (map (row_of o) (map f bins)) j blank ≡ get_or (map (row_of o) bins) j blank
  untouched_at o number stays [] j e = refl
  untouched_at o number stays (b ∷ bs) zero e = ap (row_of o) (stays b e)
  untouched_at o number stays (b ∷ bs) (suc j) e = untouched_at o number stays bs j e

module _ {o : Opening} {ledger : List Row} {notes : List Note} {p : Packing} (k : Records o ledger p) (t : Noted notes p) (number place : ℕ)
    (there : (note_at notes number).bin ≡ suc place) (inside : place < places) where
  here : place < length p.bins
  here = (present number t place there).there

  -- What is known of the bin: the item is the one that it holds of the number, its row is its own, and it is sound.
  pub holds_one : keep (is_named number) (bin_at p place).items ≡ noted_item number (note_at notes number) ∷ []
  holds_one = ap (keep (is_named number)) (sym (items_there (fresh 0) p.bins place here)) ∙ lies_there number t place there

  pub holder_row : row_at ledger place ≡ row_of o (bin_at p place)
  holder_row = k.row place inside ∙ bin_row o (fresh 0) p.bins place here

  pub holder_sound : SoundBin o (bin_at p place)
  holder_sound = each_there (SoundBin o) (fresh 0) p.bins place here k.sound

  -- The bins are made others by what leaves each alone that does not hold the item, and the new row of the one that does is written.
  module _ (f : Bin → Bin) (stays : (b : Bin) → keep (is_named number) b.items ≡ [] → f b ≡ b) (q : Packing) (made : q.bins ≡ map f p.bins) {row : Row}
      (own : row ≡ row_of o (f (bin_at p place))) where
    pub free_made : row.free ≡ free_on o (suc place) q
    free_made =
        ap (λ (row : Row). row.free) own
        ∙ ap (λ (items : List Item). o.capacity - total (map (λ i. i.size) items))
        (sym (ap (λ (bins : List Bin). get_or (map (λ b. b.items) bins) place []) made ∙ items_made f (fresh 0) p.bins place here))

    pub records_made : {ledger' : List Row} → ledger' ≡ set ledger place row → ((b : Bin) → Memᴰ b q.bins → SoundBin o b) → Records o ledger' q
    records_made written sound = record {
      whole = ap length written ∙ length-set ledger place row ∙ k.whole;
      row = λ j l. ap (λ (rows : List Row). row_at rows j) written ∙ then j l ∙ sym (ap (λ (bins : List Bin). get_or (map (row_of o) bins) j blank) made);
      sound = sound;
    }
      where
        then : (j : ℕ) → j < places → row_at (set ledger place row) j ≡ get_or (map (row_of o) (map f p.bins)) j blank
        then j l = elim (ℕ_discrete j place) [
          | yes q ↦ rw q (get_or-set_same ledger place row blank (omega (arith, k.whole)) ∙ own ∙ sym (made_at f o (fresh 0) p.bins place here))
          | no q ↦ get_or-set_other ledger place j row blank q ∙ k.row j l ∙ sym (untouched_at f o number stays p.bins j (lies_nowhere_else number t place there j q))
        ]
