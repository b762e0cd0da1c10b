-- What the notes tell of the bins: where the item of a number lies, if it is on the shelf, and what it is; and that they follow an item that is placed and
-- one that is taken out.
use mathlib.Core.Path.{◌≡◌, refl, sym, ap, ◌∙◌}
use mathlib.Core.Bool.{Bool, true, false, not, ◌&&◌, and_self, or-false, true≢false}
use mathlib.Core.List.{List, [], ◌∷◌, map}
use Rattle.std.specs.Prelude.{Option, Some}
use Prim.Native.Nat.{ℕ, zero, suc, ◌≤◌, ◌<◌}
use native.Mathlib.Decide.{ℕ_discrete}
use native.Mathlib.Omega.{arith}
use borrow.Author.Tests.{eqb-true, eq-eqb, ne_eqb}
use lib.Dec.{eqb}
use lib.ListN.{length, get_or, set, length-set, get_or-eq_default}
use lib.Seq.{get_or-set_same, get_or-set_other}
use Rattle.packing.specs.declared.Opening.{Opening}
use Rattle.std.specs.Prelude.{if◌then◌else◌}
use Rattle.packing.specs.Prelude.{any, keep}
use Rattle.packing.specs.Bins.{Item, Bin, Packing, items_of, holds}
use Rattle.packing.specs.Placing.{first_fit, bin_for, placed}
use Rattle.packing.specs.Withdrawing.{is_named, holds_named, bin_holding, without}
use Rattle.packing.specs.Sending.{item}
use Rattle.packing.proofs.Tests.{clash}
use Rattle.packing.proofs.Searching.{any_stays}
use Rattle.packing.proofs.Keeping.{keep_within, keep_apart}
use Rattle.packing.proofs.Holding.{grown, placed_items, without_items}
use Rattle.ledger.specs.declared.Note.{Note}
use Rattle.ledger.specs.Notes.{numbers, unnoted, note_at, least_by, noted_item, Noted}
use Rattle.ledger.proofs.Offering.{any_keep}

module _ (number : ℕ) where
  -- What the bin at a place holds of the number.
  abbrev of_it : (bins : List Bin) (place : ℕ) → List Item
  of_it bins place = keep (is_named number) (get_or (map (λ b. b.items) bins) place [])

  -- A test that no item of another number passes: the bins hold one that does exactly where what they hold of the number does.
  module _ (test : Item → Bool) (its_own : (i : Item) → (is_named number i && test i) ≡ test i) where
    none_holds : (bins : List Bin) → ((place : ℕ) → of_it bins place ≡ []) → any (holds test) bins ≡ false
    unfolding any
    none_holds [] h = refl
    none_holds (b ∷ bs) h = rw (← any_stays test (is_named number) its_own b.items, h 0) (none_holds bs (λ place. h (suc place)))

    one_holds : (i : Item) (bins : List Bin) (place : ℕ) → of_it bins place ≡ i ∷ [] → ((j : ℕ) → (j ≡ place → ⊥) → of_it bins j ≡ []) → any (holds test) bins ≡ test i
    unfolding any keep
    one_holds i [] place h others = clash (cc)
    one_holds i (b ∷ bs) zero h others =
        rw (← any_stays test (is_named number) its_own b.items, h, none_holds bs (λ j. others (suc j) (λ q. omega arith))) (or-false _ ∙ or-false _)
    one_holds i (b ∷ bs) (suc place) h others =
        rw (← any_stays test (is_named number) its_own b.items, others 0 (λ q. omega arith)) (one_holds i bs place h (λ j z. others (suc j) (λ q. z (omega (arith, q)))))

  -- The first bin that holds it.
  pub record First (bins : List Bin) (place : ℕ) : Type 0 where
    pub some : any (holds_named number) bins ≡ true
    pub first : first_fit (holds_named number) bins ≡ place
    pub there : place < length bins

  first_holds : (i : Item) (bins : List Bin) (place : ℕ) → of_it bins place ≡ i ∷ [] → ((j : ℕ) → j < place → of_it bins j ≡ []) → First bins place
  unfolding any first_fit keep
  first_holds i [] place h lower = clash (cc)
  first_holds i (b ∷ bs) zero h lower =
      let here : holds_named number b ≡ true = any_keep (is_named number) b.items ∙ rw h in
      record { some = rw here; first = rw here; there = omega arith }
  first_holds i (b ∷ bs) (suc place) h lower =
      let here : holds_named number b ≡ false = any_keep (is_named number) b.items ∙ rw (lower 0 (omega arith)) in
      let further = first_holds i bs place h (λ j l. lower (suc j) (omega arith)) in
      record { some = rw here further.some; first = rw here (ap suc further.first); there = omega (arith, further.there) }

  module _ {notes : List Note} {p : Packing} (k : Noted notes p) where
    -- A number past the notes.
    pub past_notes : numbers ≤ number → (note_at notes number).bin ≡ 0
    past_notes l = ap (λ (note : Note). note.bin) (get_or-eq_default notes unnoted (omega (arith, k.whole)))

    -- A note without a bin: no item of the number is on the shelf.
    pub none_of_it : (test : Item → Bool) → ((i : Item) → (is_named number i && test i) ≡ test i) → (note_at notes number).bin ≡ 0 → any (holds test) p.bins ≡ false
    none_of_it test its_own e = none_holds test its_own p.bins (λ place. k.note number place ∙ rw (e, ne_eqb 0 (suc place) (λ z. omega arith)))

    pub absent : (note_at notes number).bin ≡ 0 → any (holds_named number) p.bins ≡ false
    absent = none_of_it (is_named number) (λ i. and_self (is_named number i))

    -- A note with one: the item lies there.
    module _ (place : ℕ) (e : (note_at notes number).bin ≡ suc place) where
      pub lies_there : keep (is_named number) (items_of (suc place) p) ≡ noted_item number (note_at notes number) ∷ []
      lies_there = k.note number place ∙ rw (eq-eqb (note_at notes number).bin (suc place) e)

      pub lies_nowhere_else : (j : ℕ) → (j ≡ place → ⊥) → keep (is_named number) (items_of (suc j) p) ≡ []
      lies_nowhere_else j z = k.note number j ∙ rw (ne_eqb (note_at notes number).bin (suc j) (λ q. z (omega (arith, e, q))))

      pub present : First p.bins place
      present = first_holds (noted_item number (note_at notes number)) p.bins place lies_there (λ j l. lies_nowhere_else j (λ q. omega arith))

      pub bin_is : bin_holding number p ≡ suc place
      bin_is = ap suc present.first

      -- What a test that no other item passes says of the shelf is what it says of this one.
      pub one_of_it : (test : Item → Bool) → ((i : Item) → (is_named number i && test i) ≡ test i) → any (holds test) p.bins ≡ test (noted_item number (note_at notes number))
      one_of_it test its_own = one_holds test its_own (noted_item number (note_at notes number)) p.bins place lies_there lies_nowhere_else

    -- Where no item of the number is on the shelf, its note has no bin.
    pub not_noted : any (holds_named number) p.bins ≡ false → (note_at notes number).bin ≡ 0
    not_noted h = go (note_at notes number).bin refl
      where
        go : (bin : ℕ) → (note_at notes number).bin ≡ bin → bin ≡ 0
        go zero e = refl
        go (suc place) e = absurd (true≢false (sym (present place e).some ∙ h))

-- What a word other than 0 says of the least.
pub some_least : (word : ℕ) → 1 ≤ word → least_by word ≡ Some word
some_least word l = rw (ne_eqb word 0 (λ e. omega arith))

-- An item of a number that has none on the shelf is placed, and noted, with the word that tells its least.
pub noted_placed : (o : Opening) {notes : List Note} {p : Packing} → Noted notes p → (number size low bin : ℕ) {least : Option ℕ} → number < numbers
    → (note_at notes number).bin ≡ 0 → least_by low ≡ least → bin ≡ bin_for o p (item number size least)
    → Noted (set notes number (record { bin = bin; size = size; least = low; greatest = size })) (placed o p (item number size least))
unfolding keep
noted_placed o {notes = notes} {p = p} k number size low bin {least = least} inside none told e =
    record {
      whole = length-set notes number note ∙ k.whole;
      note = λ m place. ap (keep (is_named m)) (placed_items o (suc place) p i) ∙ elim (ℕ_discrete m number) [
        | yes q ↦ rw (q, get_or-set_same notes number note unnoted (omega (arith, k.whole)), e, told) (own place (eqb (bin_for o p i) (suc place)))
        | no q ↦ rw (get_or-set_other notes number m note unnoted q) (other m place q (eqb (bin_for o p i) (suc place)) ∙ k.note m place)
      ];
    }
  where
    i : Item
    i = item number size least

    note : Note
    note = record { bin = bin; size = size; least = low; greatest = size }

    none_yet : (place : ℕ) → keep (is_named number) (items_of (suc place) p) ≡ []
    none_yet place = k.note number place ∙ rw (none, ne_eqb 0 (suc place) (λ z. omega arith))

    own : (place : ℕ) (t : Bool) → keep (is_named number) (grown t i (items_of (suc place) p)) ≡ (if t then i ∷ [] else [])
    own place true = rw (eq-eqb number number refl) (ap (λ rest. i ∷ rest) (none_yet place))
    own place false = none_yet place

    other : (m place : ℕ) → (m ≡ number → ⊥) → (t : Bool) → keep (is_named m) (grown t i (items_of (suc place) p)) ≡ keep (is_named m) (items_of (suc place) p)
    other m place z true = rw (ne_eqb number m (λ q. z (sym q)))
    other m place z false = refl

-- The item of a number is taken out, and its note is blank.
pub noted_without : {notes : List Note} {p : Packing} → Noted notes p → (number : ℕ) → number < numbers → Noted (set notes number unnoted) (without number p)
noted_without {notes = notes} {p = p} k number inside =
    record {
      whole = length-set notes number unnoted ∙ k.whole;
      note = λ m place. ap (keep (is_named m)) (without_items (suc place) number p) ∙ elim (ℕ_discrete m number) [
        | yes q ↦ rw (q, get_or-set_same notes number unnoted unnoted (omega (arith, k.whole)), ne_eqb 0 (suc place) (λ z. omega arith)) (gone place)
        | no q ↦ rw (get_or-set_other notes number m unnoted unnoted q) (others m place q ∙ k.note m place)
      ];
    }
  where
    gone : (place : ℕ) → keep (is_named number) (keep (λ i. not (is_named number i)) (items_of (suc place) p)) ≡ []
    gone place = keep_apart (is_named number) (λ i. not (is_named number i)) (λ i e. ap not e) (items_of (suc place) p)

    others : (m place : ℕ) → (m ≡ number → ⊥)
        → keep (is_named m) (keep (λ i. not (is_named number i)) (items_of (suc place) p)) ≡ keep (is_named m) (items_of (suc place) p)
    others m place z =
        keep_within (is_named m) (λ i. not (is_named number i))
        (λ i e. ap not (ne_eqb i.command number (λ q. z (sym (eqb-true i.command m e) ∙ q)))) (items_of (suc place) p)
