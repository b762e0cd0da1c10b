-- The item that a note tells of is settled: whether it waits for a size and admits this one, by its note; and that the ledger and the notes then record the
-- packing with the item so.
use mathlib.Core.Path.{◌≡◌, refl, sym, ap, ◌∙◌}
use mathlib.Core.Logic.{◌⊎◌, inl, inr}
use mathlib.Core.Bool.{Bool, true, false, not, ◌&&◌, and-false, and_self_left}
use mathlib.Core.List.Memᴰ
use mathlib.Core.List.{List, [], ◌∷◌, map, map-map}
use Prim.Native.Nat.{ℕ, zero, suc, ◌+◌, ◌-◌, ◌≤◌, ◌<◌}
use native.Mathlib.Decide.{ℕ_discrete}
use native.Mathlib.Omega.{arith}
use borrow.Author.Tests.{eqb-true, eq-eqb, ne_eqb, le-leb, lt-leb}
use lib.Dec.{eqb, leb}
use lib.ListN.{length, set, length-set, length-map}
use lib.Seq.{get_or-set_same, get_or-set_other}
use Rattle.packing.specs.declared.Opening.{Opening}
use Rattle.std.specs.Prelude.{if◌then◌else◌}
use Rattle.packing.specs.Prelude.{total, any, keep}
use Rattle.packing.specs.SizeClasses.{is_a}
use Rattle.packing.specs.Bins.{Item, Bin, Packing, load, items_of, kind, free_on, holds, has_range, unsettled, ranges, in_range}
use Rattle.packing.specs.Claims.{SoundBin}
use Rattle.packing.specs.Withdrawing.{is_named, emptied_of}
use Rattle.packing.specs.Settling.{settled_to, awaits, admits, settled, settled_bin, settling}
use Rattle.packing.proofs.Tests.{clash, each_keep}
use Rattle.packing.proofs.Keeping.{keep_map, keep_apart}
use Rattle.packing.proofs.Settling.{in_range_some, in_range_most, settled_command, settled_kind}
use Rattle.packing.proofs.Reached.{sound_settling}
use Rattle.packing.proofs.Holding.{settling_items}
use Rattle.ledger.specs.declared.{Row.Row, Note.Note}
use Rattle.ledger.specs.Rows.{places, row_at}
use Rattle.ledger.specs.Notes.{unnoted, numbers, note_at, least_by, noted_item, settled_note, Noted}
use Rattle.ledger.specs.Records.{held_a, row_of, Records}
use Rattle.ledger.specs.Settling.{settled_row, Settleable, HasSettled}
use Rattle.ledger.proofs.Entering.{same_row}
use Rattle.ledger.proofs.Noting.{none_of_it, one_of_it, some_least}
use Rattle.ledger.proofs.Leaving.{weight_less}
use Rattle.ledger.proofs.Holder.{bin_at, holds_one, holder_row, holder_sound, free_made, records_made}

-- What the word for the least says of the range: at 0 there is none.
word_settled : (word : ℕ) → word ≡ 0 → has_range (least_by word) ≡ false
word_settled word e = rw e

word_unsettled : (word : ℕ) → 1 ≤ word → has_range (least_by word) ≡ true
word_unsettled word l = rw (some_least word l)

word_outside : (word greatest size : ℕ) → (size < word) ⊎ (greatest < size) → ranges (least_by word) greatest size ≡ false
word_outside word greatest size h = elim (ℕ_discrete word 0) [
  | yes q ↦ rw q
  | no q ↦ rw (ne_eqb word 0 q) (apart h)
]
  where
    apart : (size < word) ⊎ (greatest < size) → (leb word size && leb size greatest) ≡ false
    apart (inl l) = rw (lt-leb word size l)
    apart (inr l) = rw (lt-leb size greatest l) (and-false (leb word size))

word_within : (word greatest size : ℕ) → 1 ≤ word → word ≤ size → size ≤ greatest → ranges (least_by word) greatest size ≡ true
word_within word greatest size some l m = rw (some_least word some, le-leb word size l, le-leb size greatest m)

module _ {notes : List Note} {p : Packing} (t : Noted notes p) (named : ℕ) where
  -- The items of the number that pass a test: none, if the note has no bin or the item that it tells of does not pass; else that one.
  module _ (test : Item → Bool) where
    abbrev passes : Item → Bool
    passes i = is_named named i && test i

    its_own : (i : Item) → (is_named named i && passes i) ≡ passes i
    its_own i = and_self_left (is_named named i) (test i)

    none_passes : ((note_at notes named).bin ≡ 0) ⊎ (test (noted_item named (note_at notes named)) ≡ false) → any (holds passes) p.bins ≡ false
    none_passes h = go (note_at notes named).bin refl h
      where
        go : (bin : ℕ) → (note_at notes named).bin ≡ bin → (bin ≡ 0) ⊎ (test (noted_item named (note_at notes named)) ≡ false) → any (holds passes) p.bins ≡ false
        go zero q h = none_of_it named t passes its_own q
        go (suc place) q (inl e) = absurd (omega (arith, e))
        go (suc place) q (inr e) = one_of_it named t place q passes its_own ∙ rw e (and-false (eqb named named))

    one_passes : 1 ≤ (note_at notes named).bin → test (noted_item named (note_at notes named)) ≡ true → any (holds passes) p.bins ≡ true
    one_passes l e = one_of_it named t ((note_at notes named).bin - 1) (omega arith) passes its_own ∙ rw (eq-eqb named named refl, e)

  -- For 20: no item of the number waits for its size, if its note has no bin or no least; else it does.
  pub not_reserved : ((note_at notes named).bin ≡ 0) ⊎ ((note_at notes named).least ≡ 0) → any (holds (awaits named)) p.bins ≡ false
  not_reserved (inl e) = none_passes unsettled (inl e)
  not_reserved (inr e) = none_passes unsettled (inr (word_settled (note_at notes named).least e))

  pub reserved : 1 ≤ (note_at notes named).bin → 1 ≤ (note_at notes named).least → any (holds (awaits named)) p.bins ≡ true
  reserved l some = one_passes unsettled l (word_unsettled (note_at notes named).least some)

  -- For 21: the size is below the least or above the greatest; else it is within the range.
  module _ (size : ℕ) where
    pub outside_range : (size < (note_at notes named).least) ⊎ ((note_at notes named).greatest < size) → any (holds (admits named size)) p.bins ≡ false
    outside_range h = none_passes (in_range size) (inr (word_outside (note_at notes named).least (note_at notes named).greatest size h))

    pub within_range : 1 ≤ (note_at notes named).bin → in_range size (noted_item named (note_at notes named)) ≡ true → any (holds (admits named size)) p.bins ≡ true
    within_range = one_passes (in_range size)

-- So it is by the words of the note.
pub range_by_words : (named : ℕ) (note : Note) (size : ℕ) → 1 ≤ note.least → note.least ≤ size → size ≤ note.greatest → in_range size (noted_item named note) ≡ true
range_by_words named note size some l m = word_within note.least note.greatest size some l m

module _ (named size : ℕ) where
  -- What settling does to items of which none has the number, and to those that a test keeps by their number.
  same_settled : (items : List Item) → keep (is_named named) items ≡ [] → map (settled named size) items ≡ items
  unfolding keep
  same_settled [] e = refl
  same_settled (i ∷ items) e = go (is_named named i) refl e (same_settled items)
    where
      go : (b : Bool) → is_named named i ≡ b → (if b then i ∷ keep (is_named named) items else keep (is_named named) items) ≡ []
          → (keep (is_named named) items ≡ [] → map (settled named size) items ≡ items) → map (settled named size) (i ∷ items) ≡ i ∷ items
      go true q e r = clash (cc)
      go false q e r = rw q (ap (λ rest. i ∷ rest) (r e))

  same_bin : (b : Bin) → keep (is_named named) b.items ≡ [] → settled_bin named size b ≡ b
  same_bin b e = ap (λ items. record { class = b.class; items = items }) (same_settled b.items e)

  keep_settled : (m : ℕ) (items : List Item) → keep (is_named m) (map (settled named size) items) ≡ map (settled named size) (keep (is_named m) items)
  keep_settled m items =
      keep_map (settled named size) (is_named m) (is_named m) items (λ i _. ap (λ (n : ℕ). eqb n m) (settled_command named size i))

  others_settled : (m : ℕ) → (m ≡ named → ⊥) → (items : List Item) → keep (is_named m) (map (settled named size) items) ≡ keep (is_named m) items
  others_settled m z items =
      keep_settled m items
      ∙ same_settled (keep (is_named m) items)
      (keep_apart (is_named named) (is_named m) (λ i e. ne_eqb i.command m (λ q. z (sym q ∙ eqb-true i.command named e))) items)

  -- The one that admits the size.
  settles : (i : Item) → i.command ≡ named → in_range size i ≡ true → settled named size i ≡ settled_to size i
  settles i own within = rw (eq-eqb i.command named own, within)

-- The item of a number is settled, and noted so.
pub noted_settled : {notes : List Note} {p : Packing} → Noted notes p → (named size : ℕ) → named < numbers → in_range size (noted_item named (note_at notes named)) ≡ true
    → Noted (set notes named (settled_note size (note_at notes named))) (settling named size p)
noted_settled {notes = notes} {p = p} t named size inside within =
    record {
      whole = length-set notes named after ∙ t.whole;
      note = λ m place. ap (keep (is_named m)) (settling_items (suc place) named size p) ∙ elim (ℕ_discrete m named) [
        | yes q ↦ rw (q, get_or-set_same notes named after unnoted (omega (arith, t.whole)))
            (keep_settled named size named (items_of (suc place) p) ∙ ap (map (settled named size)) (t.note named place) ∙ own (eqb note.bin (suc place)))
        | no q ↦ rw (get_or-set_other notes named m after unnoted q) (others_settled named size m q (items_of (suc place) p) ∙ t.note m place)
      ];
    }
  where
    note : Note
    note = note_at notes named

    after : Note
    after = settled_note size note

    own : (here : Bool) → map (settled named size) (if here then noted_item named note ∷ [] else []) ≡ (if here then noted_item named after ∷ [] else [])
    own true = ap (λ i. i ∷ []) (settles named size (noted_item named note) refl within)
    own false = refl

module _ (named size : ℕ) where
  -- Of a bin that holds one item of the number: what it weighs when this is settled, and that it holds as many items and A's.
  module _ (b : Bin) (i : Item) (one : keep (is_named named) b.items ≡ i ∷ []) (own : i.command ≡ named) (within : in_range size i ≡ true) where
    weight_settled : (w : Item → ℕ) → total (map w (settled_bin named size b).items) ≡ w (settled_to size i) + total (map w (emptied_of named b).items)
    weight_settled w =
        let w' : Item → ℕ = λ j. w (settled named size j) in
        let rest = (emptied_of named b).items in
        let same : map (settled named size) rest ≡ rest =
        same_settled named size rest (keep_apart (is_named named) (λ j. not (is_named named j)) (λ j e. ap not e) b.items) in
        omega (
          arith,
          ap total (map-map w (settled named size) b.items),
          weight_less named b i one w',
          ap w (settles named size i own within),
          ap total (map-map w (settled named size) rest),
          ap (λ l. total (map w l)) same,
        )

  held_a_settled : (o : Opening) (b : Bin) → held_a o (settled_bin named size b) ≡ held_a o b
  held_a_settled o b =
      let a : Item → Bool = λ j. is_a (kind o j) in
      ap length (keep_map (settled named size) a a b.items (λ j _. ap is_a (settled_kind named size o j))) ∙ length-map (keep a b.items) (settled named size)

module _ {o : Opening} {ledger : List Row} {notes : List Note} {p : Packing} (k : Records o ledger p) (t : Noted notes p) (named place size : ℕ)
    (there : (note_at notes named).bin ≡ suc place) (inside : place < places) (within : in_range size (noted_item named (note_at notes named)) ≡ true) where
  -- The bin, the item that it holds, and how much smaller this turns out to be.
  abbrev holder : Bin
  holder = bin_at p place

  abbrev waiting : Item
  waiting = noted_item named (note_at notes named)

  abbrev freed : ℕ
  freed = (note_at notes named).size - size

  one : keep (is_named named) holder.items ≡ waiting ∷ []
  one = holds_one k t named place there inside

  row_there : row_at ledger place ≡ row_of o holder
  row_there = holder_row k t named place there inside

  sound : SoundBin o holder
  sound = holder_sound k t named place there inside

  -- It counts by its greatest, so the size is no more than what it counts by.
  pub size_less : size ≤ (note_at notes named).size
  size_less =
      let each = each_keep (is_named named) (λ i. unsettled i ≡ true → i.size ≡ i.greatest) holder.items sound.till_settled in
      let whole : waiting.size ≡ waiting.greatest = each waiting (rw one (Memᴰ.head refl)) (in_range_some size waiting within) in
      omega (arith, whole, in_range_most size waiting within)

  -- The loads before and after.
  load_before : load holder ≡ waiting.size + load (emptied_of named holder)
  load_before = weight_less named holder waiting one (λ i. i.size)

  load_after : load (settled_bin named size holder) ≡ size + load (emptied_of named holder)
  load_after = weight_settled named size holder waiting one refl within (λ i. i.size)

  -- What it counts by is within the capacity.
  pub size_few : (note_at notes named).size ≤ o.capacity
  size_few = omega (arith, load_before, sound.not_overfull)

  -- There is room for what it frees.
  pub free_few : (row_at ledger place).free + freed ≤ o.capacity
  free_few = omega (arith, ap (λ (row : Row). row.free) row_there, load_before, sound.not_overfull, size_less)

  pub can_settle : o.capacity ≤ 16_777_216 → Settleable ledger place freed
  can_settle most = record { inside = inside; room = omega (arith, free_few) }

  module _ {row : Row} {ledger' : List Row} (d : HasSettled ledger place freed row ledger') where
    row_settled : row ≡ row_of o (settled_bin named size holder)
    row_settled =
        d.row_is ∙ ap (settled_row freed) row_there
        ∙ same_row refl (omega (arith, load_before, load_after, sound.not_overfull, size_less)) (sym (length-map holder.items (settled named size)))
        (sym (held_a_settled named size o holder))

    -- "The class of … cartridge remains", and is one of the four.
    pub class_remains : (row_at ledger place).class ≡ row.class
    class_remains = sym (ap (λ (row : Row). row.class) d.row_is)

    pub class_one_of_four : (1 ≤ row.class) × (row.class < 5)
    class_one_of_four = omega (arith, ap (λ (row : Row). row.class) row_settled, sound.from_class_1, sound.to_class_4)

    -- What is then free on it.
    pub free_settled : row.free ≡ free_on o (suc place) (settling named size p)
    unfolding settling
    free_settled = free_made k t named place there inside (settled_bin named size) (same_bin named size) (settling named size p) refl row_settled

    pub records_settled : Records o ledger' (settling named size p)
    unfolding settling
    records_settled =
        records_made k t named place there inside (settled_bin named size) (same_bin named size) (settling named size p) refl row_settled d.ledger_is
        (sound_settling o named size p k.sound)
