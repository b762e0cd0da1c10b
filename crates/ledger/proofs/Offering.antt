-- What the rows offer is what the model's first fit goes by.
use mathlib.Core.Path.{◌≡◌, refl, sym, ap, ◌∙◌}
use mathlib.Core.Bool.{Bool, true, false, ◌&&◌, ◌||◌}
use mathlib.Core.List.{List, [], ◌∷◌, map}
use Prim.Native.Nat.{ℕ, zero, suc, ◌+◌, ◌-◌, ◌≤◌, ◌<◌}
use native.Mathlib.Decide.{dec_le}
use native.Mathlib.Omega.{arith}
use lib.Dec.{leb, eqb, ltb}
use lib.ListN.{length, get_or}
use borrow.Author.Tests.{le-leb, lt-leb, lt-ltb, ne_eqb, eqb-true}
use Rattle.packing.specs.declared.Opening.{Opening}
use Rattle.std.specs.Prelude.{if◌then◌else◌}
use Rattle.packing.specs.Prelude.{any, keep}
use Rattle.packing.specs.SizeClasses.{is_a}
use Rattle.packing.specs.Bins.{Item, Bin, Packing, opened, load, kind}
use Rattle.packing.specs.Placing.{Target, first_fit, permitted, target, takes}
use Rattle.packing.proofs.Tests.{both_true}
use Rattle.aim.specs.Aims.{aim, home}
use Rattle.ledger.specs.declared.Row.{Row}
use Rattle.ledger.specs.Rows.{places, blank, row_at}
use Rattle.ledger.specs.Records.{row_of, row_for, Records}
use Rattle.ledger.specs.Offers.{in_group, offers}
use Rattle.ledger.proofs.Chosen.{new_bin, passed, chosen}

-- A bin of a group is of the group's class; so a row of another class offers nothing, and neither does that of no bin.
pub group_class : (n : ℕ) (row : Row) → in_group n row ≡ true → row.class ≡ home n
group_class zero row e = eqb-true row.class 1 (both_true (eqb row.class 1) _ e).0
group_class (suc n) row e = eqb-true row.class (suc n) e

pub no_offer : (n : ℕ) (row : Row) → (row.class ≡ home n → ⊥) → offers n row ≡ 0
no_offer zero row z = rw (ne_eqb row.class 1 z)
no_offer (suc n) row z = rw (ne_eqb row.class (suc n) z)

-- No row offers more than its free space.
pub offers_most : (n : ℕ) (row : Row) → offers n row ≤ row.free
offers_most n row = go (in_group n row)
  where
    go : (x : Bool) → (if x then row.free else 0) ≤ row.free
    go true = omega arith
    go false = omega arith

pub offers_blank : (n : ℕ) → offers n blank ≡ 0
offers_blank zero = refl
offers_blank (suc n) = no_offer (suc n) blank (λ z. omega arith)

-- A row that offers something is of the group, and what it offers is its free space.
pub in_group_lem : (n : ℕ) (row : Row) → 0 < offers n row → in_group n row ≡ true
in_group_lem n row = go (in_group n row)
  where
    go : (x : Bool) → 0 < (if x then row.free else 0) → x ≡ true
    go true l = refl
    go false l = absurd (omega arith)

-- An A is contained exactly where their number is positive.
pub any_keep : {A : Type 0} (test : A → Bool) (l : List A) → any test l ≡ ltb 0 (length (keep test l))
unfolding any keep
any_keep test [] = refl
any_keep test (a ∷ rest) = go (test a) (any_keep test rest)
  where
    go : (x : Bool) → any test rest ≡ ltb 0 (length (keep test rest)) → (x || any test rest) ≡ ltb 0 (length (if x then a ∷ keep test rest else keep test rest))
    go true e = sym (lt-ltb 0 (suc (length (keep test rest))) (omega arith))
    go false e = e

module _ (o : Opening) where
  -- A bin is permitted exactly where its row is of the group.
  permitted_group : (n : ℕ) (b : Bin) → permitted o (aim n) b ≡ in_group n (row_of o b)
  permitted_group zero b = ap (λ (x : Bool). eqb b.class 1 && x) (any_keep (λ i. is_a (kind o i)) b.items)
  permitted_group (suc n) b = refl

  -- Nothing fits where 0 is offered, for a size is positive.
  room : (x : Bool) (l s c : ℕ) → 1 ≤ s → (x && leb (l + s) c) ≡ leb s (if x then c - l else 0)
  room true l s c h = elim (dec_le (l + s) c) [
    | yes y ↦ le-leb (l + s) c y ∙ sym (le-leb s (c - l) (omega arith))
    | no y ↦ lt-leb (l + s) c (omega arith) ∙ sym (lt-leb s (c - l) (omega arith))
  ]
  room false l s c h = sym (lt-leb s 0 h)

  -- A bin takes an item exactly where its row offers the item's size or more.
  takes_offered : (p : Packing) (i : Item) (n : ℕ) → 1 ≤ i.size → target o p i ≡ aim n → (b : Bin) → takes o p i b ≡ leb i.size (offers n (row_of o b))
  takes_offered p i n h e b =
      ap (λ (t : Target). permitted o t b && leb (load b + i.size) o.capacity) e
      ∙ ap (λ (x : Bool). x && leb (load b + i.size) o.capacity) (permitted_group n b)
      ∙ room (in_group n (row_of o b)) (load b) i.size o.capacity h

  -- What the bins offer, place by place; past the last nothing.
  abbrev offered : Packing → (n i : ℕ) → ℕ
  offered p n i = offers n (row_for o p i)

  -- If a bin takes an item of size s exactly where it offers s or more, first fit stops at the first that does, or behind the last.
  stops : (n s : ℕ) (takes : Bin → Bool) → ((b : Bin) → takes b ≡ leb s (offers n (row_of o b))) → (bins : List Bin) (i : ℕ) → i ≤ length bins
      → ((k : ℕ) → k < i → offers n (get_or (map (row_of o) bins) k blank) < s) → (i < length bins → s ≤ offers n (get_or (map (row_of o) bins) i blank))
      → first_fit takes bins ≡ i
  unfolding first_fit
  stops n s takes agree [] i l lower here = omega arith
  stops n s takes agree (b ∷ bs) zero l lower here = rw (agree b, le-leb s (offers n (row_of o b)) (here (omega arith)))
  stops n s takes agree (b ∷ bs) (suc i) l lower here =
      rw (agree b, lt-leb s (offers n (row_of o b)) (lower zero (omega arith)))
      (ap suc (stops n s takes agree bs i (omega arith) (λ k h. lower (suc k) (omega arith)) (λ h. here (omega arith))))

  -- Where something is offered there is a bin.
  bin_there : (n : ℕ) (bins : List Bin) (i : ℕ) → 0 < offers n (get_or (map (row_of o) bins) i blank) → i < length bins
  bin_there n [] i h = absurd (omega (arith, offers_blank n))
  bin_there n (b ∷ bs) zero h = omega arith
  bin_there n (b ∷ bs) (suc i) h = omega (arith, bin_there n bs i h)

  pub bin_row : (new : Bin) (bins : List Bin) (i : ℕ) → i < length bins → get_or (map (row_of o) bins) i blank ≡ row_of o (get_or bins i new)
  bin_row new [] i h = absurd (omega arith)
  bin_row new (b ∷ bs) zero h = refl
  bin_row new (b ∷ bs) (suc i) h = bin_row new bs i (omega arith)

  module _ {p : Packing} {ledger : List Row} (k : Records o ledger p) (n : ℕ) (i : Item) (some : 1 ≤ i.size) (aims : target o p i ≡ aim n) where
    fits_first : (place : ℕ) → place ≤ opened p → place ≤ places → ((j : ℕ) → j < place → offers n (row_at ledger j) < i.size)
        → (place < opened p → i.size ≤ offered p n place) → passed o p i ≡ place
    fits_first place l m lower here =
        stops n i.size (takes o p i) (takes_offered p i n some aims) p.bins place l (λ j h. rw (k.row j (omega arith)) at (lower j h)) here

    -- No row offers the size: first fit passes all bins.
    pub first_none : opened p ≤ places → ((j : ℕ) → j < opened p → offers n (row_at ledger j) < i.size) → passed o p i ≡ opened p
    first_none few lower = fits_first (opened p) (omega arith) few lower (λ h. absurd (omega arith))

    -- The row at a place is the first that offers it: first fit stops there, and the row is that of the bin which the item goes to.
    module _ {place : ℕ} (inside : place < places) (lower : (j : ℕ) → j < place → offers n (row_at ledger j) < i.size)
        (enough : i.size ≤ offers n (row_at ledger place)) where
      here : i.size ≤ offered p n place
      here = rw (k.row place inside) at enough

      pub first_there : place < opened p
      first_there = bin_there n p.bins place (omega (arith, here))

      pub first_at : passed o p i ≡ place
      first_at = fits_first place (omega (arith, first_there)) (omega arith) lower (λ _. here)

      pub first_row : row_at ledger place ≡ row_of o (chosen o p i)
      first_row = k.row place inside ∙ rw first_at (bin_row (new_bin o p i) p.bins place first_there)
