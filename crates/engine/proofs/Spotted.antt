-- The spot that the search has for an item is where the model puts the item, with so much of the stock left; if it has none, the model refuses the item
-- with 10.
use mathlib.Core.Path.{◌≡◌, sym, ap, ◌∙◌}
use mathlib.Core.Logic.{⊎_elim}
use mathlib.Core.Bool.{true, false, and-false}
use mathlib.Core.List.{List}
use mathlib.Mathlib.Data.Bool.Basic.{dichotomy}
use Prim.Native.Nat.{ℕ, suc, ◌+◌, ◌-◌, ◌≤◌, ◌<◌, max}
use native.Mathlib.Omega.{arith}
use lib.Dec.{leb, ltb}
use lib.ListN.{length, get_or-eq_default}
use borrow.Author.Tests.{le-leb, lt-leb, lt-ltb, le-ltb, leb-true, leb-false}
use Rattle.packing.specs.declared.Opening.{Opening}
use Rattle.packing.specs.declared.{ItemReason.ItemReason}
use Rattle.packing.specs.declared.ItemReason.TheVariants.{StockSpent}
use Rattle.std.specs.Prelude.{if◌then◌else◌, Option, Some, None}
use Rattle.packing.specs.Prelude.{total}
use Rattle.packing.specs.Bins.{Item, Bin, Packing, opened, load}
use Rattle.packing.specs.Placing.{refusing, class_of, takes, bin_for, spent, decision}
use Rattle.packing.specs.Looks.{height, fits}
use Rattle.packing.specs.Sending.{item}
use Rattle.packing.proofs.Decided.{is_spent_lem, decides}
use Rattle.packing.proofs.Looks.{height_unique, fits_first}
use Rattle.tournament.specs.declared.Shape.{Shape}
use Rattle.tournament.specs.LowestFit.{lowest_fit}
use Rattle.tournament.specs.Looking.{looks_of}
use Rattle.tournament.proofs.Fits.{Lowest, Meaning, meaning}
use Rattle.aim.specs.declared.Counters.{Counters}
use Rattle.aim.specs.Aims.{home}
use Rattle.ledger.specs.declared.{Row.Row, Note.Note}
use Rattle.ledger.specs.Rows.{places, row_at}
use Rattle.ledger.specs.Records.{row_of}
use Rattle.ledger.specs.Offers.{in_group, offers}
use Rattle.ledger.proofs.Chosen.{new_bin, passed, chosen}
use Rattle.ledger.proofs.Offering.{group_class, in_group_lem, first_none, first_there, first_at, first_row}
use Rattle.index.specs.Trees.{shown_by, shown_at, Indexes}
use Rattle.index.proofs.Forests.{leaf_count}
use Rattle.engine.specs.declared.Spot.{Spot}
use Rattle.engine.specs.Store.{State, Sound, Represents}
use Rattle.engine.specs.Spots.{joined, anew, spot_at, spot_for}
use Rattle.engine.proofs.States.{state_of}
use Rattle.engine.proofs.Aimed.{Aimed, tree_few, aimed}

-- A spot is the model's, for an item that is searched for in tree n.
pub record IsSpot (o : Opening) (left : ℕ) (p : Packing) (number size : ℕ) (least : Option ℕ) (n : ℕ) (s : Spot) : Type 0 where
  pub in_stock : spent o p (item number size least) left ≡ false
  pub place_is : s.place ≡ passed o p (item number size least)
  pub opened_is : s.opened ≡ max (opened p) (bin_for o p (item number size least))
  pub class_is : (chosen o p (item number size least)).class ≡ home n
  pub free_is : s.free ≡ o.capacity - (size + load (chosen o p (item number size least)))

module _ {o : Opening} {c : Counters} {size n : ℕ} (a : Aimed o c size n) (left number : ℕ) (least : Option ℕ)
    {shape : Shape} {t : List ℕ} {ledger : List Row} {notes : List Note} (x : Indexes shape t ledger) {p : Packing} (r : Represents o (state_of t ledger notes c) p) where
  abbrev it : Item
  it = item number size least

  -- What tree n shows is what the rows offer.
  offer : (j : ℕ) → j < shape.places → shown_at t shape n j ≡ offers n (row_at ledger j)
  offer j l = x.leaf n j (tree_few a) l

  -- The search found place i.
  module _ {i : ℕ} (f : Lowest size (shown_by t shape n) i) (within : i < shape.places) where
    inside : i < places
    inside = omega (arith, x.forest.few)

    lower : (j : ℕ) → j < i → offers n (row_at ledger j) < size
    lower j h = rw (offer j (omega arith)) at (f.before j h)

    enough : size ≤ offers n (row_at ledger i)
    enough = rw (offer i within) at f.enough

    there : i < opened p
    there = first_there o r.records n it a.some (aimed a r number least) inside lower enough

    found_at : passed o p it ≡ i
    found_at = first_at o r.records n it a.some (aimed a r number least) inside lower enough

    -- The row there is that of the bin which the item goes to; it is of the group, and what is shown is its free space.
    row_is : row_at ledger i ≡ row_of o (chosen o p it)
    row_is = first_row o r.records n it a.some (aimed a r number least) inside lower enough

    grouped : in_group n (row_at ledger i) ≡ true
    grouped = in_group_lem n (row_at ledger i) (omega (arith, enough, a.some))

    space : shown_at t shape n i ≡ o.capacity - load (chosen o p it)
    space = offer i within ∙ rw grouped (ap (λ (row : Row). row.free) row_is)

    is_joined : IsSpot o left p number size least n (joined o left shape t c.opened n size i)
    is_joined = record {
      in_stock = rw (found_at, le-ltb (opened p) (suc i) (omega (arith, there)));
      place_is = sym found_at;
      opened_is = omega (arith, r.bins, there, found_at);
      class_is = sym (ap (λ (row : Row). row.class) row_is) ∙ group_class n (row_at ledger i) grouped;
      free_is = omega (arith, space);
    }

  -- The search found nothing.
  module _ (f : (k : ℕ) → k < shape.places → shown_at t shape n k < size) (within : c.opened ≤ shape.places) where
    none_at : passed o p it ≡ opened p
    none_at =
        first_none o r.records n it a.some (aimed a r number least) (omega (arith, r.bins, x.forest.few))
        (λ j h. let l : j < shape.places = omega (arith, r.bins) in rw (offer j l) at (f j l))

    chosen_new : chosen o p it ≡ new_bin o p it
    chosen_new = rw none_at (get_or-eq_default p.bins (new_bin o p it) (omega arith))

    is_anew : c.opened < left → IsSpot o left p number size least n (anew o left shape t c.opened n size)
    unfolding total
    is_anew l = record {
      in_stock = rw (none_at, lt-leb left (opened p) (omega (arith, r.bins)), and-false);
      place_is = r.bins ∙ sym none_at;
      opened_is = omega (arith, r.bins, none_at);
      class_is = ap (λ (b : Bin). b.class) chosen_new ∙ ap class_of (aimed a r number least);
      free_is = rw chosen_new (omega arith);
    }

    spends : (fault : Option ItemReason) → fault ≡ None → left ≤ c.opened → decision o p it left fault ≡ refusing StockSpent
    spends fault faultless l =
        let all : spent o p it left ≡ true =
        rw (none_at, lt-ltb (opened p) (suc (opened p)) (omega arith), le-leb left (opened p) (omega (arith, r.bins))) in
        decides o p it left fault (refusing StockSpent) (is_spent_lem faultless a.fits all)

-- What the search says of an item without a fault, by what it has for it.
pub record Spotted (o : Opening) (left : ℕ) (shape : Shape) (w : State) (number size : ℕ) (least : Option ℕ) (n : ℕ) (s : Spot) : Type 0 where
  pub inside : s.place < shape.places
  pub stock : s.opened ≤ o.stock
  pub model : (p : Packing) → Represents o w p → IsSpot o left p number size least n s

abbrev pub Says : Opening → (left : ℕ) → Shape → State → (number size : ℕ) (least : Option ℕ) (n : ℕ) → Option Spot → Type 0
Says o left shape w number size least n (Some s) = Spotted o left shape w number size least n s
Says o left shape w number size least n None =
    (p : Packing) → Represents o w p → (fault : Option ItemReason) → fault ≡ None → decision o p (item number size least) left fault ≡ refusing StockSpent

pub says : {o : Opening} {c : Counters} {size n : ℕ} → Aimed o c size n → (left number : ℕ) (least : Option ℕ) {shape : Shape} {t : List ℕ} {ledger : List Row} {notes : List Note}
    → left ≤ o.stock → Sound o shape (state_of t ledger notes c) → Says o left shape (state_of t ledger notes c) number size least n (spot_for o left shape t c.opened n size)
says {o} {c} {size} {n} a left number least {shape} {t} {ledger} {notes} left_few sound = go (lowest_fit size (shown_by t shape n)) (meaning size (shown_by t shape n))
  where
    go : (f : Option ℕ) → Meaning size (shown_by t shape n) f → Says o left shape (state_of t ledger notes c) number size least n (spot_at o left shape t c.opened n size f)
    go (Some i) f =
        let within : i < shape.places = omega (arith, f.inside, leaf_count sound.index.forest n (tree_few a)) in
        record { inside = within; stock = sound.within; model = λ p r. is_joined a left number least sound.index r f within }
    go None f =
        let all : length (shown_by t shape n) ≡ shape.places = leaf_count sound.index.forest n (tree_few a) in
        let empty : (k : ℕ) → k < shape.places → shown_at t shape n k < size = λ k l. f k (omega arith) in
        let few : c.opened ≤ shape.places = omega (arith, sound.within, sound.fitted.enough) in
        ⊎_elim
        (λ q. let l : c.opened < left = leb-false left c.opened q in
        rw q (record { inside = omega (arith, sound.fitted.enough); stock = omega arith; model = λ p r. is_anew a left number least sound.index r empty few l }))
        (λ q. rw q (λ p r fault faultless. spends a left number least sound.index r empty few fault faultless (leb-true left c.opened q)))
        (dichotomy (leb left c.opened))

-- The looks that the search took, by whether a bin of the packing takes the item.
pub looked : {o : Opening} {c : Counters} {size n : ℕ} → Aimed o c size n → (number : ℕ) (least : Option ℕ) {shape : Shape} {t : List ℕ} {ledger : List Row} {notes : List Note}
    → Sound o shape (state_of t ledger notes c) → (p : Packing) → Represents o (state_of t ledger notes c) p
    → looks_of shape.height (lowest_fit size (shown_by t shape n)) ≡ (if fits o p (item number size least) then 1 + height o.stock else 1)
looked {o} {c} {size} {n} a number least {shape} {t} {ledger} {notes} sound p r = go (lowest_fit size (shown_by t shape n)) (meaning size (shown_by t shape n))
  where
    all : length (shown_by t shape n) ≡ shape.places
    all = leaf_count sound.index.forest n (tree_few a)

    first : fits o p (item number size least) ≡ ltb (passed o p (item number size least)) (opened p)
    first = fits_first (takes o p (item number size least)) p.bins

    h : shape.height ≡ height o.stock
    h = height_unique o.stock shape.height (record { enough = omega (arith, sound.fitted.enough, sound.fitted.power); least = sound.fitted.least })

    go : (f : Option ℕ) → Meaning size (shown_by t shape n) f → looks_of shape.height f ≡ (if fits o p (item number size least) then 1 + height o.stock else 1)
    go (Some i) f =
        let within : i < shape.places = omega (arith, f.inside, all) in
        rw (first, found_at a 0 number least sound.index r f within, lt-ltb i (opened p) (there a 0 number least sound.index r f within), h)
    go None f =
        let empty : (k : ℕ) → k < shape.places → shown_at t shape n k < size = λ k l. f k (omega (arith, all)) in
        let few : c.opened ≤ shape.places = omega (arith, sound.within, sound.fitted.enough) in
        rw (first, none_at a 0 number least sound.index r empty few, le-ltb (opened p) (opened p) (omega arith))
