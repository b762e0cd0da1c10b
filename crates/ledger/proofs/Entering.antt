-- An item is entered where the model puts it: the ledger then records the model's next packing.
use mathlib.Core.Path.{◌≡◌, sym, ap, ◌∙◌}
use mathlib.Core.Bool.{Bool, true, false}
use mathlib.Core.List.{List, ◌∷◌}
use Prim.Native.Nat.{ℕ, ◌+◌, ◌-◌, ◌≤◌, ◌<◌}
use native.Mathlib.Decide.{ℕ_discrete}
use native.Mathlib.Omega.{arith}
use lib.ListN.{length, set, length-set}
use lib.Seq.{get_or-set_same, get_or-set_other}
use lib.Dec.{eqb}
use borrow.Author.Tests.{eq-eqb, ne_eqb}
use Rattle.packing.specs.declared.Opening.{Opening}
use Rattle.std.specs.Prelude.{if◌then◌else◌}
use Rattle.packing.specs.Prelude.{total, keep}
use Rattle.packing.specs.SizeClasses.{is_a}
use Rattle.packing.specs.Bins.{Item, Bin, Packing, load, add, kind}
use Rattle.packing.specs.Placing.{class_of, target, takes, placed}
use Rattle.packing.proofs.Reached.{sound_placed}
use Rattle.ledger.specs.declared.Row.{Row}
use Rattle.ledger.specs.Rows.{places, blank, row_at}
use Rattle.ledger.specs.Records.{held_a, row_of, row_for, Records}
use Rattle.ledger.specs.Entering.{Entered}
use Rattle.ledger.proofs.Chosen.{new_bin, passed, chosen, put_at, Before, before}

-- what an item adds to the A's of its bin
abbrev pub one_a : Opening → Item → ℕ
one_a o i = if is_a (kind o i) then 1 else 0

held_a_more : (o : Opening) (i : Item) (b : Bin) → held_a o (add i b) ≡ held_a o b + one_a o i
unfolding keep
held_a_more o i b = go (is_a (kind o i))
  where
    others : List Item
    others = keep (λ j. is_a (kind o j)) b.items

    go : (x : Bool) → length (if x then i ∷ others else others) ≡ length others + (if x then 1 else 0)
    go true = omega arith
    go false = omega arith

pub same_row : {c c' f f' h h' a a' : ℕ} → c ≡ c' → f ≡ f' → h ≡ h' → a ≡ a'
    → ◌≡◌ {A = Row} (record { class = c; free = f; held = h; held_a = a }) (record { class = c'; free = f'; held = h'; held_a = a' })
same_row p q r s = cc

-- What is entered is what the model has of the bin that the item goes to.
pub record IsEntry (o : Opening) (p : Packing) (i : Item) (place class free a : ℕ) : Type 0 where
  -- It counts by the size that it is shelved by.
  pub whole : i.size ≡ i.greatest
  pub fits : i.size ≤ o.capacity
  pub place_is : place ≡ passed o p i
  pub class_is : class ≡ (chosen o p i).class
  pub free_is : free ≡ o.capacity - (i.size + load (chosen o p i))
  pub a_is : a ≡ one_a o i

module _ {o : Opening} {p : Packing} {ledger : List Row} (k : Records o ledger p) {i : Item} {place class free a : ℕ} (inside : place < places)
    (e : IsEntry o p i place class free a) where
  -- The row before the item.
  pub row_before : Before o (row_at ledger place) (chosen o p i)
  row_before = rw (k.row place inside, e.place_is) (before o (class_of (target o p i)) p.bins (passed o p i))

  module _ {row : Row} {ledger' : List Row} (d : Entered ledger place class free a row ledger') where
    row_after : row ≡ row_of o (add i (chosen o p i))
    unfolding total
    row_after =
        let old = row_at ledger place in
        let held : old.held + 1 ≡ length (add i (chosen o p i)).items = omega (arith, row_before.held) in
        let a_held : old.held_a + a ≡ held_a o (add i (chosen o p i)) = omega (arith, row_before.a_held, e.a_is, held_a_more o i (chosen o p i)) in
        d.row_is ∙ same_row e.class_is e.free_is held a_held

    pub records_placed : Records o ledger' (placed o p i)
    unfolding placed
    records_placed = record {
      whole = ap length d.ledger_is ∙ length-set ledger place row ∙ k.whole;
      row = λ j l. ap (λ (rows : List Row). row_at rows j) d.ledger_is ∙ here j l ∙ sym (put_at (row_of o) blank (takes o p i) (new_bin o p i) i p.bins j);
      sound = sound_placed o p i e.whole e.fits k.sound;
    }
      where
        here : (j : ℕ) → j < places → row_at (set ledger place row) j ≡ (if eqb j (passed o p i) then row_of o (add i (chosen o p i)) else row_for o p j)
        here j l = elim (ℕ_discrete j place) [
          | yes q ↦ rw (q, eq-eqb place (passed o p i) e.place_is) (get_or-set_same ledger place row blank (omega (arith, k.whole)) ∙ row_after)
          | no q ↦ rw (ne_eqb j (passed o p i) (λ z. q (z ∙ sym e.place_is))) (get_or-set_other ledger place j row blank q ∙ k.row j l)
        ]
