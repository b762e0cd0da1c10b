-- The bin that the model puts an item in, and the row that stands for it before.
use mathlib.Core.Path.{◌≡◌, refl}
use mathlib.Core.Logic.{◌⊎◌, inl, inr, ⊎_elim}
use mathlib.Core.Bool.{Bool}
use mathlib.Core.List.{List, [], ◌∷◌, map}
use mathlib.Mathlib.Data.Bool.Basic.{dichotomy}
use Prim.Native.Nat.{ℕ, zero, suc, ◌+◌, ◌-◌}
use borrow.Author.Tests.{eq-eqb}
use lib.Dec.{eqb, eqb-zero-suc, eqb-suc-zero, eqb-suc-suc}
use lib.ListN.{length, get_or}
use Rattle.packing.specs.declared.Opening.{Opening}
use Rattle.std.specs.Prelude.{if◌then◌else◌}
use Rattle.packing.specs.Prelude.{total, keep}
use Rattle.packing.specs.Bins.{Item, Bin, Packing, load, free_on, add}
use Rattle.packing.specs.Placing.{class_of, first_fit, put, target, takes, bin_for, placed}
use Rattle.packing.proofs.Putting.{fresh}
use Rattle.ledger.specs.declared.Row.{Row}
use Rattle.ledger.specs.Rows.{blank}
use Rattle.ledger.specs.Records.{held_a, row_of}

-- The bin that would be opened for an item, how many bins first fit passes, and the bin that the item then goes to.
module _ (o : Opening) (p : Packing) (i : Item) where
  abbrev pub new_bin : Bin
  new_bin = fresh (class_of (target o p i))

  abbrev pub passed : ℕ
  passed = first_fit (takes o p i) p.bins

  abbrev pub chosen : Bin
  chosen = get_or p.bins passed new_bin

-- Once an item is put, a fact of the bin that got it is that of the bin with the item, and of every other it is what it was.
pub put_at : {A : Type 0} (f : Bin → A) (none : A) (takes : Bin → Bool) (new : Bin) (i : Item) (bins : List Bin) (j : ℕ) → get_or (map f (put takes new i bins)) j none
    ≡ (if eqb j (first_fit takes bins) then f (add i (get_or bins (first_fit takes bins) new)) else get_or (map f bins) j none)
unfolding first_fit put
put_at f none takes new i [] zero = refl
put_at f none takes new i [] (suc j) = rw (eqb-suc-zero j)
put_at f none takes new i (b ∷ bs) zero = ⊎_elim (λ e. rw e (rw (eqb-zero-suc (first_fit takes bs)))) (λ e. rw e) (dichotomy (takes b))
put_at f none takes new i (b ∷ bs) (suc j) =
    ⊎_elim (λ e. rw e (rw (eqb-suc-suc j (first_fit takes bs)) (put_at f none takes new i bs j))) (λ e. rw e (rw (eqb-suc-zero j))) (dichotomy (takes b))

-- What the item leaves free on its bin.
pub free_left : (o : Opening) (p : Packing) (i : Item) → free_on o (bin_for o p i) (placed o p i) ≡ o.capacity - (i.size + load (chosen o p i))
unfolding placed total
free_left o p i = rw (put_at (λ b. b.items) [] (takes o p i) (new_bin o p i) i p.bins (passed o p i), eq-eqb (passed o p i) (passed o p i) refl)

-- A row before an item goes to a bin: the bin's own, or that of no bin, where the bin is new and empty.
pub record Before (o : Opening) (row : Row) (b : Bin) : Type 0 where
  pub class : (row.class ≡ 0) ⊎ (row.class ≡ b.class)
  pub held : row.held ≡ length b.items
  pub a_held : row.held_a ≡ held_a o b

pub before : (o : Opening) (class : ℕ) (bins : List Bin) (i : ℕ) → Before o (get_or (map (row_of o) bins) i blank) (get_or bins i (fresh class))
unfolding keep
before o class [] i = record { class = inl refl; held = refl; a_held = refl }
before o class (b ∷ bs) zero = record { class = inr refl; held = refl; a_held = refl }
before o class (b ∷ bs) (suc i) = before o class bs i
