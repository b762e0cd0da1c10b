-- "Where a master goes": Refined First-Fit, one item at a time.
use Rattle.std.specs.Prelude.{◌+◌, ◌%◌, ◌&&◌, ◌∷◌, if◌then◌else◌}
use Rattle.packing.specs.Prelude.{ℕ, suc, Bool, Option, None, Some, List, [], ◌=?◌, ◌≤?◌, ◌<?◌, Opening}
use Rattle.packing.specs.Prelude.{SizeClass, A, B1, B2, X, ItemReason, AboveCapacity, StockSpent}
use Rattle.packing.specs.SizeClasses.{count_b2}
use Rattle.packing.specs.Bins.{Item, Bin, Packing, opened, load, add, kind, holds_a}

-- Where an item is to go: to a class, or beside an A in class 1.
pub data Target : Type 0 where
  to_class : ℕ → Target
  beside_a : Target

abbrev pub class_of : Target → ℕ
class_of (to_class n) = n
class_of beside_a = 1

-- What is decided of an item: the number of its bin, or why it is refused.
pub data Decision : Type 0 where
  into : (bin : ℕ) → Decision
  refusing : ItemReason → Decision

-- How many bins stand before the first that takes an item: all of them, if none does.
unfoldable pub first_fit : (Bin → Bool) → List Bin → ℕ
first_fit takes [] = 0
first_fit takes (b ∷ bs) = if takes b then 0 else suc (first_fit takes bs)

-- The item in the first bin that takes it; if there is none, in the new bin.
unfoldable pub put : (Bin → Bool) → Bin → Item → List Bin → List Bin
put takes new i [] = add i new ∷ []
put takes new i (b ∷ bs) = if takes b then add i b ∷ bs else b ∷ put takes new i bs

module _ (o : Opening) where
  -- A goes to class 1, B1 to class 2, X to class 4. B2 goes to class 3, except every m-th, counted with those accepted before.
  abbrev pub target_of : (before : ℕ) → SizeClass → Target
  target_of before A = to_class 1
  target_of before B1 = to_class 2
  target_of before B2 = if suc before % o.m =? 0 then beside_a else to_class 3
  target_of before X = to_class 4

  -- Any bin of the class, so an A may join a lone B2; an m-th B2 only a bin of class 1 that contains an A.
  abbrev pub permitted : Target → Bin → Bool
  permitted (to_class n) b = b.class =? n
  permitted beside_a b = (b.class =? 1) && holds_a o b

  module _ (p : Packing) (i : Item) where
    abbrev pub target : Target
    target = target_of p.b2s (kind o i)

    -- The bin's load plus the size is at most the capacity.
    abbrev pub has_space : Bin → Bool
    has_space b = load b + i.size ≤? o.capacity

    abbrev pub takes : Bin → Bool
    takes b = permitted target b && has_space b

    -- The number of the lowest-numbered bin that takes the item; if there is none, of a new bin.
    abbrev pub bin_for : ℕ
    bin_for = suc (first_fit takes p.bins)

    -- A new bin is called for, and what is left of the stock for this packing is all opened.
    abbrev pub spent : (left : ℕ) → Bool
    spent left = (opened p <? bin_for) && (left ≤? opened p)

    -- For one item the order is 8, 9, 10, or 19, 9, 10: the fault of the bare sizes that were sent, if they have one, and then what goes by the stored size.
    unfoldable pub decision : (left : ℕ) (fault : Option ItemReason) → Decision
    decision left (Some reason) = refusing reason
    decision left None =
        if o.capacity <? i.size then refusing AboveCapacity else
        if spent left then refusing StockSpent else
        into bin_for

    -- An accepted B2 is counted, in whichever class it lies.
    unfoldable pub placed : Packing
    placed = record {
      bins = put takes (record { class = class_of target; items = [] }) i p.bins;
      b2s = p.b2s + count_b2 (kind o i);
    }
