-- What is decided of an item, with so much of the stock left for its packing, by the fault of what was sent and the tests for 9 and 10: their chain is
-- opened here and nowhere else.
use Prim.Native.Nat.{ℕ, ◌≤◌, ◌<◌}
use mathlib.Core.Path.{◌≡◌, refl}
use mathlib.Core.Bool.{Bool, true, false}
use Rattle.std.specs.Prelude.{Option, None, Some}
use borrow.Author.Tests.{ltb-true, ltb-false, lt-ltb, le-ltb}
use lib.Dec.{ltb}
use Rattle.std.specs.Prelude.{if◌then◌else◌}
use Rattle.packing.specs.Prelude.{Opening, ItemReason, AboveCapacity, StockSpent}
use Rattle.packing.specs.Bins.{Item, Packing}
use Rattle.packing.specs.Placing.{Decision, into, refusing, bin_for, spent, decision}

module _ (o : Opening) (p : Packing) (i : Item) (left : ℕ) (fault : Option ItemReason) where
  -- What is known of an item that is placed.
  pub record IsPlaced : Type 0 where
    pub faultless : fault ≡ None
    pub within_capacity : i.size ≤ o.capacity
    pub not_spent : spent o p i left ≡ false

  pub data Decided : Decision → Type 0 where
    goes_in : IsPlaced → Decided (into (bin_for o p i))
    is_faulty : (reason : ItemReason) → fault ≡ Some reason → Decided (refusing reason)
    is_above : fault ≡ None → o.capacity < i.size → Decided (refusing AboveCapacity)
    is_spent_lem : fault ≡ None → i.size ≤ o.capacity → spent o p i left ≡ true → Decided (refusing StockSpent)

  pub decided : Decided (decision o p i left fault)
  unfolding decision
  decided = first fault refl
    where
      go : (b d : Bool) → fault ≡ None → ltb o.capacity i.size ≡ b → spent o p i left ≡ d
          → Decided (if b then refusing AboveCapacity else if d then refusing StockSpent else into (bin_for o p i))
      go true d x y z = is_above x (ltb-true o.capacity i.size y)
      go false true x y z = is_spent_lem x (ltb-false o.capacity i.size y) z
      go false false x y z = goes_in (record { faultless = x; within_capacity = ltb-false o.capacity i.size y; not_spent = z })

      first : (f : Option ItemReason) → fault ≡ f → Decided (decision o p i left f)
      first (Some reason) e = is_faulty reason e
      first None e = go (ltb o.capacity i.size) (spent o p i left) e refl refl

  -- Each case is decided so.
  pub decides : (d : Decision) → Decided d → decision o p i left fault ≡ d
  unfolding decision
  decides d (goes_in h) = rw (h.faultless, le-ltb o.capacity i.size h.within_capacity, h.not_spent)
  decides d (is_faulty reason e) = rw e
  decides d (is_above x m) = rw (x, lt-ltb o.capacity i.size m)
  decides d (is_spent_lem x m z) = rw (x, le-ltb o.capacity i.size m, z)
