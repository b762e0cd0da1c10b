-- "Looks per placement" (document 02, point 8): how many looks a search takes, and which items are searched for. By the packing alone: what fits, and what
-- does not.
use Rattle.std.specs.Prelude.{◌+◌, ◌^◌, if◌then◌else◌}
use Rattle.packing.specs.Prelude.{ℕ, zero, suc, Bool, true, false, Option, None, Some, any, ◌≤?◌, ◌<?◌, Opening, ItemReason}
use Rattle.packing.specs.Bins.{Item, Packing}
use Rattle.packing.specs.Placing.{takes}

-- The first of so many numbers, from h on, of which 2 to its power is at least the stock.
unfoldable pub height_from : (h more stock : ℕ) → ℕ
height_from h zero stock = h
height_from h (suc more) stock = elim (stock ≤? 2 ^ h) [
  | true ↦ h
  | false ↦ height_from (suc h) more stock
]

-- h, "the least number with 2 to the power h at least the stock"; it is no more than the stock itself.
abbrev pub height : (stock : ℕ) → ℕ
height stock = height_from 0 stock stock

module _ (o : Opening) (p : Packing) (i : Item) where
  -- A permitted bin has space for the item.
  abbrev pub fits : Bool
  fits = any (takes o p i) p.bins

  -- "Every master that passes the checks before 10 makes exactly one search, of 1 look if nothing fits and of 1 + h otherwise", h by the whole stock. The
  -- checks before 10 are 8, or 19 in its place, and 9.
  unfoldable pub looks : (fault : Option ItemReason) → ℕ
  looks (Some reason) = 0
  looks None =
      if o.capacity <? i.size then 0 else
      if fits then 1 + height o.stock else 1
