-- The shelf of two productions: a packing of each, and the production that is current.
use Rattle.std.specs.Prelude.{◌-◌}
use Rattle.packing.specs.Prelude.{ℕ, Bool, true, false, Opening, Production, First, Second, Command, Shelve, Count, Withdraw, Switch, Reserve, Settle}
use Rattle.packing.specs.Productions.{other}
use Rattle.packing.specs.Bins.{Packing, empty, opened}

pub record Shelf : Type 0 where
  pub first : Packing
  pub second : Packing
  pub current : Production

-- "A stream starts in 0", with no bin in either.
abbrev pub empty_shelf : Shelf
empty_shelf = record { first = empty; second = empty; current = First }

abbrev pub of : Production → Shelf → Packing
of First s = s.first
of Second s = s.second

-- The packing of the production that is current.
abbrev pub own : Shelf → Packing
own s = of s.current s

-- "The stock is spent … when both together have opened it all": what the other production has opened is not left for this one.
abbrev pub stock_left : Opening → Shelf → ℕ
stock_left o s = o.stock - opened (of (other s.current) s)

-- The shelf with this packing in the place of the current production's.
abbrev pub put_back : (current : Production) → Packing → Shelf → (next : Production) → Shelf
put_back First p s next = record { first = p; second = s.second; current = next }
put_back Second p s next = record { first = s.first; second = p; current = next }

-- Command 05.
abbrev pub is_switch : Command → Bool
is_switch (Shelve size) = false
is_switch Count = false
is_switch (Withdraw named) = false
is_switch (Switch r) = true
is_switch (Reserve least greatest) = false
is_switch (Settle named size) = false

-- It "makes the commands after it belong to that production".
abbrev pub belonging : Production → Command → Production
belonging q (Shelve size) = q
belonging q Count = q
belonging q (Withdraw named) = q
belonging q (Switch r) = r
belonging q (Reserve least greatest) = q
belonging q (Settle named size) = q
