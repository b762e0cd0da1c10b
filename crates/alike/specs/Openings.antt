-- The two openings beside each other: a stream that begins with 01, and the same with 11 and a trailer of 0 in its place; commands under a trailer, and
-- the same without one, by their stored sizes.
use Rattle.packing.specs.declared.{Opening.Opening, Command.Command}
use Rattle.packing.specs.declared.Command.TheVariants.{Shelve, Count, Withdraw, Switch, Reserve, Settle}
use Rattle.std.specs.Prelude.{◌+◌, ◌∷◌, ◌++◌, if◌then◌else◌}
use Rattle.packing.specs.Prelude.{ℕ, zero, suc, List, take, drop, ◌=?◌}
use Rattle.packing.specs.Bins.{stored}
use Rattle.packing.specs.Streams.{opening_width, Read, accepted, refused}

-- The stream that begins with 01, with s behind it.
abbrev pub without_trailer : (s : List ℕ) → List ℕ
without_trailer s = 0x01 ∷ s

-- The same with 11: the operands of 01, two bytes of trailer, and what followed.
abbrev pub with_zero_trailer : (s : List ℕ) → List ℕ
with_zero_trailer s = 0x11 ∷ (take (opening_width 0x01) s ++ 0 ∷ 0 ∷ drop (opening_width 0x01) s)

-- Where an offset then stands: the opening at 0 still, and every place behind it two bytes later.
abbrev pub two_later : (offset : ℕ) → ℕ
two_later zero = zero
two_later (suc before) = suc before + 2

-- The same reading, with the offset of a refusal where it then stands.
abbrev pub moved : Read → Read
moved (accepted o cs) = accepted o cs
moved (refused reason offset) = refused reason (two_later offset)

-- The same opening without a trailer.
abbrev pub no_trailer : Opening → Opening
no_trailer o = record { capacity = o.capacity; stock = o.stock; m = o.m; trailer = 0 }

-- The same command there: it shelves an item by its stored size, or by the stored sizes of its range, and settles one by its stored size. A size of 0 stays
-- 0, and so does a least of 0: 8 and 19 go by the bare sizes, and with its trailer it would pass them.
abbrev pub by_stored : Opening → Command → Command
by_stored o (Shelve size) = Shelve (if size =? 0 then 0 else stored o size)
by_stored o Count = Count
by_stored o (Withdraw named) = Withdraw named
by_stored o (Switch r) = Switch r
by_stored o (Reserve least greatest) = Reserve (if least =? 0 then 0 else stored o least) (stored o greatest)
by_stored o (Settle named size) = Settle named (stored o size)
