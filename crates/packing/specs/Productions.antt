-- "Two productions, one stock" (document 02, point 6): the two, and their numbers, which are the bytes of command 05.
use Rattle.std.specs.Prelude.{if◌then◌else◌}
use Rattle.packing.specs.Prelude.{ℕ, Bool, true, false, ◌=?◌, Production, First, Second}

abbrev pub production_number : Production → ℕ
production_number First = 0
production_number Second = 1

-- The production of a number that has one.
abbrev pub production_of : (number : ℕ) → Production
production_of n = if n =? 0 then First else Second

abbrev pub other : Production → Production
other First = Second
other Second = First

abbrev pub is_same : Production → Production → Bool
is_same First First = true
is_same First Second = false
is_same Second First = false
is_same Second Second = true
