-- What a command sends: the item that 02 or 06 is to shelve, the fault of its bare sizes, and the item that 04 or 07 names.
use Rattle.std.specs.Prelude.{◌||◌, if◌then◌else◌}
use Rattle.packing.specs.Prelude.{ℕ, Bool, true, false, Option, None, Some, ◌=?◌, ◌<?◌}
use Rattle.packing.specs.Prelude.{Opening, Command, Shelve, Count, Withdraw, Switch, Reserve, Settle, ItemReason, SizeZero, RangeWrong}
use Rattle.packing.specs.Bins.{Item, stored}

-- Commands 02 and 06.
abbrev pub shelves_item : Command → Bool
shelves_item (Shelve size) = true
shelves_item Count = false
shelves_item (Withdraw named) = false
shelves_item (Switch r) = false
shelves_item (Reserve least greatest) = true
shelves_item (Settle named size) = false

-- The bare size that a command gives an item: 06 "shelves by the greatest", and 07 tells "the true size".
abbrev pub size_of : Command → ℕ
size_of (Shelve size) = size
size_of Count = 0
size_of (Withdraw named) = 0
size_of (Switch r) = 0
size_of (Reserve least greatest) = greatest
size_of (Settle named size) = size

-- The number that it names an item by.
abbrev pub name_of : Command → ℕ
name_of (Shelve size) = 0
name_of Count = 0
name_of (Withdraw named) = named
name_of (Switch r) = 0
name_of (Reserve least greatest) = 0
name_of (Settle named size) = named

-- The least stored size of an item of 06, which is known within a range; one of 02 is settled from the start.
abbrev pub least_of : Opening → Command → Option ℕ
least_of o (Shelve size) = None
least_of o Count = None
least_of o (Withdraw named) = None
least_of o (Switch r) = None
least_of o (Reserve least greatest) = Some (stored o least)
least_of o (Settle named size) = None

-- Refusal 8 of command 02, which "goes by the bare size"; for command 06 "19, the bare least is 0 or above greatest, in place of 8".
abbrev pub fault : Command → Option ItemReason
fault (Shelve size) = if size =? 0 then Some SizeZero else None
fault Count = None
fault (Withdraw named) = None
fault (Switch r) = None
fault (Reserve least greatest) = if (least =? 0) || (greatest <? least) then Some RangeWrong else None
fault (Settle named size) = None

-- An item as it is shelved by the command of this number, with this stored size, and the least that it can have if it is known within a range.
abbrev pub item : (number size : ℕ) (least : Option ℕ) → Item
item number size least = record { command = number; size = size; greatest = size; least = least }

abbrev pub item_of : Opening → (number : ℕ) → Command → Item
item_of o n c = item n (stored o (size_of c)) (least_of o c)
