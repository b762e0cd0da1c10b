-- Items, bins and packings: document 01's masters, cartridges and shelf.
use Rattle.std.specs.Prelude.{◌+◌, ◌-◌, ◌&&◌, ◌∷◌}
use Rattle.packing.specs.Prelude.{ℕ, zero, suc, Bool, true, false, Option, None, Some, List, [], map, length, get_or, total, any, ◌≤?◌, Opening, SizeClass}
use Rattle.packing.specs.SizeClasses.{size_class, is_a}

-- A master: the number of the command that shelved it; its whole number of units, the trailer with them, which is the size that counts; the size that it
-- was shelved by, which is its greatest; and the least that it can have, as long as its size is known within a range only. Sizes are stored sizes.
pub record Item : Type 0 where
  pub command : ℕ
  pub size : ℕ
  pub greatest : ℕ
  pub least : Option ℕ

-- "The stored size is size plus trailer."
abbrev pub stored : Opening → (size : ℕ) → ℕ
stored o size = size + o.trailer

-- A cartridge keeps its class, 1 to 4, also when it is emptied. The last item stands first.
pub record Bin : Type 0 where
  pub class : ℕ
  pub items : List Item

-- Bins are numbered 1, 2, 3 and so on in order of opening, whatever their class. The B2 items accepted so far are counted, in both classes together;
-- "the B2 count never goes back".
pub record Packing : Type 0 where
  pub bins : List Bin
  pub b2s : ℕ

-- The shelf is empty at the opening.
abbrev pub empty : Packing
empty = record { bins = []; b2s = 0 }

abbrev pub opened : Packing → ℕ
opened p = length p.bins

abbrev pub load : Bin → ℕ
load b = total (map (λ i. i.size) b.items)

-- The items of bin n, the last first; none where no bin has this number.
abbrev pub items_of : (n : ℕ) → Packing → List Item
items_of zero p = []
items_of (suc before) p = get_or (map (λ b. b.items) p.bins) before []

-- The free units of bin n: what its items leave of the capacity.
abbrev pub free_on : Opening → (n : ℕ) → Packing → ℕ
free_on o n p = o.capacity - total (map (λ i. i.size) (items_of n p))

abbrev pub add : Item → Bin → Bin
add i b = record { class = b.class; items = i ∷ b.items }

-- The class goes by the size that the item was shelved by, and so "the class of master … remains" when it is settled.
abbrev pub kind : Opening → Item → SizeClass
kind o i = size_class o.capacity i.greatest

-- A bin holds an item that passes; it contains an A.
abbrev pub holds : (Item → Bool) → Bin → Bool
holds test b = any test b.items

abbrev pub holds_a : Opening → Bin → Bool
holds_a o b = holds (λ i. is_a (kind o i)) b

-- An item whose size is known within a range only, and the stored sizes that it may turn out to have.
abbrev pub has_range : (least : Option ℕ) → Bool
has_range None = false
has_range (Some least) = true

abbrev pub unsettled : Item → Bool
unsettled i = has_range i.least

abbrev pub ranges : (least : Option ℕ) (greatest size : ℕ) → Bool
ranges None greatest size = false
ranges (Some least) greatest size = (least ≤? size) && (size ≤? greatest)

abbrev pub in_range : (size : ℕ) → Item → Bool
in_range size i = ranges i.least i.greatest size
