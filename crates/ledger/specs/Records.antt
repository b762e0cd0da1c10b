-- The packing that a ledger records.
use Rattle.std.specs.Prelude.{◌≡◌, ℕ, ◌-◌, ◌<◌, length, get_or}
use mathlib.Core.List.{List, map, Memᴰ}
use Rattle.packing.specs.declared.Opening.{Opening}
use Rattle.packing.specs.Prelude.{total, keep}
use Rattle.packing.specs.SizeClasses.{is_a}
use Rattle.packing.specs.Bins.{Bin, Packing, load, kind}
use Rattle.packing.specs.Claims.{SoundBin}
use Rattle.ledger.specs.declared.Row.{Row}
use Rattle.ledger.specs.Rows.{places, blank, row_at}

-- How many A's a bin holds.
abbrev pub held_a : Opening → Bin → ℕ
held_a o b = length (keep (λ i. is_a (kind o i)) b.items)

abbrev pub row_of : Opening → Bin → Row
row_of o b = record { class = b.class; free = o.capacity - load b; held = length b.items; held_a = held_a o b }

-- How many items a packing holds.
abbrev pub items_held : Packing → ℕ
items_held p = total (map (λ b. length b.items) p.bins)

-- The row of bin i + 1, or that of no bin.
abbrev pub row_for : Opening → Packing → (i : ℕ) → Row
row_for o p i = get_or (map (row_of o) p.bins) i blank

-- Every bin is sound: it has a class other than 0, which stands for no bin, and no load above the capacity, of which its free space is the rest.
pub record Records (o : Opening) (ledger : List Row) (p : Packing) : Type 0 where
  pub whole : length ledger ≡ places
  pub row : (i : ℕ) → i < places → row_at ledger i ≡ row_for o p i
  pub sound : (b : Bin) → Memᴰ b p.bins → SoundBin o b
