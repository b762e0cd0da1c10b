-- Items of command 02 at the front of a stream, one behind the other.
use Rattle.std.specs.Prelude.{◌≡◌, List, ℕ, ◌+◌, ◌*◌, ◌≤◌, ◌<◌, length, drop}
use Rattle.packing.specs.Streams.{command_of, whole, front_of}
use Rattle.fronts.specs.Fronts.{table_width}

-- The bytes of an item, its opcode with it.
abbrev pub item_length : ℕ
item_length = table_width 2 + 1

-- A whole item stands at the front.
abbrev pub ItemFirst : List ℕ → Type 0
ItemFirst s = front_of s ≡ whole (command_of 2 (drop 1 s)) (table_width 2)

-- So many stand there, and no more than there may be.
pub record ItemsAhead (s : List ℕ) (most n : ℕ) : Type 0 where
  pub few : n ≤ most
  pub inside : item_length * n ≤ length s
  pub each : (i : ℕ) → i < n → ItemFirst (drop (item_length * i) s)
