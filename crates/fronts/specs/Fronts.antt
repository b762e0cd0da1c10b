-- What the functions of the front answer, in the model's terms.
use Rattle.std.specs.Prelude.{false, List, ◌≡◌, ℕ, ◌+◌, ◌^◌, ◌≤◌, ◌<◌, length, drop, unwrap_or, Some, Result, Ok, Err}
use Rattle.packing.specs.declared.{StreamReason.StreamReason}
use Rattle.packing.specs.Streams as model
use Rattle.packing.specs.Streams.{widths, lookup}
use Rattle.fronts.specs.declared.{WholeCommand.WholeCommand}

-- The width of a byte that is in the table; 0 for any other.
abbrev pub table_width : (opcode : ℕ) → ℕ
table_width opcode = unwrap_or (lookup opcode widths) 0

-- An opcode that is in the table and is no opening, and behind it so many bytes as its operands have.
pub record CommandThere (opcode : ℕ) (s : List ℕ) : Type 0 where
  pub in_table : lookup opcode widths ≡ Some (table_width opcode)
  pub no_opening : model.is_opening opcode ≡ false
  pub inside : table_width opcode + 1 ≤ length s

-- The same of one that has two operands.
pub record TwoOperandsThere (opcode : ℕ) (s : List ℕ) : Type 0 where
  pub there : CommandThere opcode s
  pub above_5 : 5 < opcode

-- The command of an opcode at the front of a stream, with its width in the table.
abbrev pub command_with : (opcode : ℕ) (s : List ℕ) → WholeCommand
command_with opcode s = record { command = model.command_of opcode (drop 1 s); width = table_width opcode }

-- An operand of up to 4 bytes stands in the row.
pub record InStream (at width : ℕ) (s : List ℕ) : Type 0 where
  pub narrow : width ≤ 4
  pub inside : at + width ≤ length s

-- n is the operand there; it has as many bytes.
pub record Operand (at width : ℕ) (s : List ℕ) (n : ℕ) : Type 0 where
  pub value : n ≡ model.operand at width s
  pub small : n < 256 ^ width

-- The model's value of a front.
abbrev pub means : Result WholeCommand StreamReason → model.Front
means (Ok front) = model.whole front.command front.width
means (Err reason) = model.faulty reason
