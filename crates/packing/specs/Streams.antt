-- "Command streams": a row of bytes is read as an opening and the commands after it, or refused.
use Rattle.std.specs.Prelude.{◌+◌, ◌*◌, ◌≡◌, ◌||◌, ◌&&◌, ◌∷◌, if◌then◌else◌}
use Rattle.packing.specs.Prelude.{ℕ, zero, suc, min, Bool, not, List, [], foldl, length, take, drop, get_or, ◌=?◌, ◌<?◌}
use Rattle.packing.specs.Prelude.{Opening, Command, Shelve, Count, Withdraw, Switch, Reserve, Settle, WidthRow, Option, None, Some}
use Rattle.packing.specs.Prelude.{StreamReason, NoOpening, UnknownOpcode, CutShort, SecondOpening, OutsideLimits, TooManyCommands, TooFewWords, NoProduction}
use Rattle.packing.specs.Limits.{opening_good, most_commands}
use Rattle.packing.specs.Productions.{production_of}

-- "Either opening may start a stream, once."
abbrev pub is_opening : (opcode : ℕ) → Bool
is_opening b = (b =? 0x01) || (b =? 0x11)

-- capacity 4 bytes, stock 2, m 1; 11 "has the operands of 01 and then a 2-byte trailer length"
abbrev pub opening_width : (opcode : ℕ) → ℕ
opening_width b = if b =? 0x11 then 4 + 2 + 1 + 2 else 4 + 2 + 1

-- The byte at the front, and how long the opening is that it begins: its opcode and its operands.
abbrev pub first_byte : (stream : List ℕ) → ℕ
first_byte stream = get_or stream 0 0

abbrev pub opening_length : (stream : List ℕ) → ℕ
opening_length stream = suc (opening_width (first_byte stream))

-- The commands begin behind the opening.
abbrev pub behind_opening : (stream : List ℕ) → List ℕ
behind_opening stream = drop (opening_length stream) stream

-- "One table gives each command byte its operand width."
unfoldable pub widths : List WidthRow
widths =
    record { opcode = 0x01; width = opening_width 0x01 } ∷
    record { opcode = 0x02; width = 4 } ∷
    record { opcode = 0x03; width = 0 } ∷
    record { opcode = 0x04; width = 2 } ∷
    record { opcode = 0x05; width = 1 } ∷
    record { opcode = 0x06; width = 4 + 4 } ∷
    record { opcode = 0x07; width = 2 + 4 } ∷
    record { opcode = 0x11; width = opening_width 0x11 } ∷
    []

unfoldable pub lookup : ℕ → List WidthRow → Option ℕ
lookup b [] = None
lookup b (row ∷ rows) = if row.opcode =? b then Some row.width else lookup b rows

-- Operands are unsigned, most significant byte first: this one has so many bytes before it and is so wide.
abbrev pub operand : (before width : ℕ) → List ℕ → ℕ
operand before width s = foldl (λ n b. n * 256 + b) 0 (take width (drop before s))

-- The opening of this opcode with s behind it. "A stream opened with 01 has trailer 0."
abbrev pub opening_of : (opcode : ℕ) → List ℕ → Opening
opening_of b s = record { capacity = operand 0 4 s; stock = operand 4 2 s; m = operand 6 1 s; trailer = if b =? 0x11 then operand 7 2 s else 0 }

-- the command of an opcode that is in the table and is no opening
abbrev pub command_of : ℕ → List ℕ → Command
command_of b s =
    if b =? 0x02 then Shelve (operand 0 4 s) else
    if b =? 0x04 then Withdraw (operand 0 2 s) else
    if b =? 0x05 then Switch (production_of (operand 0 1 s)) else
    if b =? 0x06 then Reserve (operand 0 4 s) (operand 4 4 s) else
    if b =? 0x07 then Settle (operand 0 2 s) (operand 2 4 s) else
    Count

-- "18 … for a byte above 1": 05 names no production.
abbrev pub names_none : ℕ → List ℕ → Bool
names_none b s = (b =? 0x05) && (1 <? operand 0 1 s)

-- What stands at the front of a stream after the opening: a whole command and its operand width, or a fault.
pub data Front : Type 0 where
  whole : Command → ℕ → Front
  faulty : StreamReason → Front

-- For byte b with s behind it the order is 2, 4, 3, 18.
abbrev pub front : (b : ℕ) (s : List ℕ) → Option ℕ → Front
front b s None = faulty UnknownOpcode
front b s (Some width) =
    if is_opening b then faulty SecondOpening else
    if length s <? width then faulty CutShort else
    if names_none b s then faulty NoProduction else
    whole (command_of b s) width

-- The front of a stream that is not empty. (Of an empty one it is never asked; it has no whole command.)
abbrev pub front_of : List ℕ → Front
front_of [] = faulty UnknownOpcode
front_of (b ∷ s) = front b s (lookup b widths)

-- A whole command stands at the front.
pub record WholeFront (s : List ℕ) : Type 0 where
  pub command : Command
  pub width : ℕ
  pub front_is : front_of s ≡ whole command width

-- What a stream is read as: its opening and commands, or a refusal and its offset.
pub data Read : Type 0 where
  accepted : Opening → List Command → Read
  refused : StreamReason → ℕ → Read

abbrev pub follow : Command → Read → Read
follow c (accepted o cs) = accepted o (c ∷ cs)
follow c (refused reason offset) = refused reason offset

-- "What follows a command is read as a stream of its own": from its offset on, with so many commands left to it. Refusal 6 comes first.
unfoldable pub commands : Opening → (left offset : ℕ) → List ℕ → Read
commands o zero offset [] = accepted o []
commands o zero offset (b ∷ s) = refused TooManyCommands offset
commands o (suc left) offset [] = accepted o []
commands o (suc left) offset (b ∷ s) = elim (front_of (b ∷ s)) [
  | faulty reason ↦ refused reason offset
  | whole c width ↦ follow c (commands o left (offset + suc width) (drop width s))
]

-- The whole stream is read before any item is placed; its first faulty command decides. At the opening the order is 1, 3, 5.
unfoldable pub read : List ℕ → Read
read [] = refused NoOpening 0
read (b ∷ s) =
    if not (is_opening b) then refused NoOpening 0 else
    if length s <? opening_width b then refused CutShort 0 else
    if not (opening_good (opening_of b s)) then refused OutsideLimits 0 else
    commands (opening_of b s) most_commands (suc (opening_width b)) (drop (opening_width b) s)

-- Two rows are lent, and "refusal 7 covers a shortage in either row": so many commands have a word in both.
abbrev pub words_lent : (answers free : List ℕ) → ℕ
words_lent answers free = min (length answers) (length free)

-- Refusal 7 comes last of the stream's: fewer words lent than commands, at the length of the stream.
abbrev pub lent : (words bytes : ℕ) → Read → Read
lent words bytes (accepted o cs) = if words <? length cs then refused TooFewWords bytes else accepted o cs
lent words bytes (refused reason offset) = refused reason offset

-- An accepted stream is one that no stream refusal stops.
abbrev pub verdict : (stream : List ℕ) (words : ℕ) → Read
verdict stream words = lent words (length stream) (read stream)
