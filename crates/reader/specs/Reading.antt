-- What the reader answers, in the model's terms.
use Rattle.std.specs.Prelude.{List, ◌≡◌, ℕ, ◌≤◌, length, true, Result, Ok}
use Rattle.packing.specs.Streams.{is_opening, first_byte, opening_length, Read, accepted, refused}
use Rattle.packing.specs.declared.{StreamReason.StreamReason, Refusal.Refusal}
use Rattle.packing.specs.Refusing.{refuse}
use Rattle.reader.specs.declared.{Accepted.Accepted}

-- A whole opening stands at the front.
pub record Opened (s : List ℕ) : Type 0 where
  pub first : is_opening (first_byte s) ≡ true
  pub all : opening_length s ≤ length s

-- What the first pass keeps of a reading: of the commands, their number.
abbrev pub summary : Read → Result Accepted (Refusal StreamReason)
summary (accepted o cs) = Ok (record { opening = o; commands = length cs })
summary (refused reason offset) = refuse reason offset
