-- What `record` returns and leaves of a stream: the ledgers of an accepted one record the packings of the two productions.
use mathlib.Core.Path.{◌≡◌, refl, ◌∙◌}
use mathlib.Core.List.{List}
use Prim.Native.Nat.{ℕ}
use lib.ListN.{drop}
use Rattle.packing.specs.declared.{Opening.Opening, Command.Command, StreamReason.StreamReason, StreamTotals.StreamTotals, Refusal.Refusal}
use Rattle.packing.specs.Prelude.{Ok, Err}
use Rattle.packing.specs.Limits.{most_commands}
use Rattle.packing.specs.Streams.{first_byte, opening_of, Read, accepted, refused, verdict}
use Rattle.packing.specs.Run.{result}
use Rattle.packing.specs.Claims.{WholeStream}
use Rattle.packing.proofs.Tests.{clash}
use Rattle.packing.proofs.Accepted.{accepted_whole}
use Rattle.reader.specs.Reading.{Opened}
use Rattle.reader.proofs.Openings.{whole_opened}
use Rattle.stream.specs.Recorded.{BothRecorded, Recorded}
use Rattle.ledger.specs.declared.Row.{Row}

-- Accepted, where as many words are lent as there can be commands: the ledgers have its bins.
pub record Shelved (stream : List ℕ) (first second : List Row) : Type 0 where
  pub opening : Opening
  pub commands : List Command
  pub accepts : verdict stream most_commands ≡ accepted opening commands
  pub records : BothRecorded opening commands first second

pub shelved : {stream : List ℕ} {first second : List Row} {totals : StreamTotals} → Ok totals ≡ result (verdict stream most_commands)
    → Recorded (verdict stream most_commands) first second → Shelved stream first second
shelved {stream = stream} {first = first} {second = second} {totals = totals} e k = go (verdict stream most_commands) refl e k
  where
    go : (r : Read) → verdict stream most_commands ≡ r → Ok totals ≡ result r → Recorded r first second → Shelved stream first second
    go (accepted o cs) p q h = record { opening = o; commands = cs; accepts = p; records = h }
    go (refused reason offset) p q h = clash (cc)

module _ {stream : List ℕ} {first second : List Row} (k : Shelved stream first second) where
  pub shelved_whole : WholeStream stream most_commands k.opening k.commands
  shelved_whole = accepted_whole most_commands k.opening k.commands stream k.accepts

  pub shelved_opening : Opened stream
  shelved_opening = whole_opened stream most_commands k.opening k.commands shelved_whole

  -- The opening that is read at the front is the stream's.
  pub shelved_same : {o : Opening} → o ≡ opening_of (first_byte stream) (drop 1 stream) → o ≡ k.opening
  shelved_same e = e ∙ shelved_whole.opening_is

-- Refused: what is returned tells the verdict.
pub not_shelved : (r : Read) {refusal : Refusal StreamReason} → Err refusal ≡ result r → r ≡ refused refusal.reason refusal.place
not_shelved (accepted o cs) e = clash (cc)
not_shelved (refused reason offset) e = cc
