-- The ledgers after a stream: each records the packing of its production after all commands of an accepted one, and is blank, as it was lent, where the
-- stream is refused.
use Rattle.std.specs.Prelude.{◌≡◌, List, replicate}
use Rattle.packing.specs.declared.{Opening.Opening, Command.Command}
use Rattle.packing.specs.declared.Production.TheVariants.{First, Second}
use Rattle.packing.specs.Streams.{Read, accepted, refused}
use Rattle.packing.specs.Run.{packing}
use Rattle.ledger.specs.declared.Row.{Row}
use Rattle.ledger.specs.Rows.{places, blank}
use Rattle.ledger.specs.Records.{Records}

pub record BothRecorded (o : Opening) (cs : List Command) (first second : List Row) : Type 0 where
  pub first_is : Records o first (packing o First cs)
  pub second_is : Records o second (packing o Second cs)

abbrev pub Recorded : Read → (first second : List Row) → Type 0
Recorded (accepted o cs) first second = BothRecorded o cs first second
Recorded (refused reason offset) first second = (first ≡ replicate places blank) × (second ≡ replicate places blank)
