-- After all commands of an accepted stream, in each production: the number of bins that it opened, and the lesser of the whole stock and that figure
-- plus one. After a refused one there is none.
use Rattle.std.specs.Prelude.{ℕ, ◌+◌, min, Option, Some, None}
use Rattle.packing.specs.declared.Tally.{Tally}
use Rattle.packing.specs.declared.Production.TheVariants.{First, Second}
use Rattle.packing.specs.Bins.{Packing, opened}
use Rattle.packing.specs.Streams.{Read, accepted, refused}
use Rattle.packing.specs.Run.{packing}
use Rattle.count_walk.specs.declared.Tallies.{Tallies}

abbrev pub tally_of : (stock : ℕ) → Packing → Tally
tally_of stock p = record { figure = opened p; read = min stock (opened p + 1) }

abbrev pub after : Read → Option Tallies
after (accepted o cs) = Some (record { first = tally_of o.stock (packing o First cs); second = tally_of o.stock (packing o Second cs) })
after (refused reason offset) = None
