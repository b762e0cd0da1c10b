-- The table of ../specs/Worked.antt, proved together by one theorem that computes over it.
use Rattle.std.specs.Prelude.{◌≡◌}
use Rattle.packing.specs.Prelude.{refl, map, zip_with, flatten, total, greatest, any, keep}
use Rattle.packing.specs.SizeClasses.{size_class}
use Rattle.packing.specs.Placing.{first_fit, put, decision, placed}
use Rattle.packing.specs.Looks.{height_from, looks}
use Rattle.packing.specs.Streams.{widths, lookup, commands, read}
use Rattle.packing.specs.Withdrawing.{without, withdrawal}
use Rattle.packing.specs.Settling.{settling, settlement}
use Rattle.packing.specs.Run.{run_from, shelf_from, steps_of}
use Rattle.packing.specs.Counting.{stock_places, walk}
use Rattle.packing.specs.Plans.{limits, fault, entries, check}
use Rattle.packing.specs.Compared.{used}
use Rattle.packing.specs.Rows.{check_limits, check_sizes}
use Rattle.packing.specs.Worked.{table}

pub worked_shelves : map (λ c. c.0) table ≡ map (λ c. c.1) table
unfolding table size_class total greatest any keep first_fit put decision placed height_from looks without withdrawal settling settlement run_from shelf_from steps_of stock_places walk zip_with flatten used limits fault entries check check_limits check_sizes widths lookup commands read
worked_shelves = refl
