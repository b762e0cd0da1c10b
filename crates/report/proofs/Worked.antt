-- The table of ../specs/Worked.antt, proved together by one theorem that computes over it.
use Rattle.std.specs.Prelude.{◌≡◌, refl, map}
use mathlib.Core.List.{flatten}
use Rattle.packing.specs.Placing.{first_fit, put, decision, placed}
use Rattle.packing.specs.Looks.{height_from, looks}
use Rattle.packing.specs.Prelude.{total, greatest, any, keep}
use Rattle.packing.specs.Withdrawing.{without, withdrawal}
use Rattle.packing.specs.Settling.{settling, settlement}
use Rattle.packing.specs.SizeClasses.{size_class}
use Rattle.packing.specs.Streams.{widths, lookup, commands, read}
use Rattle.packing.specs.Run.{run_from, shelf_from, steps_of}
use Rattle.text.specs.Lines.{digits, decimal, line}
use Rattle.report.specs.Lines.{text, printing, printed}
use Rattle.report.specs.Worked.{bytes, table}

pub worked_texts : map (λ c. printed c.0) table ≡ map (λ c. bytes c.1) table
unfolding table bytes printed printing text line decimal digits size_class total greatest any keep first_fit put decision placed height_from looks without withdrawal settling settlement run_from shelf_from steps_of flatten widths lookup commands read
worked_texts = refl
