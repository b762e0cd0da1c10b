-- `print_sheet` meets its contract: the bytes are those of `sheet::print`, and what holds of an accepted stream is a theorem about the sheet.
use Rattle.sheet.proofs.Theorems.{sheet_promises}
use Rattle.shelf.proofs.print_sheet.Goals as goal

pub returns-clause-promises : goal.returns-clause-promises
returns-clause-promises c = sheet_promises c.args.stream.now
