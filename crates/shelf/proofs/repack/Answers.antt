-- `repack` meets its contract: the equation of crate repack, in the documents' numbers, and what is proved of a row.
use Rattle.packing.proofs.Rows.{rows_exact}
use Rattle.decreasing.proofs.Promises.{promised}
use Rattle.shelf.proofs.repack.Goals as goal

pub returns-clause-exact : goal.returns-clause-exact
returns-clause-exact c = rows_exact _ _ _

pub returns-clause-promises : goal.returns-clause-promises
returns-clause-promises c = promised c.args.capacity _ c.args.sizes.now
