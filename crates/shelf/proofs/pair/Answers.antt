-- `pair` meets its contract: the equation of crate pairs, in the documents' numbers, and what is proved of two rows.
use Rattle.packing.proofs.Rows.{pair_exact}
use Rattle.matching.proofs.Promises.{pairs_promised}
use Rattle.shelf.proofs.pair.Goals as goal

pub returns-clause-exact : goal.returns-clause-exact
returns-clause-exact c = pair_exact _ _ _ _

pub returns-clause-promises : goal.returns-clause-promises
returns-clause-promises c = pairs_promised c.args.capacity c.args.pictures.now c.args.sounds.now
