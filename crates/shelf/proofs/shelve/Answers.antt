-- `shelve` meets its contract: the equations are those of the stream's call, and what holds of an accepted stream is a theorem about the model (promises).
use Rattle.promises.proofs.Promises.{promises}
use Rattle.shelf.proofs.shelve.Goals as goal

pub returns-clause-promises : goal.returns-clause-promises
returns-clause-promises c = promises _ _
