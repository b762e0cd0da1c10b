-- `check_rows` meets its contract: the core's equation, in document 01's numbers, and what the checker passes.
use Rattle.worst_case.proofs.PlanFits.{exact_as}
use Rattle.shelf.proofs.check_rows.Goals as goal

pub returns-clause-exact : goal.returns-clause-exact
returns-clause-exact c = exact_as _ _ _ _ _ c.check_rows.ensures
