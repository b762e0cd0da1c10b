-- A look at the root, and the descent from there.
use Rattle.std.proofs.Common.{arith}
use Rattle.tournament.proofs.Halves.{height_few, root, root_found, root_lacking}
use Rattle.tournament.proofs.looks.find.Goals as goal

pub returns-then-largest-need : goal.returns-then-largest-need
returns-then-largest-need c = record { lowest = root_lacking c.requires.tree _ (omega arith); counted = omega arith }

pub descend-leaf-requires-clause-descent : goal.descend-leaf-requires-clause-descent
descend-leaf-requires-clause-descent c = root c.requires.tree _ (omega arith)

pub descend-leaf-requires-clause-few : goal.descend-leaf-requires-clause-few
descend-leaf-requires-clause-few c = omega (arith, height_few c.requires.tree)

pub returns : goal.returns
returns c = record { lowest = root_found c.requires.tree _ _ c.descend-leaf.ensures.first; counted = omega arith }
