-- `classify` meets its contract: the three choices are the class by the whole units of the parts.
use Rattle.size_classes.proofs.Parts.{by_parts}
use Rattle.size_classes.proofs.classify.Goals as goal

pub returns : goal.returns
returns c = rw (c.above.ensures, c.above-middle.ensures, c.above-large.ensures) (by_parts _ _ _)
