-- The measure is the height.
use Rattle.tournament.proofs.looks.+descend.Given as goal

abbrev pub decreases-descend : goal.decreases-descend
decreases-descend l = l.height
