-- `show_beside` meets its contract: beside an A only a row of class 1 is shown.
use Rattle.index.proofs.Showing.{shown_once, shown_twice}
use Rattle.index.proofs.show_beside.Goals as goal

pub returns-then-row-eq1 : goal.returns-then-row-eq1
returns-then-row-eq1 c = λ t h s. shown_twice h s c.if-row-eq1.true (rw c.beside_a-beside.ensures at c.store.ensures)

pub returns-else-row-eq1 : goal.returns-else-row-eq1
returns-else-row-eq1 c = λ t h s. shown_once h s c.if-row-eq1.false
