-- `show_freed` meets its contract: the row is shown in the tree of its class, and what it offers beside an A then.
use Rattle.index.proofs.Showing.{still_showable}
use Rattle.index.proofs.show_freed.Goals as goal

pub show_beside-requires : goal.show_beside-requires
show_beside-requires c = still_showable c.requires.showable c.raise.ensures

pub returns : goal.returns
returns c = c.show_beside.ensures _ c.requires.showable c.raise.ensures
