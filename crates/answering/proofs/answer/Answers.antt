-- `answer` meets its contract: a count is the figure of the walk; the search finds the rest.
use Rattle.answering.proofs.Told.{done_count}
use Rattle.answering.proofs.answer.Goals as goal

pub returns-in-Count : goal.returns-in-Count
returns-in-Count c = rw (c.in-Count.is, c.give.ensures) (done_count c.requires.sound c.count-tally.ensures)
