-- `take_out` meets its contract: what the note tells of the item, and then each step of the way out.
use Rattle.std.proofs.Common.{arith}
use Rattle.aim.proofs.Aiming.{only_a_lem}
use Rattle.withdrawal.proofs.Ways.{in_stock, leavable, some_held, freed, done_withdrawn}
use Rattle.withdrawal.proofs.take_out.Goals as goal

-- The bin's number is small.
pub overflow_cast-bin : goal.overflow_cast-bin
overflow_cast-bin c = omega (arith, in_stock c.requires, c.requires.sound.fitted.enough, c.requires.sound.index.forest.few)

pub withdraw-next-requires : goal.withdraw-next-requires
withdraw-next-requires c = some_held c.requires

pub leave-row-requires : goal.leave-row-requires
leave-row-requires c = rw (c.a_of-a.ensures, only_a_lem) (leavable c.requires)

pub show_freed-requires : goal.show_freed-requires
show_freed-requires c = freed c.requires (rw (c.a_of-a.ensures, only_a_lem) at c.leave-row.ensures)

pub returns : goal.returns
returns c =
    rw (c.give.ensures, c.withdraw-next.ensures)
    (done_withdrawn c.requires (rw (c.a_of-a.ensures, only_a_lem) at c.leave-row.ensures) c.show_freed.ensures _ _)
