-- `settle_down` meets its contract: what the note tells of the item, and then each step of the way out.
use Rattle.std.proofs.Common.{arith}
use Rattle.settlement.proofs.Ways.{in_stock, frees, counted_few, settleable, rises, done_settled}
use Rattle.settlement.proofs.settle_down.Goals as goal

-- The size is small, and so is the bin's number.
pub overflow_add-stored : goal.overflow_add-stored
overflow_add-stored c = omega (arith, frees c.requires, counted_few c.requires, c.requires.waits.sound.capacity)

pub overflow_sub-freed : goal.overflow_sub-freed
overflow_sub-freed c = omega (arith, frees c.requires)

pub overflow_cast-bin : goal.overflow_cast-bin
overflow_cast-bin c =
    let sound = c.requires.waits.sound in
    omega (arith, in_stock c.requires, sound.fitted.enough, sound.index.forest.few)

pub settle-row-requires : goal.settle-row-requires
settle-row-requires c = settleable c.requires

pub show_freed-requires : goal.show_freed-requires
show_freed-requires c = rises c.requires c.settle-row.ensures

pub returns : goal.returns
returns c = rw c.give.ensures (done_settled c.requires c.settle-row.ensures c.show_freed.ensures _ _)
