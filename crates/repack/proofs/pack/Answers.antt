-- A tree of zeros shows that no bin is opened; each turn packs one item more; in the end none is left.
use Rattle.std.proofs.Common.{refl, arith}
use Rattle.tournament.specs.Trees.{row_words}
use Rattle.repack.proofs.Packing.{underway_start, bin_few, underway_next, underway_end}
use Rattle.repack.proofs.pack.Goals as goal

pub loop-word-init : goal.loop-word-init
loop-word-init c = underway_start _ _ _ _ c.shape_of-shape.ensures c.requires.few row_words refl

pub overflow_cast-answers : goal.overflow_cast-answers
overflow_cast-answers c =
    omega (arith, bin_few _ _ _ c.requires c.shape_of-shape.ensures c.loop-word.invariant c.loop-word-test.true c.place-bin.ensures)

pub loop-word-preserved : goal.loop-word-preserved
loop-word-preserved c =
    rw c.max-count.ensures (underway_next _ _ _ c.requires c.shape_of-shape.ensures c.loop-word.invariant c.loop-word-test.true c.place-bin.ensures)

pub returns : goal.returns
returns c = underway_end _ _ _ (omega arith) c.loop-word.invariant
