-- `answer_turns` meets its contract: each production is answered beside the other, and a turn is a stretch of each.
use Rattle.packing.proofs.Walking.{part_is}
use Rattle.turns.proofs.Going.{first_startable, second_startable, second_next, turning_start, turning_here, turning_next, turning_end}
use Rattle.turns.proofs.answer_turns.Goals as goal

pub loop-later-init : goal.loop-later-init
loop-later-init c = rw c.blank-store1.ensures (turning_start c.requires)

pub terms_beside-terms-requires : goal.terms_beside-terms-requires
terms_beside-terms-requires c = (turning_here c.loop-later.invariant).first_sound.within

pub answer_stretch-one-requires : goal.answer_stretch-one-requires
answer_stretch-one-requires c = second_startable _ (turning_here c.loop-later.invariant) c.terms_beside-terms.ensures

pub answer_stretch-turn-requires : goal.answer_stretch-turn-requires
answer_stretch-turn-requires c =
    let one = c.answer_stretch-one in
    first_startable _
    (second_next _ (turning_here c.loop-later.invariant) c.terms_beside-terms.ensures one.ensures (part_is c.loop-later.later.now one.result.passed one.ensures.inside))
    c.terms_beside-terms-in-loop-later.ensures

pub loop-later-preserved : goal.loop-later-preserved
loop-later-preserved c =
    let one = c.answer_stretch-one in
    turning_next c.loop-later.invariant _ _
    c.terms_beside-terms.ensures one.ensures (part_is c.loop-later.later.now one.result.passed one.ensures.inside)
    c.terms_beside-terms-in-loop-later.ensures c.answer_stretch-turn.ensures (part_is _ _ c.answer_stretch-turn.ensures.inside)

pub returns : goal.returns
returns c = turning_end c.loop-later.invariant c.loop-later-test.false
