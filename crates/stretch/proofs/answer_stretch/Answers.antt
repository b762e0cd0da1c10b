-- `answer_stretch` meets its contract: a command at the front is one further, in the same production or over to the other.
use Rattle.std.proofs.Common.{◌≡◌, ◌+◌, sym, ◌∙◌, arith}
use Rattle.packing.specs.Streams.{whole, front_of}
use Rattle.packing.proofs.Fronts.{whole_passed}
use Rattle.packing.proofs.Walking.{part_is}
use Rattle.stretch.proofs.Stretching.{stretching_start, stretching_few, stretching_whole, stretching_end, stretching_ready, stretching_word, stretching_next, stretching_left}
use Rattle.stretch.proofs.answer_stretch.Goals as goal

pub loop-rest-init : goal.loop-rest-init
loop-rest-init c = stretching_start c.requires

pub accepted_front-front-requires : goal.accepted_front-front-requires
accepted_front-front-requires c = stretching_whole c.loop-rest.invariant c.loop-rest-test.true

-- The command stands inside.
pub overflow_add-used : goal.overflow_add-used
overflow_add-used c =
    omega (arith, (whole_passed _ _ _ (sym c.accepted_front-front.ensures)).inside, c.loop-rest.invariant.inside)

pub slice_bounds-rest-count : goal.slice_bounds-rest-count
slice_bounds-rest-count c = (whole_passed _ _ _ (sym c.accepted_front-front.ensures)).inside

pub slice_bounds-rest-start : goal.slice_bounds-rest-start
slice_bounds-rest-start c = omega (arith, (whole_passed _ _ _ (sym c.accepted_front-front.ensures)).inside)

pub overflow_add-number : goal.overflow_add-number
overflow_add-number c = omega (arith, stretching_few c.loop-rest.invariant)

pub answer-step-requires : goal.answer-step-requires
answer-step-requires c = stretching_ready c.loop-rest.invariant _ _ (sym c.accepted_front-front.ensures)

pub write_words-requires : goal.write_words-requires
write_words-requires c = stretching_word c.loop-rest.invariant _ _ (sym c.accepted_front-front.ensures) _ c.answer-step.ensures.numbered

pub returns-then-not-on : goal.returns-then-not-on
returns-then-not-on c =
    let rest = c.loop-rest.rest.now in
    let width = c.accepted_front-front.result.width in
    let front : front_of rest ≡ whole c.accepted_front-front.result.command width = sym c.accepted_front-front.ensures in
    rw c.ended.ensures
    (stretching_left c.loop-rest.invariant _ width front _ _ _ _ _ _ _ c.answer-step.ensures c.write_words.ensures c.larger-looks.ensures
    (part_is rest (width + 1) (whole_passed _ _ _ front).inside) (sym c.if-not-on.true ∙ c.stays-on.ensures))

pub loop-rest-preserved : goal.loop-rest-preserved
loop-rest-preserved c =
    let rest = c.loop-rest.rest.now in
    let width = c.accepted_front-front.result.width in
    let front : front_of rest ≡ whole c.accepted_front-front.result.command width = sym c.accepted_front-front.ensures in
    stretching_next c.loop-rest.invariant _ width front _ _ _ _ _ _ _ c.answer-step.ensures c.write_words.ensures c.larger-looks.ensures
    (part_is rest (width + 1) (whole_passed _ _ _ front).inside) (sym c.if-not-on.false ∙ c.stays-on.ensures)

pub returns : goal.returns
returns c = rw c.ended-2.ensures (stretching_end c.loop-rest.invariant c.loop-rest-test.false)
