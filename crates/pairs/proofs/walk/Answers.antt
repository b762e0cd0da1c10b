-- Each turn tries one sound more; in the end no picture, or no sound, is left.
use Rattle.std.proofs.Common.{rules, arith}
use Rattle.pairs.proofs.Walking.{underway_start, no_picture_left, no_sound_left, underway_next}
use Rattle.pairs.proofs.walk.Goals as goal

pub loop-sound-init : goal.loop-sound-init
loop-sound-init c = underway_start _ _ _ _ _ (search rules)

pub loop-sound-preserved-then-try_pair : goal.loop-sound-preserved-then-try_pair
loop-sound-preserved-then-try_pair c =
    rw c.if-try_pair.true
    at (underway_next _ _ _ c.loop-sound.invariant (omega (arith, c.loop-sound.invariant.in_row)) _ _ c.in-Some.ensures.steps c.try_pair.ensures)

pub loop-sound-preserved : goal.loop-sound-preserved
loop-sound-preserved c =
    rw c.if-try_pair.false
    at (underway_next _ _ _ c.loop-sound.invariant (omega (arith, c.loop-sound.invariant.in_row)) _ _ c.in-Some.ensures.steps c.try_pair.ensures)

pub returns-then-paired-pictures : goal.returns-then-paired-pictures
returns-then-paired-pictures c = no_picture_left _ _ _ c.loop-sound.invariant (omega arith)

pub returns : goal.returns
returns c = no_sound_left _ _ _ c.loop-sound.invariant c.in-None.ensures.steps.0
