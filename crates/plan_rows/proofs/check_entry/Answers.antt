-- `check_entry` meets its contract: each way out is the fault that its tests leave.
use Rattle.std.proofs.Common.{◌≡◌, true, ◌+◌, ◌≤◌, ◌<◌, get_or, sym, arith, lt-ltb, le-ltb, eq-eqb, ne_eqb}
use Rattle.packing.specs.declared.PlanReason.TheVariants.{SizeOutside, BinOutside, Overfull, OtherItems}
use Rattle.packing.specs.Limits.{within, most_rows}
use Rattle.packing.specs.Plans.{fault}
use Rattle.packing.proofs.Limits.{within_limits}
use Rattle.plan_rows.proofs.Steps.{summed, faulty, sound}
use Rattle.plan_rows.proofs.check_entry.Goals as goal

pub returns-then-size-item : goal.returns-then-size-item
unfolding fault
returns-then-size-item c =
    faulty _ _ _ _ _ _ c.requires.loads OtherItems (λ before r. rw (ne_eqb c.args.entry.size c.args.item c.if-size-item.true))

pub returns-then-not-is_within : goal.returns-then-not-is_within
unfolding fault
returns-then-not-is_within c =
    faulty _ _ _ _ _ _ c.requires.loads SizeOutside
    (λ before r. rw (eq-eqb c.args.entry.size c.args.item c.if-size-item.false, sym c.if-not-is_within.ensures))

pub returns-then-not-is_within-2 : goal.returns-then-not-is_within-2
unfolding fault
returns-then-not-is_within-2 c =
    let sized : within 1 c.args.capacity c.args.entry.size ≡ true = sym c.if-not-is_within.ensures in
    faulty _ _ _ _ _ _ c.requires.loads BinOutside
    (λ before r. rw (eq-eqb c.args.entry.size c.args.item c.if-size-item.false, sized, sym c.if-not-is_within-2.ensures))

pub returns-then-capacity-load : goal.returns-then-capacity-load
unfolding fault
returns-then-capacity-load c =
    let held = get_or c.args.loads.now c.args.entry.bin 0 in
    let sized : within 1 c.args.capacity c.args.entry.size ≡ true = sym c.if-not-is_within.ensures in
    let numbered : within 1 c.args.k c.args.entry.bin ≡ true = sym c.if-not-is_within-2.ensures in
    let low : c.args.entry.bin ≤ most_rows = omega (arith, within_limits 1 c.args.k c.args.entry.bin numbered, c.requires.loads.k_most) in
    let over : c.args.capacity < held + c.args.entry.size = omega arith in
    let load = summed c.args.loads.now c.args.entry low in
    faulty _ _ _ _ _ _ c.requires.loads Overfull
    (λ before r. rw (eq-eqb c.args.entry.size c.args.item c.if-size-item.false, sized, numbered, load before r, lt-ltb _ _ over))

pub returns : goal.returns
unfolding fault
returns c =
    let held = get_or c.args.loads.now c.args.entry.bin 0 in
    let sized : within 1 c.args.capacity c.args.entry.size ≡ true = sym c.if-not-is_within.ensures in
    let numbered : within 1 c.args.k c.args.entry.bin ≡ true = sym c.if-not-is_within-2.ensures in
    let low : c.args.entry.bin ≤ most_rows = omega (arith, within_limits 1 c.args.k c.args.entry.bin numbered, c.requires.loads.k_most) in
    let fits : held + c.args.entry.size ≤ c.args.capacity = omega arith in
    let load = summed c.args.loads.now c.args.entry low in
    sound _ _ _ _ _ _ c.requires.loads low fits
    (λ before r. rw (eq-eqb c.args.entry.size c.args.item c.if-size-item.false, sized, numbered, load before r, le-ltb _ _ fits))
