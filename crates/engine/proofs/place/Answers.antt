-- `place` meets its contract: without a fault and up to the largest size that a bin can hold it is placed; else a fault is refused first, and then 9.
use Rattle.std.proofs.Common.{◌≡◌, ◌-◌, ◌<◌, None, false, sym, ◌∙◌, arith}
use borrow.Author.Tests.{leb-false}
use Rattle.packing.specs.Bins.{stored}
use Rattle.packing.specs.Sending.{size_of, fault, item_of}
use Rattle.packing.proofs.Looks.{looks_faulty, looks_above}
use Rattle.packing.proofs.Decided.{is_faulty, is_above, decides}
use Rattle.sending.specs.Sent.{may_fit}
use Rattle.sending.proofs.Sent.{some_fault}
use Rattle.engine.proofs.Ways.{refused_so, looks_so, done_refused}
use Rattle.engine.proofs.place.Goals as goal

pub returns-in-Some : goal.returns-in-Some
returns-in-Some c =
    let o = c.args.terms.opening in
    let command = c.args.command in
    let why = sym c.in-Some.ensures in
    let sends = c.requires.sends in
    rw c.refuse.ensures
    (done_refused c.requires.ready.sound
    (λ p r. refused_so o c.args.terms.left p c.args.number command sends (decides o p _ _ (fault command) _ (is_faulty _ why)))
    (λ p r. looks_so o p c.args.number command sends (looks_faulty o p (item_of o c.args.number command) (fault command) (some_fault command why))))

pub returns : goal.returns
returns c =
    let o = c.args.terms.opening in
    let command = c.args.command in
    let sends = c.requires.sends in
    let whole : fault command ≡ None = sym c.in_default.ensures in
    let tested : may_fit command (o.capacity - o.trailer) ≡ false = rw (← c.largest-most.ensures) (sym c.may_fit.ensures ∙ c.if-may_fit.false) in
    let larger : o.capacity < stored o (size_of command) = omega (arith, leb-false (size_of command) (o.capacity - o.trailer) (rw whole at tested)) in
    rw c.refuse-2.ensures
    (done_refused c.requires.ready.sound
    (λ p r. refused_so o c.args.terms.left p c.args.number command sends (decides o p _ _ (fault command) _ (is_above whole larger)))
    (λ p r. looks_so o p c.args.number command sends (looks_above o p (item_of o c.args.number command) (fault command) larger)))
