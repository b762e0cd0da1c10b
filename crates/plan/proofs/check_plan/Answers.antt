-- `check_plan` meets its contract: the walk ends at the first entry that is refused, or after the last item.
use Rattle.std.proofs.Common.{sym, ap, ◌≡◌, arith, length-append}
use Rattle.std.proofs.lemmas.Result.{err_from_is_err_and}
use Rattle.packing.specs.Refusing.{pass}
use Rattle.packing.specs.Refusals.{plan_gives}
use Rattle.packing.specs.Plans.{check}
use Rattle.worst_case.proofs.PlanFits.{exact_as}
use Rattle.plan_rows.proofs.Checking.{blank, limits_refused, one_length, checking_start, checking_next, checking_refused, checking_passed}
use Rattle.plan.proofs.Numbered.{at_pair, at_end}
use Rattle.plan.proofs.check_plan.Goals as goal

limited : (c : goal.After-from_residual) → c.from_residual.result ≡ check c.args.capacity c.args.k c.args.plan.now c.args.items.now
limited c =
    let p = err_from_is_err_and c.from_residual.result c.from_residual.ensures.1 in
    rw (p.1, p.2) (limits_refused _ _ _ _ _ c.in_err-check_limits.ensures)

pub returns-in_err-check_limits-clause-result : goal.returns-in_err-check_limits-clause-result
returns-in_err-check_limits-clause-result c = ap plan_gives (limited c)

pub returns-in_err-check_limits-clause-exact : goal.returns-in_err-check_limits-clause-exact
returns-in_err-check_limits-clause-exact c = exact_as _ _ _ _ _ (limited c)

pub loop-i-init : goal.loop-i-init
loop-i-init c = checking_start _ _ _ _ (sym c.in_ok-check_limits.ensures)

pub check_entry-requires-clause-loads : goal.check_entry-requires-clause-loads
check_entry-requires-clause-loads c = c.loop-i.invariant.kept

pub loop-i-preserved : goal.loop-i-preserved
loop-i-preserved c =
    let w = at_pair c.args.plan.now c.args.items.now c.loop-i.yielded _ _ (cc) (cc) (cc) c.loop-i.yielded_by c.next.new.self _ _ c.in-Some.is c.next.ensures.steps in
    rw length-append
    (checking_next _ _ _ _ _ _ c.loop-i.invariant w.1 _ (sym (w.3 blank)) _ (rw (w.2, w.4 0) at c.in_ok-check_entry.ensures))

refused : (c : goal.After-from_residual-in_err-check_entry) → c.from_residual-in_err-check_entry.result ≡ check c.args.capacity c.args.k c.args.plan.now c.args.items.now
refused c =
    let w = at_pair c.args.plan.now c.args.items.now c.loop-i.yielded _ _ (cc) (cc) (cc) c.loop-i.yielded_by c.next.new.self _ _ c.in-Some.is c.next.ensures.steps in
    let p = err_from_is_err_and c.from_residual-in_err-check_entry.result c.from_residual-in_err-check_entry.ensures.1 in
    rw (p.1, p.2)
    (checking_refused _ _ _ _ _ _ c.loop-i.invariant w.1 _ (sym (w.3 blank)) _ _ (rw (w.2, w.4 0) at c.in_err-check_entry.ensures))

pub returns-in_err-check_entry-clause-result : goal.returns-in_err-check_entry-clause-result
returns-in_err-check_entry-clause-result c = ap plan_gives (refused c)

pub returns-in_err-check_entry-clause-exact : goal.returns-in_err-check_entry-clause-exact
returns-in_err-check_entry-clause-exact c = exact_as _ _ _ _ _ (refused c)

passed : (c : goal.In-None) → pass ≡ check c.args.capacity c.args.k c.args.plan.now c.args.items.now
passed c =
    let w = at_end c.args.plan.now c.args.items.now c.loop-i.yielded _ _ (cc) (cc) (cc) c.loop-i.yielded_by c.next.new.self _ c.in-None.is c.next.ensures.steps in
    checking_passed _ _ _ _ _ _ c.loop-i.invariant (omega (arith, w, one_length _ _ _ _ _ _ c.loop-i.invariant))

pub returns-clause-result : goal.returns-clause-result
returns-clause-result c = ap plan_gives (passed c)

pub returns-clause-exact : goal.returns-clause-exact
returns-clause-exact c = exact_as _ _ _ _ _ (passed c)
