-- `check_rows` meets its contract: the walk ends at the first entry that is refused, or after the last item.
use Rattle.std.proofs.Common.{sym}
use Rattle.std.proofs.lemmas.Result.{err_from_is_err_and}
use Rattle.plan_rows.proofs.Checking.{rows_refused, rows_start, rows_inside, rows_at, checking_next, checking_refused, checking_passed}
use Rattle.plan_rows.proofs.check_rows.Goals as goal

pub returns-in_err-check_limits : goal.returns-in_err-check_limits
returns-in_err-check_limits c =
    let p = err_from_is_err_and c.from_residual.result c.from_residual.ensures.1 in
    rw (p.1, p.2) (rows_refused _ _ _ _ _ _ (rw c.min-rows.ensures at c.in_err-check_limits.ensures))

pub loop-i-init : goal.loop-i-init
loop-i-init c = rows_start _ _ _ _ _ (sym (rw c.min-rows.ensures at c.in_ok-check_limits.ensures))

pub bounds-sizes-i : goal.bounds-sizes-i
bounds-sizes-i c = (rows_inside _ _ _ _ _ _ _ c.loop-i.invariant c.loop-i-test.true).0

pub bounds-bins-i : goal.bounds-bins-i
bounds-bins-i c = (rows_inside _ _ _ _ _ _ _ c.loop-i.invariant c.loop-i-test.true).1

pub returns-in_err-check_entry : goal.returns-in_err-check_entry
returns-in_err-check_entry c =
    let p = err_from_is_err_and c.from_residual-in_err-check_entry.result c.from_residual-in_err-check_entry.ensures.1 in
    rw (p.1, p.2)
    (checking_refused _ _ _ _ _ _ c.loop-i.invariant c.loop-i-test.true _ (rows_at _ _ _ _ _ _ _ c.loop-i.invariant c.loop-i-test.true) _ _ c.in_err-check_entry.ensures)

pub loop-i-preserved : goal.loop-i-preserved
loop-i-preserved c =
    checking_next _ _ _ _ _ _ c.loop-i.invariant c.loop-i-test.true _ (rows_at _ _ _ _ _ _ _ c.loop-i.invariant c.loop-i-test.true) _ c.in_ok-check_entry.ensures

pub returns : goal.returns
returns c = checking_passed _ _ _ _ _ _ c.loop-i.invariant c.loop-i-test.false
