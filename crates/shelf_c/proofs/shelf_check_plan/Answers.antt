-- `shelf_check_plan` meets its contract: a place always fits (codes, Places), so 0 is the number of no refusal.
use Rattle.std.proofs.Common.{sym, ap, subst, ◌∙◌}
use Rattle.packing.specs.Refusing.{pass}
use Rattle.packing.proofs.Given.{plan_gives_back}
use Rattle.codes.specs.Codes.{plan_code, PlaceFits}
use Rattle.codes.proofs.Places.{place_fits}
use Rattle.codes.proofs.Back.{plan_code_back}
use Rattle.shelf_c.proofs.shelf_check_plan.Goals as goal

pub plan_code-requires : goal.plan_code-requires
plan_code-requires c = subst PlaceFits (sym (plan_gives_back _ _ c.check_rows-r.ensures.result)) (place_fits _ _ _ _)

pub returns-clause-code : goal.returns-clause-code
returns-clause-code c = c.plan_code.ensures ∙ ap plan_code (plan_gives_back _ _ c.check_rows-r.ensures.result)

pub returns-clause-fits : goal.returns-clause-fits
returns-clause-fits c = place_fits _ _ _ _

pub returns-clause-exact : goal.returns-clause-exact
returns-clause-exact c =
    let r = c.check_rows-r.result in
    let fits : PlaceFits r = subst PlaceFits (sym (plan_gives_back _ _ c.check_rows-r.ensures.result)) (place_fits _ _ _ _) in (
      λ e. c.check_rows-r.ensures.exact.0 (plan_code_back r pass fits tt (sym c.plan_code.ensures ∙ e)),
      λ f. c.plan_code.ensures ∙ ap plan_code (c.check_rows-r.ensures.exact.1 f),
    )
