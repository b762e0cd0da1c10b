-- `shelf_repack` meets its contract: count and place always fit (codes, Counts).
use Rattle.std.proofs.Common.{sym, ap, subst, ◌∙◌}
use Rattle.packing.proofs.Given.{repack_gives_back}
use Rattle.codes.specs.Codes.{repack_code, RepackFits}
use Rattle.codes.proofs.Counts.{repack_fits}
use Rattle.shelf_c.proofs.shelf_repack.Goals as goal

pub repack_code-requires : goal.repack_code-requires
repack_code-requires c = subst RepackFits (sym (repack_gives_back _ _ c.repack-r.ensures.result)) (repack_fits _ _ _ _)

pub returns-clause-code : goal.returns-clause-code
returns-clause-code c = c.repack_code.ensures ∙ ap repack_code (repack_gives_back _ _ c.repack-r.ensures.result)

pub returns-clause-fits : goal.returns-clause-fits
returns-clause-fits c = repack_fits _ _ _ _
