-- `shelf_pair` meets its contract: the number of pairs and the place always fit (codes, Counts).
use Rattle.std.proofs.Common.{sym, ap, subst, ◌∙◌}
use Rattle.packing.proofs.Given.{pair_gives_back}
use Rattle.codes.specs.Codes.{pair_code, PairFits}
use Rattle.codes.proofs.Counts.{pair_fits}
use Rattle.shelf_c.proofs.shelf_pair.Goals as goal

pub pair_code-requires : goal.pair_code-requires
pair_code-requires c = subst PairFits (sym (pair_gives_back _ _ c.pair-r.ensures.result)) (pair_fits _ _ _ _)

pub returns-clause-code : goal.returns-clause-code
returns-clause-code c = c.pair_code.ensures ∙ ap pair_code (pair_gives_back _ _ c.pair-r.ensures.result)

pub returns-clause-fits : goal.returns-clause-fits
returns-clause-fits c = pair_fits _ _ _ _
