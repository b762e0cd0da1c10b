-- `shelf_stream` meets its contract: every figure of a result fits (codes, Figures); all else is what `shelve` ensures.
use Rattle.std.proofs.Common.{sym, ap, subst, ◌∙◌}
use Rattle.packing.proofs.Given.{stream_gives_back}
use Rattle.codes.specs.Codes.{stream_code, FiguresFit}
use Rattle.codes.proofs.Figures.{figures_fit}
use Rattle.shelf_c.proofs.shelf_stream.Goals as goal

pub stream_code-requires : goal.stream_code-requires
stream_code-requires c = subst FiguresFit (sym (stream_gives_back _ _ c.shelve-r.ensures.result)) (figures_fit _ _)

pub returns-clause-code : goal.returns-clause-code
returns-clause-code c = c.stream_code.ensures ∙ ap stream_code (stream_gives_back _ _ c.shelve-r.ensures.result)

pub returns-clause-fits : goal.returns-clause-fits
returns-clause-fits c = figures_fit _ _
