-- `settle_waiting` meets its contract: a size within the range is settled, and any other refused with 21.
use Rattle.std.proofs.Common.{refl, sym, ◌∙◌}
use Rattle.packing.specs.Bins.{stored}
use Rattle.ledger.specs.Notes.{note_at}
use Rattle.engine.proofs.Ways.{done_refused}
use Rattle.settlement.proofs.Ways.{outside, outside_words, within_words}
use Rattle.settlement.proofs.settle_waiting.Goals as goal

pub settle_down-requires : goal.settle_down-requires
settle_down-requires c = within_words c.requires c.args.size (sym c.is_within.ensures ∙ c.if-is_within.true)

pub returns : goal.returns
returns c =
    rw c.refuse.ensures
    (done_refused c.requires.sound
    (λ p r. outside c.requires r (stored c.args.terms.opening c.args.size)
    (outside_words (note_at c.args.store.now.notes c.args.named) (stored c.args.terms.opening c.args.size) (sym c.is_within.ensures ∙ c.if-is_within.false)))
    (λ p r. refl))
