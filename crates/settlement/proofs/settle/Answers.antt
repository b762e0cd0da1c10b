-- `settle` meets its contract: 20 for a number past the notes, and for one whose note has no bin or no least; else the item waits for its size.
use Rattle.std.proofs.Common.{refl}
use mathlib.Core.Logic.{inl, inr}
use Rattle.engine.proofs.Ways.{done_refused}
use Rattle.settlement.proofs.Ways.{no_least, past_notes}
use Rattle.settlement.proofs.settle.Goals as goal

pub returns-then-place-ge-NUMBERS : goal.returns-then-place-ge-NUMBERS
returns-then-place-ge-NUMBERS c =
    rw c.refuse.ensures (done_refused c.requires (λ p r. past_notes r c.args.named _ c.if-place-ge-NUMBERS.true) (λ p r. refl))

pub returns-then-note-eq0 : goal.returns-then-note-eq0
returns-then-note-eq0 c =
    rw c.refuse-then-note-eq0.ensures (done_refused c.requires (λ p r. no_least r c.args.named _ (inl c.if-note-eq0.true)) (λ p r. refl))

pub returns-then-note-eq0-2 : goal.returns-then-note-eq0-2
returns-then-note-eq0-2 c =
    rw c.refuse-then-note-eq0-2.ensures (done_refused c.requires (λ p r. no_least r c.args.named _ (inr c.if-note-eq0-2.true)) (λ p r. refl))
