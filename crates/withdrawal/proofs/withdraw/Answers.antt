-- `withdraw` meets its contract: 17 for a number past the notes and for one whose note has no bin; else the item is taken out.
use Rattle.std.proofs.Common.{refl, arith}
use Rattle.engine.proofs.Ways.{done_refused}
use Rattle.withdrawal.proofs.Ways.{no_bin, past_notes}
use Rattle.withdrawal.proofs.withdraw.Goals as goal

pub returns-then-place-ge-NUMBERS : goal.returns-then-place-ge-NUMBERS
returns-then-place-ge-NUMBERS c =
    rw c.refuse.ensures (done_refused c.requires (λ p r. past_notes r c.args.named (omega arith)) (λ p r. refl))

pub returns-then-note-eq0 : goal.returns-then-note-eq0
returns-then-note-eq0 c =
    rw c.refuse-then-note-eq0.ensures (done_refused c.requires (λ p r. no_bin r c.args.named (omega arith)) (λ p r. refl))
