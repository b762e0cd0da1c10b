-- The lines of the bins past are written (Listing).
use Rattle.pages.proofs.Listing.{Listing}
use Rattle.pages.proofs.put_lines.Given as goal

abbrev pub invariant-loop-place : goal.invariant-loop-place
invariant-loop-place l = Listing l.ledger l.capacity l.opened l.pages l.fn.text l.text l.place
