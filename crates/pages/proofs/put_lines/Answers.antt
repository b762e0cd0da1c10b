-- `put_lines` meets its contract: each turn writes the lines of the next bin.
use Rattle.pages.proofs.Listing.{listing_start, listing_enterable, listing_next, listing_end}
use Rattle.pages.proofs.put_lines.Goals as goal

pub loop-place-init : goal.loop-place-init
loop-place-init c = listing_start c.requires

pub put_entry-requires : goal.put_entry-requires
put_entry-requires c = listing_enterable c.loop-place.invariant c.loop-place-test.true

pub loop-place-preserved : goal.loop-place-preserved
loop-place-preserved c = listing_next c.loop-place.invariant c.loop-place-test.true c.put_entry.ensures

pub returns : goal.returns
returns c = listing_end c.loop-place.invariant c.loop-place-test.false
