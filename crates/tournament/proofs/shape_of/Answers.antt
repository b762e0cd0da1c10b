-- The power of two and its exponent are the least that do.
use Rattle.tournament.proofs.Powers.{fitted}
use Rattle.tournament.proofs.shape_of.Goals as goal

pub returns : goal.returns
returns c =
    let places = c.next_power_of_two-places.ensures in
    let height = c.ilog2-height.ensures in
    fitted places.power places.lower_bound places.upper_bound height.power_le height.next_power_gt
