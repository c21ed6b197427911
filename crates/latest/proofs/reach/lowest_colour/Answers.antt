-- `latest::reach::lowest_colour` meets its contract. Assumes nothing.
use Rattle.latest.specs.Reach.{lowest_colour}
use Rattle.latest.proofs.reach.lowest_colour.Goals as goal

pub returns : goal.returns
unfolding lowest_colour
returns c = c.lowest_bit.ensures
