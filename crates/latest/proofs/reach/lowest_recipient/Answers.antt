-- `latest::reach::lowest_recipient` meets its contract. Assumes nothing.
use Rattle.latest.specs.Reach.{lowest_recipient}
use Rattle.latest.proofs.reach.lowest_recipient.Goals as goal

pub returns : goal.returns
unfolding lowest_recipient
returns c = c.lowest_bit.ensures
