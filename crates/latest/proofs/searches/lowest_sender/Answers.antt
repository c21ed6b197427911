-- `latest::searches::lowest_sender` meets its contract. Assumes nothing.
use Rattle.std.proofs.Common.{rules}
use Rattle.latest.specs.Reach.{lowest_sender}
use Rattle.latest.proofs.searches.lowest_sender.Goals as goal

pub returns : goal.returns
unfolding lowest_sender
returns c = search rules
