-- `latest::searches::first_window` meets its contract. Assumes nothing.
use Rattle.std.proofs.Common.{rules}
use Rattle.latest.specs.Reach.{first_window}
use Rattle.latest.proofs.searches.first_window.Goals as goal

pub returns : goal.returns
unfolding first_window
returns c = search rules
