-- `latest::reach::has_box` meets its contract. Assumes nothing.
use mathlib.Core.Path.{refl}
use Rattle.latest.specs.Reach.{has_box}
use Rattle.latest.proofs.reach.has_box.Goals as goal

pub returns : goal.returns
unfolding has_box
returns c = rw (c.lowest_recipient-recipient.ensures, c.lowest_sender-sender.ensures) refl
