-- `latest::fitting::domain_fits` meets its contract. Assumes nothing.
use mathlib.Core.Path.{refl}
use Rattle.latest.specs.Answer.{domain_fits}
use Rattle.latest.proofs.fitting.domain_fits.Goals as goal

pub returns : goal.returns
unfolding domain_fits
returns c = rw (c.first_window-first.ensures, c.windows_fit-within.ensures) refl
