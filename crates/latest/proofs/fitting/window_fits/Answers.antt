-- `latest::fitting::window_fits` meets its contract. Assumes nothing.
use borrow.Author.Tests.{tests}
use Rattle.std.proofs.Common.{rules}
use Rattle.latest.specs.Answer.{window_fits}
use Rattle.latest.proofs.fitting.window_fits.Goals as goal

pub returns : goal.returns
unfolding window_fits
returns c = search (rules, tests)
