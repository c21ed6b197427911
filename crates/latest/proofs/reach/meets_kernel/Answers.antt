-- `latest::reach::meets_kernel` meets its contract. Assumes nothing.
use mathlib.Core.Path.{refl}
use native.Mathlib.Omega.{arith}
use Rattle.latest.specs.Reach.{meets_kernel}
use Rattle.latest.proofs.Ranges.{domain_below, own_lines}
use Rattle.latest.proofs.reach.meets_kernel.Goals as goal

pub lowest_colour-lowest-requires : goal.lowest_colour-lowest-requires
lowest_colour-lowest-requires c = domain_below _ _ c.requires

pub overflow_add-result : goal.overflow_add-result
overflow_add-result c = omega (arith, (own_lines _ _ c.requires).holding_most, c.holding-held.ensures)

pub returns : goal.returns
unfolding meets_kernel
returns c = rw (c.lowest_colour-lowest.ensures, c.holding-held.ensures) refl
