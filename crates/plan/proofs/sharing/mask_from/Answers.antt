-- `plan::sharing::mask_from` meets its contract. Assumes nothing.
use Rattle.plan.proofs.Bits.{mask_fits, mask_shifted}
use Rattle.plan.proofs.sharing.mask_from.Goals as goal

pub overflow_cast-result : goal.overflow_cast-result
overflow_cast-result c = record { fits = rw (mask_shifted c.args.first c.args.count c.requires) (mask_fits c.args.first c.args.count c.requires) }

pub returns : goal.returns
returns c = mask_shifted c.args.first c.args.count c.requires
