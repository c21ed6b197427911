-- `pirkvezo::states::store_state` meets its contract: one list of numbers is written behind the other. Assumes nothing.
use native.Mathlib.Omega.{arith}
use Rattle.std.proofs.Common.{rules}
use Rattle.plan.specs.Limits.{most_domains}
use Rattle.pirkvezo.specs.Numbers.{state_numbers}
use Rattle.pirkvezo.proofs.Written.{full, next_copied, state_begun}
use Rattle.pirkvezo.proofs.states.store_state.Goals as goal

pub returns : goal.returns
unfolding state_numbers
returns c =
    let begun = state_begun c.args.state c.args.numbers.now c.requires in
    let first = next_copied most_domains begun (omega arith) c.copy_from_slice.ensures.after (search rules) in
    full (next_copied most_domains first (omega arith) c.copy_from_slice-2.ensures.after (search rules))
