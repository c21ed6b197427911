-- `latest::witness::write_script` meets its contract. The loop's invariant: the numbers passed are the script's. Assumes nothing.
use mathlib.Core.Path.{◌≡◌}
use native.Mathlib.Omega.{arith}
use Rattle.script.specs.Limits.{most_ops}
use Rattle.latest.proofs.Numbers.{filled_all}
use Rattle.latest.proofs.witness.write_script.Goals as goal

pub returns : goal.returns
returns c =
    let loop = c.loop-position in
    let ended : loop.position ≡ most_ops = omega arith in
    filled_all _ _ (rw ended at loop.invariant)
