-- `latest::witness::write_script` meets its contract. The loop's invariant: the numbers passed are the script's. Assumes nothing.
use Rattle.latest.proofs.Numbers.{Filled}
use Rattle.latest.proofs.witness.write_script.Given as goal

abbrev pub invariant-loop-position : goal.invariant-loop-position
invariant-loop-position l = Filled l.script l.buffer l.position
