-- `script::stored_ops` meets its contract. The loop's invariant: what is passed are ops, and those in a row behind them are the others.
-- Assumes nothing.
use Rattle.script.proofs.ScriptEnd.{Passed}
use Rattle.script.proofs.stored_ops.Given as goal

abbrev pub invariant-loop-position : goal.invariant-loop-position
invariant-loop-position l = Passed l.scripts l.domain l.position
