-- `state::table_validity::ways_valid` meets its contract. The loop's invariant: what is left decides the answer.
-- Assumes nothing.
use Rattle.state.specs.TableValidity.{ways_valid}
use Rattle.state.proofs.TableLaws.{Decides}
use Rattle.state.proofs.table_validity.ways_valid.Given as goal

abbrev pub invariant-loop-way : goal.invariant-loop-way
invariant-loop-way l = Decides (ways_valid l.set) l.ways l.way
