-- `report::write_domain` meets its contract. The loop's invariant: the lines of the records passed are written.
-- Assumes nothing.
use Rattle.report.specs.Lines.{record_lines}
use Rattle.lists.specs.Writing.{Wrote}
use Rattle.report.proofs.write_domain.Given as goal

abbrev pub invariant-loop-number : goal.invariant-loop-number
invariant-loop-number l = Wrote l.initial.out l.at (record_lines l.domain l.log l.number) l.out l.next
