-- `report::write_domains` meets its contract. The loop's invariant: the logs of the domains passed are written.
-- Assumes nothing.
use Rattle.report.specs.Lines.{seen_lines}
use Rattle.lists.specs.Writing.{Wrote}
use Rattle.report.proofs.write_domains.Given as goal

abbrev pub invariant-loop-domain : goal.invariant-loop-domain
invariant-loop-domain l = Wrote l.initial.out 0 (seen_lines l.plan l.state l.log l.domain) l.out l.next
