-- `writer::text::write_scripts` meets its contract. The loop's invariant: the lines of the domains from the index on are
-- left to write. Assumes nothing.
use Rattle.writer.specs.Canonical.{followed, op_lines_from}
use Rattle.writer.proofs.Rest.{Writing}
use Rattle.writer.proofs.Scripts.{scripts_left}
use Rattle.writer.proofs.text.write_scripts.Given as goal

abbrev pub invariant-loop-domain : goal.invariant-loop-domain
invariant-loop-domain l =
    Writing l.initial.out l.at (followed (op_lines_from l.scripts l.domains 0)) (scripts_left l.scripts l.domains l.domain) l.out l.next
