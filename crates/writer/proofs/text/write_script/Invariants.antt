-- `writer::text::write_script` meets its contract. The loop's invariant: the lines from the position on are left to
-- write, none of which is past the script's end. Assumes nothing.
use Prim.Native.Nat.{◌≤◌}
use Rattle.script.specs.ScriptEnd.{stored_ops}
use Rattle.writer.specs.Canonical.{followed, script_line, script_lines}
use Rattle.writer.proofs.Rest.{Writing, rest_from}
use Rattle.writer.proofs.text.write_script.Given as goal

abbrev pub invariant-loop-position : goal.invariant-loop-position
invariant-loop-position l =
    (l.position ≤ stored_ops l.scripts l.domain)
    × Writing l.initial.out l.at (followed (script_lines l.scripts l.domain)) (rest_from (script_line l.scripts l.domain) (stored_ops l.scripts l.domain) l.position) l.out l.next
