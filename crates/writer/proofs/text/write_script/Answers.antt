-- `writer::text::write_script` meets its contract. The loop's invariant: the lines from the position on are left to
-- write, none of which is past the script's end. Assumes nothing.
use mathlib.Core.List.{◌++◌}
use mathlib.Core.Path.{◌∙◌, ap, sym}
use Prim.Native.Nat.{◌≤◌}
use native.Mathlib.Omega.{arith}
use lib.ListN.{length}
use Rattle.lists.proofs.Stores.{wrote_as}
use Rattle.lists.specs.Ascii.{bytes_of}
use Rattle.script.specs.ScriptEnd.{stored_ops}
use Rattle.script.proofs.ScriptEnd.{end_reached, ends_at, op_before_end}
use Rattle.writer.specs.Canonical.{followed, item_line, script_line, script_lines}
use Rattle.writer.proofs.Rest.{line_room, line_written, lines_begun, lines_written}
use Rattle.writer.proofs.text.write_script.Goals as goal

pub loop-position-init : goal.loop-position-init
unfolding script_lines
loop-position-init c = let args = c.args in (omega arith, lines_begun (script_line args.scripts.now args.domain) _ _ _)

-- an op that was fetched stands before the script's end, and its line is the one at its position
pub write_op-next-requires : goal.write_op-next-requires
unfolding script_line item_line
write_op-next-requires c =
    let loop = c.loop-position in
    let args = c.args in
    let scripts = args.scripts.now in
    let here = sym c.fetch.ensures ∙ c.in-Some.is in
    let below = op_before_end scripts args.domain loop.position _ loop.invariant.0 here in
    let room = line_room (script_line scripts args.domain) (stored_ops scripts args.domain) loop.position below loop.invariant.1 in
    let line = ap (λ item. length (bytes_of "\n" ++ item_line args.domain item)) here in
    omega (arith, room, line, c.requires.2)

pub loop-position-preserved : goal.loop-position-preserved
unfolding script_line item_line
loop-position-preserved c =
    let loop = c.loop-position in
    let args = c.args in
    let scripts = args.scripts.now in
    let here = sym c.fetch.ensures ∙ c.in-Some.is in
    let below = op_before_end scripts args.domain loop.position _ loop.invariant.0 here in
    let line = ap (λ item. bytes_of "\n" ++ item_line args.domain item) (sym here) in (
      omega (arith, below),
      line_written (script_line scripts args.domain) (stored_ops scripts args.domain) loop.position below loop.invariant.1
          (wrote_as loop.out loop.next line c.write_op-next.ensures),
    )

pub returns-in-None : goal.returns-in-None
returns-in-None c =
    let loop = c.loop-position in
    let args = c.args in
    let scripts = args.scripts.now in
    let past = end_reached scripts args.domain loop.position (sym c.fetch.ensures ∙ c.in-None.is) in
    lines_written (script_line scripts args.domain) (stored_ops scripts args.domain) loop.position args.out.now args.at
    (followed (script_lines scripts args.domain)) past loop.invariant.1

pub returns : goal.returns
returns c =
    let loop = c.loop-position in
    let args = c.args in
    let scripts = args.scripts.now in
    let past : stored_ops scripts args.domain ≤ loop.position = omega (arith, (ends_at scripts args.domain).within, c.loop-position-test.false) in
    lines_written (script_line scripts args.domain) (stored_ops scripts args.domain) loop.position args.out.now args.at
    (followed (script_lines scripts args.domain)) past loop.invariant.1

pub overflow_cast-domain : goal.overflow_cast-domain
overflow_cast-domain c = omega (arith, c.requires.1)
