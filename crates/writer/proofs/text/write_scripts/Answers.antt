-- `writer::text::write_scripts` meets its contract. The loop's invariant: the lines of the domains from the index on are
-- left to write. Assumes nothing.
use native.Mathlib.Omega.{arith}
use Rattle.writer.specs.Canonical.{followed, op_lines_from}
use Rattle.writer.proofs.Scripts.{script_room, script_written, scripts_written}
use Rattle.writer.proofs.text.write_scripts.Goals as goal

pub write_script-next-requires : goal.write_script-next-requires
write_script-next-requires c =
    let loop = c.loop-domain in
    let args = c.args in
    let below = c.loop-domain-test.true in
    let room = script_room args.scripts.now args.domains loop.domain below loop.invariant in
    (c.requires.0, omega (arith, below, c.requires.1), omega (arith, room, c.requires.2))

pub loop-domain-preserved : goal.loop-domain-preserved
loop-domain-preserved c =
    let loop = c.loop-domain in
    let args = c.args in
    script_written args.scripts.now args.domains loop.domain c.loop-domain-test.true loop.invariant c.write_script-next.ensures

pub returns : goal.returns
returns c =
    let loop = c.loop-domain in
    let args = c.args in
    let scripts = args.scripts.now in
    scripts_written scripts args.domains loop.domain args.out.now args.at (followed (op_lines_from scripts args.domains 0))
    c.loop-domain-test.false loop.invariant
