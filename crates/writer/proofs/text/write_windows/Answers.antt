-- `writer::text::write_windows` meets its contract. The loop's invariant: the lines from the index on are left to
-- write. Assumes nothing.
use mathlib.Core.List.{List}
use Prim.Native.Nat.{ℕ}
use native.Mathlib.Omega.{arith}
use lib.ListN.{get_or}
use Rattle.writer.specs.Canonical.{followed, lines_from}
use Rattle.writer.specs.Lines.{window_line, window_text}
use Rattle.writer.proofs.Rest.{line_room, line_written, lines_written}
use Rattle.writer.proofs.text.write_windows.Goals as goal

-- the line of an index, by the arrays
abbrev line : List ℕ → List ℕ → ℕ → List ℕ
line owners lengths = λ (slot : ℕ). window_text (get_or owners slot 0) (get_or lengths slot 0)

pub write_window-next-requires : goal.write_window-next-requires
unfolding window_line
write_window-next-requires c =
    let loop = c.loop-slot in
    let plan = c.args.plan in
    let room = line_room (line plan.owners plan.lengths) plan.windows loop.slot c.loop-slot-test.true loop.invariant in
    omega (arith, room, c.requires.1)

pub loop-slot-preserved : goal.loop-slot-preserved
loop-slot-preserved c =
    let loop = c.loop-slot in
    let plan = c.args.plan in
    line_written (line plan.owners plan.lengths) plan.windows loop.slot c.loop-slot-test.true loop.invariant c.write_window-next.ensures

pub returns : goal.returns
unfolding window_line
returns c =
    let args = c.args in
    let plan = args.plan in
    lines_written (line plan.owners plan.lengths) plan.windows c.loop-slot.slot args.out.now args.at
    (followed (lines_from (line plan.owners plan.lengths) plan.windows 0)) c.loop-slot-test.false c.loop-slot.invariant
