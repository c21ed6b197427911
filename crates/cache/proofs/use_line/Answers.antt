-- `use_line` meets its contract: the ways that it lends on are the line's set. Assumes nothing.
use Prim.Native.Nat.{◌+◌, ◌-◌}
use native.Mathlib.Omega.{arith}
use Rattle.cache.specs.Lines.{set_index, set_of}
use Rattle.cache.proofs.Outcome.{used_outcome}
use Rattle.cache.proofs.use_line.Goals as goal

pub returns : goal.returns
returns c =
    let set = c.move_to_front in
    let args = c.args in
    let first = set_index (set_of args.line) in
    used_outcome args.line args.table.now (first + 4 - first) (omega arith) _ _ set.ensures.0 set.ensures.1
