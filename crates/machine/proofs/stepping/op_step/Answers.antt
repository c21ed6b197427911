-- `machine::stepping::op_step` meets its contract. Assumes nothing.
use mathlib.Core.Path.{refl}
use native.Mathlib.Omega.{arith}
use Rattle.ops.specs.View.{view_of}
use Rattle.machine.proofs.Turns.{op_ran, operated_ticks}
use Rattle.machine.proofs.stepping.op_step.Goals as goal

pub overflow_add-after : goal.overflow_add-after
overflow_add-after c =
    omega (
      arith,
      operated_ticks _ _ _ _ _ _ _ _ c.requires.1 (c.operate-done.ensures (view_of _ _) refl refl),
      c.requires,
    )

pub returns : goal.returns
returns c =
    op_ran _ _ _ _ _ _ _ _ _ _ _ c.requires.1 (c.operate-done.ensures (view_of _ _) refl refl) c.store_record.ensures
