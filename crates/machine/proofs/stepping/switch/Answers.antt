-- `machine::stepping::switch` meets its contract. Assumes nothing.
use mathlib.Core.Path.{◌∙◌}
use native.Mathlib.Omega.{arith}
use Rattle.machine.proofs.Turns.{flushes_most, switch_clocks, switch_leaves, touches_most}
use Rattle.machine.proofs.stepping.switch.Goals as goal
use Rattle.machine.proofs.stepping.switch.Goals.{else-last, then-last}

-- both flushes together are short, and so is the touch
pub overflow_add-begun : goal.overflow_add-begun
overflow_add-begun c =
    let kernel = c.flush_kernel-kernel.ensures in
    let l1 = c.flush_l1-l1.ensures in
    let touch = c.access-touch.ensures in
    let flushes = flushes_most _ _ _ _ _ _ _ kernel.0 kernel.1 l1.0 l1.1 touch.1 touch.3 in
    omega (arith, flushes, c.max-begun.ensures, c.requires)

pub overflow_add-begun-2 : goal.overflow_add-begun-2
overflow_add-begun-2 c =
    let kernel = c.flush_kernel-kernel.ensures in
    let l1 = c.flush_l1-l1.ensures in
    let touch = c.access-touch.ensures in
    let flushes = flushes_most _ _ _ _ _ _ _ kernel.0 kernel.1 l1.0 l1.1 touch.1 touch.3 in
    omega (arith, flushes, c.max-begun.ensures, c.requires)

pub overflow_add-begun-3 : goal.overflow_add-begun-3
overflow_add-begun-3 c =
    let kernel = c.flush_kernel-kernel.ensures in
    let l1 = c.flush_l1-l1.ensures in
    let touch = c.access-touch.ensures in
    let flushes = flushes_most _ _ _ _ _ _ _ kernel.0 kernel.1 l1.0 l1.1 touch.1 touch.3 in
    let touches = touches_most _ _ _ _ _ _ _ kernel.0 kernel.1 l1.0 l1.1 touch.1 touch.3 in
    omega (arith, flushes, touches, c.max-begun.ensures, c.requires)

pub returns : goal.returns
returns c =
    let kernel = c.flush_kernel-kernel.ensures in
    let l1 = c.flush_l1-l1.ensures in
    let touch = c.access-touch.ensures in (
      switch_clocks _ _ _ _ _ _ _ kernel.0 kernel.1 l1.0 l1.1 touch.1 touch.3 _ _ _ _ _ c.max-begun.ensures
          c.max.ensures,
      switch_leaves _ _ _ _ _ _ _ kernel.0 kernel.1 l1.0 l1.1 touch.1 touch.3 _ _
          (elim c.if-last.branch [
            | then-last w ↦ rw w.if-last.true (w.cache-is ∙ w.empty_line.ensures)
            | else-last w ↦ rw w.if-last.false w.cache-is
          ]),
    )
