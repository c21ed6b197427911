-- `ops::send` meets its contract. Assumes nothing.
use mathlib.Core.Bool.{false}
use mathlib.Core.Path.{◌∙◌, sym}
use native.Mathlib.Omega.{arith}
use Rattle.ops.specs.Ops.{kernel_entry_line}
use Rattle.ops.proofs.Operations.{answered_ticks, message_denied, message_passed, message_ticks_lem}
use Rattle.ops.proofs.send.Goals as goal

pub overflow_add-result : goal.overflow_add-result
overflow_add-result c =
    let enter = c.access-entered in
    omega (arith, answered_ticks false kernel_entry_line _ _ enter.ensures.1)

pub returns-then-not-has_bit : goal.returns-then-not-has_bit
returns-then-not-has_bit c =
    let enter = c.access-entered in
    λ plan handed.
    message_denied _ _ _ _ _ _ _ _ _ handed _ _ _ enter.ensures.1 enter.ensures.2 enter.ensures.3
    (sym c.has_bit.ensures ∙ c.if-not-has_bit.true)

pub overflow_add-result-2 : goal.overflow_add-result-2
overflow_add-result-2 c =
    let right = c in
    let enter = right.access-entered in
    omega (arith, answered_ticks false kernel_entry_line _ _ enter.ensures.1)

pub overflow_add-result-3 : goal.overflow_add-result-3
overflow_add-result-3 c =
    let right = c in
    let enter = right.access-entered in
    let reach = c.reach_box-reached in
    omega (arith, message_ticks_lem _ _ _ _ _ enter.ensures.1 reach.ensures.1)

pub returns : goal.returns
returns c =
    let right = c in
    let enter = right.access-entered in
    let reach = c.reach_box-reached in
    λ plan handed.
    message_passed _ _ _ _ _ _ _ _ _ handed _ _ _ enter.ensures.1 enter.ensures.2 enter.ensures.3 _ _ _ _
    (sym right.has_bit.ensures ∙ right.if-not-has_bit.false)
    c.box_index-index.ensures
    reach.ensures.1 reach.ensures.2 reach.ensures.3
