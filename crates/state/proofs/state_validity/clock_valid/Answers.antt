-- `state::state_validity::clock_valid` meets its contract. Assumes nothing.
use mathlib.Core.Path.{◌∙◌}
use native.Mathlib.Omega.{arith}
use Rattle.plan.proofs.ValidPlans.{counts, lengths_most, parts}
use Rattle.plan.proofs.Windows.{start_fits}
use Rattle.state.proofs.StateLaws.{clock_after_last, clock_in_window}
use Rattle.state.proofs.state_validity.clock_valid.Goals as goal

pub windows_total-total-requires : goal.windows_total-total-requires
windows_total-total-requires c = let count = counts _ c.requires in (count.run_most, count.windows_most)

pub overflow_add-end : goal.overflow_add-end
overflow_add-end c =
    let start = c in
    omega (arith, start_fits start.args.plan start.args.state.windows start.requires (omega arith))

pub overflow_add-result : goal.overflow_add-result
overflow_add-result c =
    let start = c in
    omega (arith, start_fits start.args.plan start.args.state.windows start.requires (omega arith))

pub ticks_total-ticks-requires : goal.ticks_total-ticks-requires
ticks_total-ticks-requires c =
    let count = counts _ c.requires in
    (count.run_most, count.windows_most, count.pad_most, lengths_most _ (parts _ c.requires).windows)

pub returns-then-windows-total : goal.returns-then-windows-total
returns-then-windows-total c =
    clock_in_window _ _ _ _ _ c.windows_total-total.ensures c.if-windows-total.true
    c.window_start-start.ensures (c.from.ensures ∙ c.window_length.ensures)

pub returns-else-windows-total : goal.returns-else-windows-total
returns-else-windows-total c =
    clock_after_last _ _ _ _ c.windows_total-total.ensures c.if-windows-total.false
    c.ticks_total-ticks.ensures
