-- `latest::witness::waiting_ticks` meets its contract. Assumes nothing.
use mathlib.Core.Path.{refl}
use native.Mathlib.Omega.{arith}
use Rattle.plan.proofs.ValidPlans.{counts}
use Rattle.latest.specs.Script.{waiting_ticks}
use Rattle.latest.proofs.Ranges.{first_window_lem, written_most}
use Rattle.latest.proofs.witness.waiting_ticks.Goals as goal

pub first_window-first-requires : goal.first_window-first-requires
first_window-first-requires c = (counts _ c.requires.0).windows_most

pub bounds-lengths-first : goal.bounds-lengths-first
bounds-lengths-first c = rw c.first_window-first.ensures (first_window_lem _ _ c.requires).below

pub overflow_sub-result : goal.overflow_sub-result
overflow_sub-result c =
    rw c.first_window-first.ensures (omega (arith, (first_window_lem _ _ c.requires).length_least))

pub overflow_sub-result-2 : goal.overflow_sub-result-2
overflow_sub-result-2 c =
    let pre = c.requires in
    rw c.first_window-first.ensures
    (omega (arith, (first_window_lem _ _ pre).length_least, written_most _ _ pre, c.written_ticks-written.ensures))

pub returns : goal.returns
unfolding waiting_ticks
returns c = rw (c.first_window-first.ensures, c.written_ticks-written.ensures) refl
