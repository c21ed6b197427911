-- `machine::stepping::run_window` meets its contract. The loop's invariant is `Turning`. Assumes nothing.
use Prim.Native.Nat.{◌-◌}
use Rattle.machine.proofs.Windows.{Turning}
use Rattle.machine.proofs.stepping.run_window.Given as goal

abbrev pub invariant-loop-steps : goal.invariant-loop-steps
invariant-loop-steps l =
    Turning l.rights l.masks l.scripts l.most l.place l.first l.initial.cache l.initial.boxes l.initial.log l.cache l.boxes
    l.log l.steps l.clock

abbrev pub decreases-loop-steps : goal.decreases-loop-steps
decreases-loop-steps l = l.most - l.steps
