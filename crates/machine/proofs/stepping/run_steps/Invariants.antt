-- `machine::stepping::run_steps` meets its contract. The loop's invariant is `Going`. Assumes nothing.
use Prim.Native.Nat.{◌-◌}
use Rattle.records.specs.Records.{places_of}
use Rattle.machine.specs.View.{world_with}
use Rattle.machine.proofs.Going.{Going}
use Rattle.machine.proofs.stepping.run_steps.Given as goal

abbrev pub invariant-loop-steps : goal.invariant-loop-steps
invariant-loop-steps l =
    Going (places_of l.keep l.quota) l.plan l.scripts l.quota l.limit
    (world_with l.initial.present l.initial.cache l.initial.boxes l.initial.log)
    (world_with l.present l.cache l.boxes l.log) l.steps l.start l.slot

abbrev pub decreases-loop-steps : goal.decreases-loop-steps
decreases-loop-steps l = l.limit - l.steps
