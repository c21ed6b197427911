-- Where a window of a run starts, L1 and the kernel's sets hold what was left there by the switch in front, or by the
-- fresh start. Assumes nothing.
use Prim.Native.Nat.{zero, suc}
use mathlib.Core.Path.{sym, subst}
use Rattle.machine.specs.Steps.{run_by}
use Rattle.machine.specs.WindowStart.{HoldsStart}
use Rattle.machine.proofs.Switched.{fresh_holds, switch_holds}
use Rattle.isolation.specs.Points.{FreshRun, world_after}
use Rattle.isolation.specs.WindowStarts.{EveryWindowStarts}
use Rattle.isolation.proofs.TwoRuns.Progress.{before, first_start}
use Rattle.isolation.proofs.TwoRuns.Windows.{whole}

first_holds : (run : FreshRun) → HoldsStart run.plan (world_after run 0)
unfolding world_after run_by
first_holds run = fresh_holds run.plan run.log

pub every_window_starts : EveryWindowStarts
every_window_starts run zero count possible starts =
    subst (λ n. HoldsStart run.plan (world_after run n)) (sym (first_start run count starts)) (first_holds run)
every_window_starts run (suc window) count possible starts =
    let b = before run window count starts in
    subst (HoldsStart run.plan) (sym b.switched)
    (switch_holds run.plan (world_after run b.last) (whole run possible b.last))
