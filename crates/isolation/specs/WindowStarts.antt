-- Document 02, E9: what L1 and the kernel's sets hold where a window of a run starts. Assumes
-- nothing.
use Rattle.std.specs.Prelude.{ℕ, true, ◌≡◌}
use Rattle.plan.specs.Validity.{plan_valid}
use Rattle.machine.specs.WindowStart.{HoldsStart}
use Rattle.isolation.specs.Points.{FreshRun, Starts, world_after}

-- in every run from a fresh start every window, and the run's end, finds them so: empty at the start
-- of the run's first window and after its end, and else with the kernel's entry line alone
abbrev pub EveryWindowStarts : Type 0
EveryWindowStarts =
    (run : FreshRun) (window count : ℕ)
    → plan_valid run.plan ≡ true
    → Starts run window count
    → HoldsStart run.plan (world_after run count)
