-- Document 02, E6 and E9: how late a window finishes, read off the machine's own switch. Assumes
-- nothing.
use Rattle.std.specs.Prelude.{ℕ, suc, ◌-◌, ◌≡◌}
use Rattle.plan.specs.declared.Plan.{Plan}
use Rattle.plan.specs.Windows.{window_end}
use Rattle.state.specs.World.{World}
use Rattle.machine.specs.Switch.{touched_clock}
use Rattle.isolation.specs.Points.{FreshRun, windows_after, world_after}

-- *lateness*: the ticks from the window's end until the switch, if it is taken now, has emptied L1
-- and touched the kernel's entry line. The pad, which follows, is not counted.
unfoldable pub lateness_of : Plan → World → ℕ
lateness_of plan world =
    let end = window_end plan world.state.windows in
    touched_clock world.state.clock end world.cache - end

-- a window of a run finishes so late: the step after the first `at` is its switch, the one step
-- that completes it, and it then has that lateness
pub record Finishes (run : FreshRun) (window late : ℕ) : Type 0 where
  pub at : ℕ
  pub before : windows_after run at ≡ window
  pub after : windows_after run (suc at) ≡ suc window
  pub is : lateness_of run.plan (world_after run at) ≡ late
