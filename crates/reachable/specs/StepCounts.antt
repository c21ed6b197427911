-- Document 02, E3: of the steps of a run, those that are ops and those that fall into one window.
-- Assumes nothing.
use Rattle.std.specs.Prelude.{ℕ, zero, suc, ◌+◌, true, false, cond, List, eqb}
use Rattle.plan.specs.declared.Plan.{Plan}
use Rattle.plan.specs.Limits.{most_domains}
use Rattle.plan.specs.Sums.{sum_to}
use Rattle.state.specs.World.{World, ended_of, position_at}
use Rattle.machine.specs.Steps.{step_of}

-- the ops that were run since a fresh start: the positions of all scripts together
abbrev pub ops_run : World → ℕ
ops_run world = sum_to (position_at world.state) most_domains

-- of the steps that a run under a limit does, those that begin in a window, its switch among them.
-- A step begins in the window that comes behind those completed so far.
unfoldable pub window_steps : Plan → List ℕ → ℕ → ℕ → ℕ → World → ℕ
window_steps plan scripts quota window zero world = 0
window_steps plan scripts quota window (suc limit) world =
    elim (ended_of plan world.state) [
      | true ↦ 0
      | false ↦ window_steps plan scripts quota window limit (step_of plan scripts quota world)
          + cond (eqb world.state.windows window) 1 0
    ]
