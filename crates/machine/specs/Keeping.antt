-- Document 02, E8: keeping only one operator's log. What a run that keeps one domain's records has
-- to do with the run that keeps everyone's. Assumes nothing.
use Rattle.std.specs.Prelude.{ℕ, ◌≤◌, false, List, ◌≡◌}
use Rattle.plan.specs.declared.Plan.{Plan}
use Rattle.cache.specs.Access.{access_of}
use Rattle.records.specs.declared.Keep.TheVariants.{One}
use Rattle.records.specs.Records.{log_part, places_of}
use Rattle.state.specs.World.{World, ended_of, records_at, running_of}
use Rattle.machine.specs.Steps.{RunEffect, run_keeping, run_of, step_by}
use Rattle.machine.specs.Switch.{switch_of}

-- a world whose log is one domain's whole part of another's
abbrev pub kept_world : ℕ → ℕ → World → World
kept_world quota domain world =
    record {
      state = world.state;
      cache = world.cache;
      boxes = world.boxes;
      log = log_part quota domain quota world.log;
    }

-- what a run leaves, with that part for its log
abbrev pub kept_effect : ℕ → ℕ → RunEffect → RunEffect
kept_effect quota domain ran =
    record { done = ran.done; world = kept_world quota domain ran.world }

-- one step of a run that keeps one domain's records
abbrev pub kept_step : ℕ → Plan → List ℕ → ℕ → World → World
kept_step domain plan scripts quota =
    step_by access_of (places_of (One domain) quota) plan scripts quota

-- on every world, reachable or not
pub record KeptRunsAlike : Type 0 where
  -- handed a domain's part of the log, a run that keeps that domain's records does as many steps as
  -- the run with the whole log, and leaves what that leaves, with the domain's part for the log
  pub alike :
      (plan : Plan) (scripts : List ℕ) (quota domain limit : ℕ) (world : World)
      → run_keeping (One domain) plan scripts quota limit (kept_world quota domain world)
      ≡ kept_effect quota domain (run_of plan scripts quota limit world)
  -- a domain whose part would be full is idle, whether its records are kept or not: a switch is
  -- next
  pub idle :
      (plan : Plan) (scripts : List ℕ) (quota domain : ℕ) (world : World)
      → ended_of plan world.state ≡ false
      → quota ≤ records_at world.state (running_of plan world.state)
      → kept_step domain plan scripts quota world ≡ switch_of plan world
  -- in another domain's window nothing is stored
  pub others :
      (plan : Plan) (scripts : List ℕ) (quota domain : ℕ) (world : World)
      → (running_of plan world.state ≡ domain → ⊥)
      → (kept_step domain plan scripts quota world).log ≡ world.log
