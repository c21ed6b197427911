-- Document 02, E9: that windows start when the plan alone says, and that no smaller pad than the
-- least would do, by a state that a host may lend. Assumes nothing.
use Rattle.std.specs.Prelude.{ℕ, ◌+◌, ◌≤◌, ◌<◌, true, ◌≡◌, length}
use Rattle.plan.specs.declared.Plan.{Plan}
use Rattle.plan.specs.Limits.{least_pad}
use Rattle.plan.specs.Validity.{plan_valid}
use Rattle.plan.specs.Windows.{window_start, windows_total}
use Rattle.cache.specs.Lines.{table_length}
use Rattle.records.specs.Records.{part_records}
use Rattle.ops.specs.Ops.{boxes_length}
use Rattle.state.specs.StateValidity.{state_valid}
use Rattle.state.specs.TableValidity.{tables_valid}
use Rattle.state.specs.World.{World}
use Rattle.machine.specs.Switch.{switch_of}

-- a plan with another pad
abbrev pub with_pad : Plan → ℕ → Plan
with_pad plan pad =
    record {
      pad = pad;
      run = plan.run;
      domains = plan.domains;
      windows = plan.windows;
      shares = plan.shares;
      rights = plan.rights;
      owners = plan.owners;
      lengths = plan.lengths;
      masks = plan.masks;
    }

-- a switch that comes in a window of a valid plan leaves the clock at the next window's start,
-- whatever state 14 let pass and whatever tables were lent
abbrev pub OnTime : Type 0
OnTime =
    (plan : Plan) (quota : ℕ) (world : World)
    → plan_valid plan ≡ true
    → state_valid plan quota world.state ≡ true
    → world.state.windows < windows_total plan
    → (switch_of plan world).state.clock ≡ window_start plan (world.state.windows + 1)

-- a plan and a world that nothing is refused of. With a smaller pad the pad alone would be (12), and
-- neither tables (13) nor state (14); yet each of these is too short: with it the next window would
-- start later than the plan says
pub record LeastPadNeeded : Type 0 where
  pub plan : Plan
  pub world : World
  pub plan_is_valid : plan_valid (with_pad plan least_pad) ≡ true
  pub cache_long : length world.cache ≡ table_length
  pub boxes_long : length world.boxes ≡ boxes_length
  pub tables_are_valid :
      (pad : ℕ) → pad ≤ least_pad
      → tables_valid (with_pad plan pad) world.state world.cache world.boxes ≡ true
  pub state_is_valid :
      (pad : ℕ) → pad ≤ least_pad
      → state_valid (with_pad plan pad) (part_records (with_pad plan pad) (length world.log))
      world.state
      ≡ true
  pub in_window : world.state.windows + 1 < windows_total (with_pad plan least_pad)
  pub too_late :
      (pad : ℕ) → pad < least_pad
      → window_start (with_pad plan pad) (world.state.windows + 1)
      < (switch_of (with_pad plan pad) world).state.clock
