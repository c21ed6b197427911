-- The counts of a reached state: script positions within a script, records at most what a part of the log holds, and an undeclared domain's both 0.
-- Assumes nothing.
use Prim.Native.Nat.{ℕ, ◌+◌, ◌≤◌, ◌<◌}
use mathlib.Core.Bool.{true}
use mathlib.Core.List.{List}
use mathlib.Core.Path.{◌≡◌}
use native.Mathlib.Omega.{arith}
use Rattle.plan.specs.declared.Plan.{Plan}
use Rattle.plan.specs.Limits.{most_domains}
use Rattle.plan.specs.Validity.{plan_valid}
use Rattle.plan.specs.Windows.{windows_total}
use Rattle.plan.proofs.Windows.{owner_declared}
use Rattle.script.specs.declared.Op.{Op}
use Rattle.script.specs.Limits.{most_ops}
use Rattle.state.specs.World.{World, fresh_state, position_at, records_at, running_of}
use Rattle.machine.specs.Fresh.{fresh_world}
use Rattle.machine.specs.Steps.{op_step_by, op_step_of, steps}
use Rattle.machine.specs.Switch.{switch_by, switch_of}
use Rattle.machine.proofs.Fetched.{fetched_below}
use Rattle.machine.proofs.Invariant.{Begins, steps_hold}
use Rattle.reachable.proofs.Cells.{cell_holds, cell_zeros}

pub record Counted (plan : Plan) (quota : ℕ) (world : World) : Type 0 where
  pub position : (domain : ℕ) → position_at world.state domain ≤ most_ops
  pub records : (domain : ℕ) → records_at world.state domain ≤ quota
  pub no_position : (domain : ℕ) → plan.domains ≤ domain → position_at world.state domain ≡ 0
  pub no_records : (domain : ℕ) → plan.domains ≤ domain → records_at world.state domain ≡ 0

module _ (plan : Plan) (scripts : List ℕ) (quota : ℕ) (possible : plan_valid plan ≡ true) where
  after_switch : (world : World) → Counted plan quota world → world.state.windows < windows_total plan → Counted plan quota (switch_of plan world)
  unfolding switch_by
  after_switch world counted in_a_window =
      record { position = counted.position; records = counted.records; no_position = counted.no_position; no_records = counted.no_records }

  after_op : (world : World) (op : Op) → Counted plan quota world → Begins plan scripts quota world op
      → Counted plan quota (op_step_of plan quota (running_of plan world.state) op world)
  unfolding op_step_by
  after_op world op counted begins =
      let running = running_of plan world.state in
      let position = position_at world.state running in
      let count = records_at world.state running in
      let positions = world.state.positions in
      let records = world.state.records in
      let declared = owner_declared plan world.state.windows possible in
      let below = fetched_below scripts running position op begins.next in
      let room = begins.room in
      record {
        position = λ domain. cell_holds (λ n. n ≤ most_ops) positions running domain (position + 1) (counted.position domain) (λ same. omega arith);
        records = λ domain. cell_holds (λ n. n ≤ quota) records running domain (count + 1) (counted.records domain) (λ same. omega arith);
        no_position =
            λ domain past. cell_holds (λ n. n ≡ 0) positions running domain (position + 1) (counted.no_position domain past) (λ same. omega arith);
        no_records =
            λ domain past. cell_holds (λ n. n ≡ 0) records running domain (count + 1) (counted.no_records domain past) (λ same. omega arith);
      }

  at_start : (log : List ℕ) → Counted plan quota (fresh_world log)
  unfolding fresh_world fresh_state
  at_start log =
      record {
        position = λ domain. omega (arith, cell_zeros most_domains domain);
        records = λ domain. omega (arith, cell_zeros most_domains domain);
        no_position = λ domain past. cell_zeros most_domains domain;
        no_records = λ domain past. cell_zeros most_domains domain;
      }

  -- every world that a run reaches from a fresh start has possible counts
  pub counted : (count : ℕ) (log : List ℕ) → Counted plan quota (steps plan scripts quota count (fresh_world log))
  counted count log = steps_hold _ plan scripts quota (Counted plan quota) after_switch after_op (fresh_world log) (at_start log) count
