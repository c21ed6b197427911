-- Every reached world has tables of the right lengths that are valid (13). Assumes nothing.
use Prim.Native.Nat.{ℕ, ◌<◌}
use mathlib.Core.Bool.{true}
use mathlib.Core.List.{List}
use mathlib.Core.Path.{◌≡◌, refl, ◌∙◌}
use native.Mathlib.Omega.{arith}
use lib.ListN.{length}
use borrow.Author.Tests.{lt-leb}
use Rattle.plan.specs.declared.Plan.{Plan}
use Rattle.plan.specs.Validity.{plan_valid}
use Rattle.plan.specs.Windows.{windows_total}
use Rattle.plan.proofs.Sums.{below_all}
use Rattle.plan.proofs.Windows.{domains_most, owner_declared}
use Rattle.script.specs.declared.Op.{Op}
use Rattle.cache.specs.Lines.{l1_length, set_count}
use Rattle.records.specs.Records.{in_parts}
use Rattle.records.proofs.Places.{stored_length}
use Rattle.ops.specs.Ops.{boxes_length}
use Rattle.state.specs.TableValidity.{box_valid, l1_entry_valid, tables_valid}
use Rattle.state.specs.World.{World, ended_of, position_at, records_at, running_of}
use Rattle.machine.specs.Fresh.{fresh_world}
use Rattle.machine.specs.Steps.{op_step_by, op_step_of, steps}
use Rattle.machine.specs.Switch.{is_last, switch_by, switch_of}
use Rattle.machine.proofs.Fetched.{fetched_within}
use Rattle.machine.proofs.Invariant.{Begins, steps_hold}
use Rattle.lists.proofs.Tests.{both_pass}
use Rattle.reachable.proofs.Cells.{cell_zeros, zeros_length}
use Rattle.reachable.proofs.Effects.{BoxesValid, effect_valid, empty_box}
use Rattle.reachable.proofs.Lines.{CacheValid, zeros_valid}
use Rattle.reachable.proofs.Switches.{switch_valid}

-- a world beside a log of a length
pub record Sound (plan : Plan) (log_length : ℕ) (world : World) : Type 0 where
  pub cache : CacheValid plan world.state world.cache
  pub boxes : BoxesValid plan world.boxes
  pub log : length world.log ≡ log_length

module _ (plan : Plan) (scripts : List ℕ) (quota log_length : ℕ) (possible : plan_valid plan ≡ true) where
  pub after_switch : (world : World) → Sound plan log_length world → world.state.windows < windows_total plan
      → Sound plan log_length (switch_of plan world)
  unfolding switch_by ended_of
  after_switch world sound in_a_window =
      record {
        cache = switch_valid plan world.state (switch_of plan world).state world.cache sound.cache (is_last plan world.state.windows) refl;
        boxes = sound.boxes;
        log = sound.log;
      }

  -- an op leaves the number of windows, on which alone it depends which lines L1 may hold
  pub after_op : (world : World) (op : Op) → Sound plan log_length world → Begins plan scripts quota world op
      → Sound plan log_length (op_step_of plan quota (running_of plan world.state) op world)
  unfolding op_step_by ended_of
  after_op world op sound begins =
      let running = running_of plan world.state in
      let declared = owner_declared plan world.state.windows possible in
      let most = domains_most plan possible in
      let effect =
      effect_valid plan world.state (lt-leb (windows_total plan) world.state.windows begins.in_a_window)
      world.cache world.boxes
      sound.cache
      sound.boxes
      (omega arith)
      op
      (fetched_within scripts running (position_at world.state running) op begins.next)
      in
      record {
        cache = record { long = effect.cache.long; lines = effect.cache.lines; sets = effect.cache.sets };
        boxes = effect.boxes;
        log = stored_length (in_parts quota running) (records_at world.state running) _ _ world.log ∙ sound.log;
      }

  pub at_start : (log : List ℕ) → length log ≡ log_length → Sound plan log_length (fresh_world log)
  unfolding fresh_world
  at_start log long =
      record {
        cache = zeros_valid plan _;
        boxes =
            record {
              long = zeros_length boxes_length;
              full = λ index. empty_box plan index _ (cell_zeros boxes_length index);
            };
        log = long;
      }

  -- every world that a run reaches from a fresh start is sound
  pub sound : (count : ℕ) (log : List ℕ) → length log ≡ log_length
      → Sound plan log_length (steps plan scripts quota count (fresh_world log))
  sound count log long =
      steps_hold _ plan scripts quota (Sound plan log_length) after_switch after_op (fresh_world log)
      (at_start log long) count

-- a sound world has valid tables
pub passes_tables : (plan : Plan) (log_length : ℕ) (world : World) → Sound plan log_length world
    → tables_valid plan world.state world.cache world.boxes ≡ true
unfolding tables_valid l1_entry_valid box_valid
passes_tables plan log_length world sound =
    both_pass _ _
    (both_pass _ _ (below_all _ set_count sound.cache.sets) (below_all _ l1_length sound.cache.lines))
    (below_all _ boxes_length (λ index below. sound.boxes.full index))
