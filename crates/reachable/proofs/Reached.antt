-- Every world that a run reaches from a fresh start under a possible plan, beside a log of any length: its tables have their lengths
-- and are valid (13), and so is its state (14). Assumes nothing.
use mathlib.Core.Bool.{true}
use mathlib.Core.List.{List}
use mathlib.Core.Path.{◌≡◌, refl}
use Prim.Native.Nat.{ℕ, ◌<◌}
use lib.ListN.{get_or, length}
use Rattle.plan.specs.declared.Plan.{Plan}
use Rattle.plan.specs.Validity.{plan_valid}
use Rattle.cache.specs.Access.{dirty_line}
use Rattle.cache.specs.Lines.{is_dirty, l1_length, table_length}
use Rattle.records.specs.Records.{part_records}
use Rattle.ops.specs.Ops.{boxes_length}
use Rattle.state.specs.TableValidity.{line_allowed, tables_valid}
use Rattle.state.specs.World.{running_of}
use Rattle.state.specs.StateValidity.{state_valid}
use Rattle.machine.specs.Fresh.{reached_world}
use Rattle.machine.proofs.Schedule.{scheduled}
use Rattle.reachable.proofs.Counts.{counted}
use Rattle.reachable.proofs.Lines.{dirty_line_lem}
use Rattle.reachable.proofs.StateReached.{passes_state}
use Rattle.reachable.proofs.Tables.{Sound, passes_tables, sound}

module _ (plan : Plan) (scripts log : List ℕ) (count : ℕ) (possible : plan_valid plan ≡ true) where
  reached_valid : Sound plan (length log) (reached_world plan scripts log count)
  reached_valid = sound plan scripts (part_records plan (length log)) (length log) possible count log refl

  -- the tables have their lengths
  pub cache_length : length (reached_world plan scripts log count).cache ≡ table_length
  cache_length = reached_valid.cache.long

  pub boxes_length_lem : length (reached_world plan scripts log count).boxes ≡ boxes_length
  boxes_length_lem = reached_valid.boxes.long

  pub log_length_lem : length (reached_world plan scripts log count).log ≡ length log
  log_length_lem = reached_valid.log

  -- every dirty line of L1 is one that the running domain may have there
  pub dirty_allowed : (index : ℕ) → index < l1_length
      → is_dirty (get_or (reached_world plan scripts log count).cache index 0) ≡ true
      → line_allowed plan (running_of plan (reached_world plan scripts log count).state)
      (dirty_line (get_or (reached_world plan scripts log count).cache index 0))
      ≡ true
  dirty_allowed index below dirty = (dirty_line_lem plan _ index _ (reached_valid.cache.lines index below) dirty).allowed

  -- they are valid, and so is the state
  pub tables_are_valid :
      tables_valid plan (reached_world plan scripts log count).state (reached_world plan scripts log count).cache
      (reached_world plan scripts log count).boxes
      ≡ true
  tables_are_valid = passes_tables plan (length log) (reached_world plan scripts log count) reached_valid

  pub state_is_valid : state_valid plan (part_records plan (length log)) (reached_world plan scripts log count).state ≡ true
  state_is_valid =
      passes_state plan (part_records plan (length log)) (reached_world plan scripts log count) possible
      (scheduled plan scripts (part_records plan (length log)) count log possible)
      (counted plan scripts (part_records plan (length log)) possible count log)
