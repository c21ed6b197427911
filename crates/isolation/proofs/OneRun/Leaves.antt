-- What a list of calls leaves is n steps of its fresh start, as many as its calls count. Assumes nothing.
use Prim.Native.Nat.{ℕ, ◌+◌}
use mathlib.Core.Bool.{true}
use mathlib.Core.List.{List, [], ◌∷◌}
use mathlib.Core.Logic.{◌⊎◌}
use mathlib.Core.Path.{◌≡◌, sym, ap, ◌∙◌}
use native.Mathlib.Nat.{add_assoc, add-zero, zero-add}
use lib.ListN.{length}
use Rattle.plan.specs.Validity.{plan_valid}
use Rattle.records.specs.Records.{part_records}
use Rattle.state.specs.World.{World}
use Rattle.machine.specs.Steps.{run_by, steps}
use Rattle.machine.proofs.Runs.{steps_add}
use Rattle.reachable.proofs.Reached.{log_length_lem}
use Rattle.machine.specs.Fresh.{fresh_world}
use Rattle.isolation.specs.Calls.{AllOwn, Call, CallList, IsList, Proper, after_call, after_calls, is_refused, leaves_of, point_of, start_world, steps_counted, steps_of_calls, verdict_of}
use Rattle.isolation.specs.Points.{FreshRun, world_after}
use Rattle.isolation.specs.Statement.{run_of_list}
use Rattle.isolation.proofs.OneRun.Calls.{call_steps}
use Rattle.isolation.proofs.OneRun.Verdicts.{fresh_valid, fresh_started}

-- the plan of a list is a possible one
pub list_valid : (list : CallList) → IsList list → plan_valid list.plan ≡ true
list_valid list is = fresh_valid list.plan list.old_state list.old_cache list.old_boxes is.started

-- its calls start from the machine's fresh world
pub list_start : (list : CallList) → IsList list → start_world list ≡ fresh_world list.log
unfolding start_world
list_start list is = fresh_started list.plan list.old_state list.old_cache list.old_boxes list.log is.started

module _ (run : FreshRun) (possible : plan_valid run.plan ≡ true) where
  -- the log keeps its length, and so do its parts
  pub quota_kept : (count : ℕ)
      → part_records run.plan (length (world_after run count).log) ≡ part_records run.plan (length run.log)
  unfolding world_after fresh_world
  quota_kept count = ap (part_records run.plan) (log_length_lem run.plan run.scripts run.log count possible)

  -- steps from a world of the run lead to a later one
  pub steps_later : (count more : ℕ)
      → steps run.plan run.scripts (part_records run.plan (length (world_after run count).log)) more (world_after run count)
      ≡ world_after run (count + more)
  unfolding world_after
  steps_later count more =
      ap (λ quota. steps run.plan run.scripts quota more (world_after run count)) (quota_kept count)
      ∙ sym (steps_add _ run.plan run.scripts (part_records run.plan (length run.log)) count more (fresh_world run.log))

  -- so a call leads from a world of the run to the one that is as many steps later as the call counts
  call_later : (call : Call) (count : ℕ) (world : World)
      → world ≡ world_after run count
      → (is_refused (verdict_of run.plan run.scripts call world) ≡ true) ⊎ AllOwn call
      → after_call run.plan run.scripts call world ≡ world_after run (count + steps_counted run.plan run.scripts call world)
  call_later call count world reached proper =
      let counted = steps_counted run.plan run.scripts call world in
      call_steps run.plan run.scripts call world proper
      ∙ ap (λ from. steps run.plan run.scripts (part_records run.plan (length from.log)) counted from) reached
      ∙ steps_later count counted

  calls_later : (calls : List Call) (count : ℕ) (world : World)
      → world ≡ world_after run count
      → Proper run.plan run.scripts calls world
      → after_calls run.plan run.scripts calls world ≡ world_after run (count + steps_of_calls run.plan run.scripts calls world)
  unfolding after_calls steps_of_calls Proper
  calls_later [] count world reached proper = reached ∙ ap (world_after run) (sym (add-zero count))
  calls_later (call ∷ calls) count world reached proper =
      let counted = steps_counted run.plan run.scripts call world in
      let next = after_call run.plan run.scripts call world in
      calls_later calls (count + counted) next (call_later call count world reached proper.0) proper.1
      ∙ ap (world_after run) (add_assoc count counted (steps_of_calls run.plan run.scripts calls next))

-- what a list leaves is what its run's steps leave
pub leaves : (list : CallList) → IsList list → leaves_of list ≡ world_after (run_of_list list) (point_of list)
unfolding world_after run_by
leaves list is =
    calls_later (run_of_list list) (list_valid list is) list.calls 0 (start_world list) (list_start list is) is.proper
    ∙ ap (world_after (run_of_list list)) (zero-add (point_of list))
