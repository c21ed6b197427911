-- A run right after a fresh start: where it begins, that what it leaves is not refused again, and that it ends. Assumes nothing.
use Rattle.std.specs.Prelude.{Ok, Err}
use mathlib.Core.Path.{◌≡◌, refl, sym, ap, subst, ◌∙◌}
use mathlib.Core.Bool.{true}
use mathlib.Core.List.{List}
use Prim.Native.Nat.{ℕ, ◌≤◌}
use lib.ListN.{length}
use Rattle.plan.specs.declared.Plan.{Plan}
use Rattle.plan.specs.Validity.{plan_valid}
use Rattle.script.specs.Limits.{scripts_length}
use Rattle.bound.specs.Bound.{step_bound}
use Rattle.cache.specs.Lines.{empty_table}
use Rattle.records.specs.Records.{part_records}
use Rattle.ops.specs.Ops.{empty_boxes}
use Rattle.state.specs.declared.State.{State}
use Rattle.state.specs.StateValidity.{state_valid}
use Rattle.state.specs.World.{World}
use Rattle.machine.specs.Steps.{run_by, steps}
use Rattle.machine.specs.View.{world_with}
use Rattle.reachable.proofs.Ending.{ends}
use Rattle.reachable.proofs.Reached.{boxes_length_lem, cache_length, log_length_lem, state_is_valid, tables_are_valid}
use Rattle.engine.specs.declared.Ending.TheVariants.{Ended}
use Rattle.engine.specs.Checks.{fresh_verdict, run_verdict}
use Rattle.machine.specs.Fresh.{fresh_world, reached_world}
use Rattle.engine.specs.FreshStart.{FreshOutcome, fresh_from, fresh_start_of}
use Rattle.engine.specs.Running.{ending_of, ran_from, run_call_of, run_from}
use Rattle.engine.proofs.Passing.{run_passes}
use Rattle.refusal.specs.Verdict.{Verdict}

-- a fresh start under a possible plan, on tables of the right lengths, gives the world from which runs start
pub started_fresh :
    (plan : Plan) (old fresh : State) (verdict : Verdict) (cache boxes log : List ℕ)
    → plan_valid plan ≡ true
    → record { verdict = verdict; state = fresh; cache = cache; boxes = boxes } ≡ fresh_start_of plan old empty_table empty_boxes
    → world_with fresh cache boxes log ≡ fresh_world log
unfolding fresh_start_of fresh_world fresh_verdict
started_fresh plan old fresh verdict cache boxes log possible did =
    let accepted : fresh_verdict plan empty_table empty_boxes ≡ Ok tt = rw possible refl in
    let started = did ∙ ap (λ (v : Verdict). fresh_from v old empty_table empty_boxes) accepted in
    ap (λ (f : FreshOutcome). world_with f.state f.cache f.boxes log) started

-- what a run from a fresh start leaves is as long as its log was, and its state is valid (14)
pub record Left (plan : Plan) (log : List ℕ) (world : World) : Type 0 where
  pub possible : state_valid plan (part_records plan (length log)) world.state ≡ true
  pub long : length world.log ≡ length log

pub run_left :
    (plan : Plan) (scripts log : List ℕ) (limit : ℕ) → plan_valid plan ≡ true → Left plan log (run_call_of plan scripts (fresh_world log) limit).world
unfolding run_call_of ran_from fresh_world run_by
run_left plan scripts log limit possible = go (run_verdict plan scripts (fresh_world log))
  where
    reached : (count : ℕ) → Left plan log (steps plan scripts (part_records plan (length log)) count (fresh_world log))
    reached count = record { possible = state_is_valid plan scripts log count possible; long = log_length_lem plan scripts log count possible }

    go : (verdict : Verdict) → Left plan log (run_from verdict plan scripts (fresh_world log) limit).world
    go (Ok tt) = reached limit
    go (Err refusal) = reached 0

-- a run that goes on from any world which steps from a fresh start reach, beside a script store of the right length, is not refused
pub reached_accepted : (plan : Plan) (scripts log : List ℕ) (count : ℕ)
    → plan_valid plan ≡ true
    → length scripts ≡ scripts_length
    → run_verdict plan scripts (reached_world plan scripts log count) ≡ Ok tt
reached_accepted plan scripts log count possible store =
    run_passes plan scripts (reached_world plan scripts log count) store
    (cache_length plan scripts log count possible)
    (boxes_length_lem plan scripts log count possible)
    possible
    (tables_are_valid plan scripts log count possible)
    (subst (λ size. state_valid plan (part_records plan size) (reached_world plan scripts log count).state ≡ true)
    (sym (log_length_lem plan scripts log count possible))
    (state_is_valid plan scripts log count possible))

-- nor is one right after a fresh start
pub fresh_run_accepted : (plan : Plan) (scripts log : List ℕ)
    → plan_valid plan ≡ true
    → length scripts ≡ scripts_length
    → run_verdict plan scripts (fresh_world log) ≡ Ok tt
unfolding run_by
fresh_run_accepted plan scripts log possible store = reached_accepted plan scripts log 0 possible store

-- and it ends, where its limit is at least the bound
pub fresh_run_ends : (plan : Plan) (scripts log : List ℕ) (limit : ℕ)
    → plan_valid plan ≡ true
    → length scripts ≡ scripts_length
    → step_bound plan scripts ≤ limit
    → (run_call_of plan scripts (fresh_world log) limit).ending ≡ Ended
unfolding run_call_of ran_from fresh_world
fresh_run_ends plan scripts log limit possible store enough =
    let quota = part_records plan (length log) in
    ap (λ (verdict : Verdict). (run_from verdict plan scripts (fresh_world log) limit).ending) (fresh_run_accepted plan scripts log possible store)
    ∙ ap ending_of (ends plan scripts quota possible limit log enough)
