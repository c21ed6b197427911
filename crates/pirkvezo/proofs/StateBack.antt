-- The state that a host lends to its next call is the state that the last one left: a lent state's
-- arrays have their lengths, and every step
-- keeps them. Assumes nothing.
use Rattle.std.specs.Prelude.{Option, Ok, Err}
use mathlib.Core.Path.{refl, ◌∙◌}
use mathlib.Core.List.{List}
use Prim.Native.Nat.{ℕ}
use lib.ListN.{length}
use Rattle.plan.specs.declared.Plan.{Plan}
use Rattle.cache.specs.Access.{access_of}
use Rattle.records.specs.declared.Keep.TheVariants.{One}
use Rattle.records.specs.Records.{in_parts, only_of, part_records}
use Rattle.state.specs.declared.State.{State}
use Rattle.state.specs.World.{World, fresh_state}
use Rattle.machine.specs.Steps.{RunEffect, run_keeping, run_of, steps_by}
use Rattle.machine.specs.View.{world_with}
use Rattle.machine.proofs.Invariant.{steps_counts}
use Rattle.engine.specs.Checks.{fresh_verdict, kept_verdict, run_verdict}
use Rattle.engine.specs.FreshStart.{fresh_from, fresh_start_of}
use Rattle.engine.specs.Keeping.{kept_call_of}
use Rattle.engine.specs.Running.{outcome_from, ran_from, run_call_of}
use Rattle.plan.specs.Limits.{most_domains}
use Rattle.pirkvezo.specs.Numbers.{plan_of, positions_offset, records_offset, state_of}
use Rattle.pirkvezo.specs.Theorems.{FreshStateReturns, KeptStateReturns, RunStateReturns}
use Rattle.pirkvezo.proofs.Runs.{run_length}
use Rattle.pirkvezo.proofs.Whole.{StateLengths, state_again}
use Rattle.refusal.specs.Verdict.{Verdict}

lent_long : (numbers : List ℕ) → StateLengths (state_of numbers)
unfolding state_of
lent_long numbers =
    record {
      positions = run_length numbers positions_offset most_domains;
      records = run_length numbers records_offset most_domains;
    }

-- ---- a fresh start

fresh_long :
    (verdict : Verdict) (state : State) (cache boxes : List ℕ)
    → StateLengths state
    → StateLengths (fresh_from verdict state cache boxes).state
unfolding fresh_state
fresh_long (Ok tt) state cache boxes long = record { positions = refl; records = refl }
fresh_long (Err refusal) state cache boxes long = long

pub fresh_back : FreshStateReturns
unfolding fresh_start_of
fresh_back plan state cache boxes = state_again _ (fresh_long (fresh_verdict (plan_of plan) cache boxes) (state_of state) cache boxes (lent_long state))

-- ---- a run

abbrev Long : World → Type 0
Long world = StateLengths world.state

run_long : (places : ℕ → Option ℕ) (plan : Plan) (scripts : List ℕ) (quota limit : ℕ) (world : World) → Long world
    → Long (steps_by access_of places plan scripts quota limit world)
run_long places plan scripts quota limit world long =
    let kept = steps_counts places plan scripts quota limit world in
    record { positions = kept.0 ∙ long.positions; records = kept.1 ∙ long.records }

call_long : (verdict : Verdict) (plan : Plan) (ran : RunEffect) (world : World) → Long ran.world → Long world
    → Long (outcome_from verdict plan ran world).world
unfolding ran_from
call_long (Ok tt) plan ran world did long = did
call_long (Err refusal) plan ran world did long = long

pub run_back : RunStateReturns
unfolding run_call_of
run_back plan scripts state cache boxes log limit =
    let world : World = world_with (state_of state) cache boxes log in
    let quota = part_records (plan_of plan) (length log) in
    state_again _
    (call_long (run_verdict (plan_of plan) scripts world) (plan_of plan) (run_of (plan_of plan) scripts quota limit world) world
    (run_long (in_parts quota) (plan_of plan) scripts quota limit world (lent_long state)) (lent_long state))

pub kept_back : KeptStateReturns
unfolding kept_call_of
kept_back plan scripts state cache boxes kept domain quota limit =
    let world : World = world_with (state_of state) cache boxes kept in
    state_again _
    (call_long (kept_verdict (plan_of plan) scripts domain quota world) (plan_of plan)
    (run_keeping (One domain) (plan_of plan) scripts quota limit world) world
    (run_long (only_of domain) (plan_of plan) scripts quota limit world (lent_long state)) (lent_long state))
