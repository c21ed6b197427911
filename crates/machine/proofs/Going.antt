-- A run under way: what holds each time its loop comes round, and what follows when it stops. Assumes nothing.
use Rattle.std.specs.Prelude.{Option}
use mathlib.Core.Path.{◌≡◌, refl, sym, subst, ap, ◌∙◌}
use mathlib.Core.Bool.{Bool, false, true, ◌&&◌, and-eq-true_iff}
use mathlib.Core.List.{List}
use Prim.Native.Nat.{ℕ, ◌+◌, ◌*◌, ◌-◌, ◌≤◌, ◌<◌}
use native.Mathlib.Nat.{mul-le-mul}
use native.Mathlib.Omega.{arith}
use lib.Dec.{ltb}
use lib.ListN.{get_or, length}
use borrow.Author.Tests.{le-leb, ltb-false, ltb-true}
use Rattle.plan.specs.declared.Plan.{Plan}
use Rattle.plan.specs.Limits.{dearest_op, most_domains, most_length, most_pad, most_run, most_run_ticks, most_windows}
use Rattle.plan.specs.Validity.{plan_valid}
use Rattle.plan.specs.Windows.{window_end, window_length, window_owner, slot_of, window_start, windows_total}
use Rattle.plan.proofs.ValidPlans.{counts}
use Rattle.plan.proofs.Windows.{length_most, owner_declared, slot_below, start_fits}
use Rattle.cache.specs.Access.{access_of}
use Rattle.state.specs.StateValidity.{state_valid}
use Rattle.state.specs.World.{World, ended_of}
use Rattle.machine.specs.Steps.{RunEffect, run_by}
use Rattle.machine.specs.View.{RunsTo, ran_with}
use Rattle.machine.proofs.Invariant.{steps_counts}
use Rattle.machine.proofs.Runs.{runs_ended, runs_on}
use Rattle.machine.proofs.Schedule.{Scheduled, steps_scheduled, valid_scheduled}

-- the numbers of a window are small, so that nothing in a step wraps; `slot` is its number among
-- the declared ones
pub record Small (plan : Plan) (windows start slot : ℕ) : Type 0 where
  pub slot_declared : slot < plan.windows
  pub slot_below : slot < most_windows
  pub owner_declared : get_or plan.owners slot 0 < plan.domains
  pub owner_below : get_or plan.owners slot 0 < most_domains
  pub length_below : get_or plan.lengths slot 0 ≤ most_length
  pub start_below : start ≤ most_run_ticks
  pub end_is : start + get_or plan.lengths slot 0 ≡ window_end plan windows
  pub pad_below : plan.pad ≤ most_pad

pub small : (plan : Plan) (windows start slot : ℕ) → plan_valid plan ≡ true
    → start ≡ window_start plan windows
    → slot ≡ slot_of plan windows
    → windows < windows_total plan
    → Small plan windows start slot
unfolding window_end window_length window_owner
small plan windows start slot possible starts is in_a_window =
    let count = counts plan possible in
    let below = slot_below plan windows possible in
    let owner = owner_declared plan windows possible in
    let fits = start_fits plan windows possible (omega arith) in
    subst (Small plan windows start) (sym is)
    (record {
      slot_declared = below;
      slot_below = omega arith;
      owner_declared = owner;
      owner_below = omega arith;
      length_below = length_most plan windows possible;
      start_below = omega arith;
      end_is = ap (λ (n : ℕ). n + window_length plan windows) starts;
      pad_below = count.pad_most;
    })

-- a run has few windows
pub windows_small : (plan : Plan) → plan_valid plan ≡ true → windows_total plan ≤ most_run * most_windows
unfolding windows_total
windows_small plan possible = let count = counts plan possible in mul-le-mul count.run_most count.windows_most

-- the tests of the loop
pub goes_on : (steps limit windows total : ℕ) → (ltb steps limit && ltb windows total) ≡ true → (steps < limit) × (windows < total)
goes_on steps limit windows total test =
    let tests = (and-eq-true_iff (ltb steps limit) (ltb windows total)).0 test in
    (ltb-true steps limit tests.0, ltb-true windows total tests.1)

-- some steps are done, and they lead to what is present
pub record Going
    (places : ℕ → Option ℕ) (plan : Plan) (scripts : List ℕ) (quota limit : ℕ) (first present : World)
    (steps start slot : ℕ) : Type 0 where
  pub within : steps ≤ limit
  pub ran : RunsTo places plan scripts quota steps first present
  pub starts : steps < limit → start ≡ window_start plan present.state.windows
  pub slots : steps < limit → slot ≡ slot_of plan present.state.windows
  pub cache_long : length present.cache ≡ length first.cache
  pub boxes_long : length present.boxes ≡ length first.boxes
  pub log_long : length present.log ≡ length first.log

module _ (places : ℕ → Option ℕ) (plan : Plan) (scripts : List ℕ) (quota limit : ℕ) (first : World) where
  -- before the first step
  pub going_first : (start slot : ℕ) → start ≡ window_start plan first.state.windows
      → slot ≡ slot_of plan first.state.windows
      → Going places plan scripts quota limit first first 0 start slot
  unfolding run_by
  going_first start slot starts is =
      record {
        within = omega arith;
        ran = refl;
        starts = λ more. starts;
        slots = λ more. is;
        cache_long = refl;
        boxes_long = refl;
        log_long = refl;
      }

  module _ (present : World) (steps start slot : ℕ)
      (going : Going places plan scripts quota limit first present steps start slot) where
    -- some steps more
    pub going_on :
        (next : World) (more start' slot' : ℕ)
        → more ≤ limit - steps
        → RunsTo places plan scripts quota more present next
        → (more < limit - steps → start' ≡ window_start plan next.state.windows)
        → (more < limit - steps → slot' ≡ slot_of plan next.state.windows)
        → length next.cache ≡ length present.cache
        → length next.boxes ≡ length present.boxes
        → length next.log ≡ length present.log
        → Going places plan scripts quota limit first next (steps + more) start' slot'
    going_on next more start' slot' fewer ran starts slots cache boxes log =
        record {
          within = omega (arith, going.within);
          ran = runs_on places plan scripts quota steps more first present next going.ran ran;
          starts = λ fewer. starts (omega arith);
          slots = λ fewer. slots (omega arith);
          cache_long = cache ∙ going.cache_long;
          boxes_long = boxes ∙ going.boxes_long;
          log_long = log ∙ going.log_long;
        }

    -- the limit is reached, or the run is over: nothing is left to do
    pub going_done : (ltb steps limit && ltb present.state.windows (windows_total plan)) ≡ false → ran_with steps present ≡ run_by access_of places plan scripts quota limit first
    unfolding ended_of
    going_done stops = go (ltb steps limit) refl stops
      where
        go : (fewer : Bool) → ltb steps limit ≡ fewer → (fewer && ltb present.state.windows (windows_total plan)) ≡ false
            → ran_with steps present ≡ run_by access_of places plan scripts quota limit first
        go true fewer ended =
            runs_ended places plan scripts quota steps limit first present going.ran going.within
            (le-leb (windows_total plan) present.state.windows (ltb-false present.state.windows (windows_total plan) ended))
        go false reached stops =
            let past : limit ≤ steps = ltb-false steps limit reached in
            let all : steps ≡ limit = omega (arith, going.within) in
            going.ran ∙ ap (λ (n : ℕ). run_by access_of places plan scripts quota n first) all

    -- in a window the clock is near the window's end
    pub going_clock : plan_valid plan ≡ true → state_valid plan quota first.state ≡ true → present.state.windows < windows_total plan
        → present.state.clock ≤ window_end plan present.state.windows + (dearest_op - 1)
    going_clock possible valid in_a_window =
        let on-schedule = steps_scheduled places plan scripts quota first possible (valid_scheduled plan quota first possible valid) steps in
        (subst (Scheduled plan) (sym (ap (λ (r : RunEffect). r.world) going.ran)) on-schedule).soon in_a_window

    -- and the counts are as many as at first
    pub going_counts :
        (length present.state.positions ≡ length first.state.positions) × (length present.state.records ≡ length first.state.records)
    going_counts =
        subst
        (λ (w : World). (length w.state.positions ≡ length first.state.positions) × (length w.state.records ≡ length first.state.records))
        (sym (ap (λ (r : RunEffect). r.world) going.ran))
        (steps_counts places plan scripts quota steps first)
