-- Runs and their steps: n steps may be taken apart at either end, an ended world stays, and a run of a + b steps is a run of a, then one of b.
-- Wherever each domain's records go. Assumes nothing.
use Rattle.std.specs.Prelude.{Option}
use Prim.Native.Nat.{ℕ, zero, suc, ◌+◌, ◌-◌, ◌≤◌}
use mathlib.Core.Bool.{Bool, true, false}
use mathlib.Core.List.{List}
use mathlib.Core.Path.{◌≡◌, refl, sym, ap, subst, ◌∙◌}
use native.Mathlib.Nat.{add-zero, suc-add, zero-add}
use native.Mathlib.Omega.{arith}
use Rattle.plan.specs.declared.Plan.{Plan}
use Rattle.cache.specs.Access.{access_of}
use Rattle.state.specs.World.{World, ended_of}
use Rattle.machine.specs.Steps.{RunEffect, active_step_by, next_step_of, one_more, run_by, step_by, steps_by, turn_of}
use Rattle.machine.specs.View.{RunsTo, ran_with}

module _ (places : ℕ → Option ℕ) (plan : Plan) (scripts : List ℕ) (quota : ℕ) where
  -- a step of it, a run of it, n steps
  abbrev step : World → World
  step = step_by access_of places plan scripts quota

  abbrev run : ℕ → World → RunEffect
  run = run_by access_of places plan scripts quota

  abbrev after : ℕ → World → World
  after = steps_by access_of places plan scripts quota

  -- ---- one step

  pub step_ended : (world : World) → ended_of plan world.state ≡ true → step world ≡ world
  unfolding step_by
  step_ended world ended = rw (ended, step_by)

  pub step_active : (world : World) → ended_of plan world.state ≡ false
      → step world ≡ active_step_by access_of places plan (next_step_of scripts (turn_of plan quota world.state)) world
  unfolding step_by
  step_active world running = rw (running, step_by)

  -- ---- a run under a limit

  pub run_ended : (limit : ℕ) (world : World) → ended_of plan world.state ≡ true → run limit world ≡ ran_with 0 world
  unfolding run_by
  run_ended zero world ended = refl
  run_ended (suc limit) world ended = rw (ended, run_by)

  run_more : (limit : ℕ) (world : World) → ended_of plan world.state ≡ false
      → run (suc limit) world ≡ one_more (run limit (step world))
  unfolding run_by
  run_more limit world running = rw (running, run_by)

  -- a run of one step or more, by whether it had ended
  pub by_end : (Holds : RunEffect → Type 0) (limit : ℕ) (world : World)
      → (ended_of plan world.state ≡ true → Holds (ran_with 0 world))
      → (ended_of plan world.state ≡ false → Holds (one_more (run limit (step world))))
      → Holds (run (suc limit) world)
  by_end Holds limit world at-end before = go (ended_of plan world.state) refl
    where
      go : (ended : Bool) → ended_of plan world.state ≡ ended → Holds (run (suc limit) world)
      go true test = subst Holds (sym (run_ended (suc limit) world test)) (at-end test)
      go false test = subst Holds (sym (run_more limit world test)) (before test)

  -- a run, then another: the steps done are counted together
  abbrev then_run : RunEffect → ℕ → RunEffect
  then_run ran limit =
      record {
        done = ran.done + (run limit ran.world).done;
        world = (run limit ran.world).world;
      }

  pub run_add : (one other : ℕ) (world : World)
      → run (one + other) world ≡ then_run (run one world) other
  unfolding run_by
  run_add zero other world =
      let ran = run other world in
      ap (λ limit. run limit world) (zero-add other)
      ∙ (λ i. ran_with (sym (zero-add ran.done) i) ran.world)
  run_add (suc one) other world =
      ap (λ limit. run limit world) (suc-add one other)
      ∙ by_end (λ ran. run (suc (one + other)) world ≡ then_run ran other) one world
      (λ ended.
      run_ended (suc (one + other)) world ended
      ∙ sym (ap (λ ran. ran_with (0 + ran.done) ran.world) (run_ended other world ended)))
      (λ running. run_more (one + other) world running ∙ ap one_more (run_add one other _) ∙ one_more_lem (run one _) other)
    where
      one_more_lem : (ran : RunEffect) (limit : ℕ) → one_more (then_run ran limit) ≡ then_run (one_more ran) limit
      one_more_lem ran limit =
          let rest = run limit ran.world in
          let count : ran.done + rest.done + 1 ≡ ran.done + 1 + rest.done = omega arith in
          λ i. ran_with (count i) rest.world

  -- ---- n steps

  -- an ended world stays
  pub steps_ended : (count : ℕ) (world : World) → ended_of plan world.state ≡ true → after count world ≡ world
  steps_ended count world ended = ap (λ (ran : RunEffect). ran.world) (run_ended count world ended)

  -- a + b steps are a steps, then b
  pub steps_add : (one other : ℕ) (world : World)
      → after (one + other) world ≡ after other (after one world)
  steps_add one other world = ap (λ (ran : RunEffect). ran.world) (run_add one other world)

  steps_first : (count : ℕ) (world : World) → after (suc count) world ≡ after count (step world)
  steps_first count world =
      by_end (λ ran. ran.world ≡ after count (step world)) count world
      (λ ended. sym (ap (after count) (step_ended world ended) ∙ steps_ended count world ended))
      (λ running. refl)

  -- the last step of them is taken apart
  pub steps_last : (count : ℕ) (world : World) → after (suc count) world ≡ step (after count world)
  unfolding run_by
  steps_last zero world = steps_first zero world
  steps_last (suc count) world =
      steps_first (suc count) world
      ∙ steps_last count (step world)
      ∙ ap (step) (sym (steps_first count world))

  -- ---- steps that lead on

  -- one step of a run that has not ended
  pub runs_one : (world next : World) → ended_of plan world.state ≡ false → step world ≡ next
      → RunsTo places plan scripts quota 1 world next
  unfolding run_by
  runs_one world next running stepped = (λ i. ran_with 1 (sym stepped i)) ∙ sym (run_more 0 world running)

  -- first some, then some more
  pub runs_on : (one other : ℕ) (first present next : World) → RunsTo places plan scripts quota one first present → RunsTo places plan scripts quota other present next
      → RunsTo places plan scripts quota (one + other) first next
  runs_on one other first present next so_far more =
      ap (λ (ran : RunEffect). ran_with (one + ran.done) ran.world) more
      ∙ ap (λ (ran : RunEffect). then_run ran other) so_far
      ∙ sym (run_add one other first)

  -- a run that has ended is the whole run
  pub runs_ended : (count limit : ℕ) (first last : World) → RunsTo places plan scripts quota count first last → count ≤ limit
      → ended_of plan last.state ≡ true
      → ran_with count last ≡ run limit first
  runs_ended count limit first last so_far within ended =
      let left : count + (limit - count) ≡ limit = omega arith in
      (λ i. ran_with (sym (add-zero count) i) last)
      ∙ ap (λ (ran : RunEffect). ran_with (count + ran.done) ran.world) (sym (run_ended (limit - count) last ended))
      ∙ ap (λ (ran : RunEffect). then_run ran (limit - count)) so_far
      ∙ sym (run_add count (limit - count) first)
      ∙ ap (λ (n : ℕ). run n first) left
