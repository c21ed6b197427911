-- No window takes more steps than its length and one: every op takes a tick at least and begins before the window's end, and one switch follows.
-- And the steps of all windows are those that a run answers. Assumes nothing.
use Prim.Native.Nat.{ℕ, zero, suc, ◌+◌, ◌-◌, ◌≤◌, ◌<◌}
use mathlib.Core.Bool.{Bool, true, false, false≢true, cond}
use mathlib.Core.List.{List}
use mathlib.Core.Path.{◌≡◌, refl, sym, ap, subst, ◌∙◌}
use native.Mathlib.Numerals.{add-one}
use native.Mathlib.Omega.{arith}
use lib.Dec.{eqb, ltb}
use borrow.Author.Tests.{eq-eqb, ltb-false, ltb-true, ne_eqb}
use Rattle.plan.specs.declared.Plan.{Plan}
use Rattle.plan.specs.Sums.{sum_to}
use Rattle.plan.specs.Windows.{window_end, window_length, window_start, windows_total}
use Rattle.plan.proofs.Sums.{sum_larger, sum_most, sum_same}
use Rattle.script.specs.declared.Op.{Op}
use Rattle.ops.proofs.Ticks.{effect_takes}
use Rattle.state.specs.World.{World, ended_of, position_at, running_of}
use Rattle.machine.specs.Steps.{op_step_by, op_step_of, run_by, run_of, step_of}
use Rattle.machine.specs.Switch.{padded_clock, switch_by, switch_of}
use Rattle.machine.proofs.Fetched.{fetched_within}
use Rattle.machine.proofs.Invariant.{Begins, in_window, step_cases}
use Rattle.machine.proofs.Runs.{by_end}
use Rattle.machine.proofs.Schedule.{next_start}
use Rattle.reachable.specs.StepCounts.{window_steps}

module _ (plan : Plan) (scripts : List ℕ) (quota window : ℕ) where
  -- ---- a run's steps in the window, one after the other

  -- 1 for a step that begins in the window
  abbrev here : World → ℕ
  here world = cond (eqb world.state.windows window) 1 0

  inside : (world : World) → world.state.windows ≡ window → here world ≡ 1
  inside world same = ap (λ (b : Bool). cond b 1 0) (eq-eqb _ _ same)

  outside : (world : World) → (world.state.windows ≡ window → ⊥) → here world ≡ 0
  outside world differs = ap (λ (b : Bool). cond b 1 0) (ne_eqb _ _ differs)

  steps_ended : (limit : ℕ) (world : World) → ended_of plan world.state ≡ true → window_steps plan scripts quota window (suc limit) world ≡ 0
  unfolding window_steps
  steps_ended limit world ended = rw (ended, window_steps)

  steps_more : (limit : ℕ) (world : World) → ended_of plan world.state ≡ false
      → window_steps plan scripts quota window (suc limit) world
      ≡ window_steps plan scripts quota window limit (step_of plan scripts quota world) + here world
  unfolding window_steps
  steps_more limit world running = rw (running, window_steps)

  -- ---- how many there can be: none once the window is over; in it one for each tick to its end, and one more; before it starts all

  record AtMost (world : World) (count : ℕ) : Type 0 where
    pub before : world.state.windows < window → count ≤ window_length plan window + 1
    pub within : world.state.windows ≡ window → count ≤ window_end plan window - world.state.clock + 1
    pub over : window < world.state.windows → count ≡ 0

  none : (world : World) → AtMost world 0
  none world = record { before = λ h. omega arith; within = λ h. omega arith; over = λ h. refl }

  -- the clock is not before the start of the window that a world is in
  abbrev Started : World → Type 0
  Started world = window_start plan world.state.windows ≤ world.state.clock

  -- what a step leaves: its window has started, and how many steps more there can be from there
  record Stepped (world next : World) : Type 0 where
    pub started : Started next
    pub one_less : (count : ℕ) → AtMost next count → AtMost world (count + here world)

  -- a switch starts the next window, not before its time
  switch_started : (world : World) → Started (switch_of plan world)
  unfolding switch_by padded_clock
  switch_started world =
      let next : window_start plan (world.state.windows + 1) ≡ window_end plan world.state.windows + plan.pad =
      ap (window_start plan) (add-one world.state.windows) ∙ next_start plan world.state.windows in
      omega arith

  after_switch : (world : World) → Stepped world (switch_of plan world)
  unfolding switch_by window_end
  after_switch world =
      record {
        started = switch_started world;
        one_less = λ count left.
            record {
              before = λ h. earlier count left h (ltb (world.state.windows + 1) window) refl;
              within = λ h. omega (arith, inside world h, left.over (omega arith));
              over = λ h. omega (arith, outside world (λ same. omega arith), left.over (omega arith));
            };
      }
    where
      earlier : (count : ℕ) → AtMost (switch_of plan world) count → world.state.windows < window → (sooner : Bool)
          → ltb (world.state.windows + 1) window ≡ sooner → count + here world ≤ window_length plan window + 1
      earlier count left h true test = omega (arith, outside world (λ same. omega arith), left.before (ltb-true _ _ test))
      earlier count left h false test =
          let past : window ≤ world.state.windows + 1 = ltb-false _ _ test in
          let same : world.state.windows + 1 ≡ window = omega arith in
          let started : window_start plan window ≤ (switch_of plan world).state.clock =
          subst (λ number. window_start plan number ≤ (switch_of plan world).state.clock) same (switch_started world) in
          omega (arith, outside world (λ is. omega arith), left.within same)

  -- an op takes a tick at least
  after_op : (world : World) (op : Op) → Started world → Begins plan scripts quota world op
      → Stepped world (op_step_of plan quota (running_of plan world.state) op world)
  unfolding op_step_by
  after_op world op started begins =
      let running = running_of plan world.state in
      let takes = effect_takes plan running op world.cache world.boxes
      (fetched_within scripts running (position_at world.state running) op begins.next) in
      let in_time = begins.in_time in
      record {
        started = omega arith;
        one_less = λ count left.
            record {
              before = λ h. omega (arith, outside world (λ same. omega arith), left.before h);
              within = λ h.
                  let early : world.state.clock < window_end plan window = subst (λ number. world.state.clock < window_end plan number) h in_time in
                  omega (arith, inside world h, left.within h);
              over = λ h. omega (arith, outside world (λ same. omega arith), left.over h);
            };
      }

  step_stepped : (world : World) → Started world → ended_of plan world.state ≡ false → Stepped world (step_of plan scripts quota world)
  step_stepped world started running =
      step_cases _ plan scripts quota world (Stepped world)
      (λ ended. absurd (false≢true (sym running ∙ ended)))
      (λ in_a_window. after_switch world)
      (λ op begins. after_op world op started begins)

  at_most : (limit : ℕ) (world : World) → Started world → AtMost world (window_steps plan scripts quota window limit world)
  unfolding window_steps
  at_most zero world started = none world
  at_most (suc limit) world started = go (ended_of plan world.state) refl (at_most limit (step_of plan scripts quota world))
    where
      go : (ended : Bool) → ended_of plan world.state ≡ ended
          → (Started (step_of plan scripts quota world)
          → AtMost (step_of plan scripts quota world) (window_steps plan scripts quota window limit (step_of plan scripts quota world)))
          → AtMost world (window_steps plan scripts quota window (suc limit) world)
      go true test rest = subst (AtMost world) (sym (steps_ended limit world test)) (none world)
      go false test rest =
          let stepped = step_stepped world started test in
          subst (AtMost world) (sym (steps_more limit world test)) (stepped.one_less _ (rest stepped.started))

  -- from a world whose window has started, no window takes more steps than its length and one
  pub window_steps_lem : (limit : ℕ) (world : World) → Started world → window_steps plan scripts quota window limit world ≤ window_length plan window + 1
  unfolding window_end
  window_steps_lem limit world started = go (ltb world.state.windows window) refl (ltb window world.state.windows) refl
    where
      most : AtMost world (window_steps plan scripts quota window limit world)
      most = at_most limit world started

      go : (earlier : Bool) → ltb world.state.windows window ≡ earlier → (later : Bool) → ltb window world.state.windows ≡ later
          → window_steps plan scripts quota window limit world ≤ window_length plan window + 1
      go true test later test' = most.before (ltb-true _ _ test)
      go false test true test' = omega (arith, most.over (ltb-true _ _ test'))
      go false test false test' =
          let least : window ≤ world.state.windows = ltb-false _ _ test in
          let greatest : world.state.windows ≤ window = ltb-false _ _ test' in
          let same : world.state.windows ≡ window = omega arith in
          let since : window_start plan window ≤ world.state.clock = subst (λ number. window_start plan number ≤ world.state.clock) same started in
          omega (arith, most.within same)

-- ---- all windows together

none_together : (count : ℕ) → sum_to (λ window. 0) count ≡ 0
none_together count = omega (arith, sum_most (λ window. 0) 0 count (λ window below. omega arith))

-- the steps of all windows of the plan together are those that a run answers
pub all_windows : (plan : Plan) (scripts : List ℕ) (quota limit : ℕ) (world : World)
    → sum_to (λ window. window_steps plan scripts quota window limit world) (windows_total plan) ≡ (run_of plan scripts quota limit world).done
unfolding run_by window_steps
all_windows plan scripts quota zero world = none_together (windows_total plan)
all_windows plan scripts quota (suc limit) world =
    let present = world.state.windows in
    let next = step_of plan scripts quota world in
    let now : (ℕ → ℕ) = λ window. window_steps plan scripts quota window (suc limit) world in
    let rest : (ℕ → ℕ) = λ window. window_steps plan scripts quota window limit next in
    by_end _ plan scripts quota (λ ran. sum_to now (windows_total plan) ≡ ran.done) limit world
    (λ ended. sum_same now (λ window. 0) (windows_total plan) (λ window below. steps_ended plan scripts quota window limit world ended) ∙ none_together (windows_total plan))
    (λ running.
    sum_larger rest now present 1 (windows_total plan) (in_window plan world.state running)
    (λ window differs. omega (arith, steps_more plan scripts quota window limit world running, outside plan scripts quota window world (λ same. differs (sym same))))
    (steps_more plan scripts quota present limit world running ∙ ap (λ one. rest present + one) (inside plan scripts quota present world refl))
    ∙ ap (λ done. done + 1) (all_windows plan scripts quota limit next))
