-- A run that keeps one domain's records, beside the run that keeps everyone's: step by step the one's log is the domain's
-- part of the other's. Assumes nothing.
use Rattle.std.specs.Prelude.{Option, Some, None}
use Prim.Native.Nat.{ℕ, zero, suc, ◌+◌, ◌≤◌, ◌<◌}
use mathlib.Core.Bool.{Bool, true, false}
use mathlib.Core.List.{List}
use mathlib.Core.Path.{◌≡◌, refl, sym, ap, ◌∙◌}
use native.Mathlib.Decide.{ℕ_discrete}
use Rattle.plan.specs.declared.Plan.{Plan}
use Rattle.cache.specs.Access.{access_of}
use Rattle.records.specs.declared.Keep.TheVariants.{One}
use Rattle.records.specs.declared.Observation.{Observation}
use Rattle.records.specs.Records.{in_parts, log_part, only_of, stored_at}
use Rattle.records.proofs.Parts.{part_kept, part_left}
use Rattle.records.proofs.Places.{kept_elsewhere, kept_here}
use Rattle.ops.specs.Ops.{effect_of}
use Rattle.state.specs.World.{World, ended_of, records_at, running_of}
use Rattle.machine.specs.Keeping.{KeptRunsAlike, kept_effect, kept_step, kept_world}
use Rattle.machine.specs.Steps.{active_step, active_step_by, next_step_of, one_more, op_step_by, run_by, run_keeping, run_of, step_of, turn_of}
use Rattle.machine.specs.Switch.{switch_by, switch_of}
use Rattle.machine.specs.View.{world_with}
use Rattle.machine.proofs.Invariant.{op_next, step_cases}
use Rattle.machine.proofs.Runs.{step_active, step_ended}
use Rattle.machine.proofs.Turns.{next_full}
use Rattle.script.specs.declared.Op.{Op}

-- a record stored in a domain's part of a log
abbrev stored_in : ℕ → ℕ → List ℕ → ℕ → Observation → ℕ → Option ℕ → List ℕ
stored_in quota domain log number seen clock place = stored_at place number seen clock (log_part quota domain quota log)

-- it goes into the part alike, or leaves it where it is another domain's
record_kept : (quota domain running number : ℕ) → number < quota → (seen : Observation) (clock : ℕ) (log : List ℕ)
    → stored_in quota domain log number seen clock (only_of domain running)
    ≡ log_part quota domain quota (stored_at (in_parts quota running) number seen clock log)
unfolding stored_at
record_kept quota domain running number room seen clock log = go (ℕ_discrete running domain)
  where
    go : Dec (running ≡ domain)
        → stored_in quota domain log number seen clock (only_of domain running)
        ≡ log_part quota domain quota (stored_at (in_parts quota running) number seen clock log)
    go (yes same) =
        rw same
        (ap (stored_in quota domain log number seen clock) (kept_here domain)
        ∙ sym (part_kept quota domain number room seen clock log))
    go (no other) =
        ap (stored_in quota domain log number seen clock) (kept_elsewhere domain running other)
        ∙ sym (part_left quota domain number room seen clock log running other)

-- a world with another log
abbrev with_log : World → List ℕ → World
with_log world log = world_with world.state world.cache world.boxes log

module _ (plan : Plan) (scripts : List ℕ) (quota domain : ℕ) where
  active_kept : (world : World) (next : Option Op) → next_step_of scripts (turn_of plan quota world.state) ≡ next
      → active_step_by access_of (only_of domain) plan next (kept_world quota domain world)
      ≡ kept_world quota domain (active_step plan quota next world)
  unfolding active_step_by op_step_by switch_by
  active_kept world None is = refl
  active_kept world (Some op) is =
      let running = running_of plan world.state in
      let effect = effect_of plan running op world.cache world.boxes in
      ap (with_log (op_step_by access_of (in_parts quota running) plan running op world))
      (record_kept quota domain running (records_at world.state running) (op_next scripts _ op is).room
      effect.seen (world.state.clock + effect.ticks) world.log)

  step_kept : (world : World)
      → kept_step domain plan scripts quota (kept_world quota domain world) ≡ kept_world quota domain (step_of plan scripts quota world)
  step_kept world = go (ended_of plan world.state) refl
    where
      go : (ended : Bool) → ended_of plan world.state ≡ ended
          → kept_step domain plan scripts quota (kept_world quota domain world) ≡ kept_world quota domain (step_of plan scripts quota world)
      go true test =
          step_ended (only_of domain) plan scripts quota (kept_world quota domain world) test
          ∙ ap (kept_world quota domain) (sym (step_ended (in_parts quota) plan scripts quota world test))
      go false test =
          step_active (only_of domain) plan scripts quota (kept_world quota domain world) test
          ∙ active_kept world _ refl
          ∙ ap (kept_world quota domain) (sym (step_active (in_parts quota) plan scripts quota world test))

  run_kept : (limit : ℕ) (world : World)
      → run_keeping (One domain) plan scripts quota limit (kept_world quota domain world)
      ≡ kept_effect quota domain (run_of plan scripts quota limit world)
  unfolding run_by
  run_kept zero world = refl
  run_kept (suc limit) world =
      go (ended_of plan world.state) refl
      (ap (run_keeping (One domain) plan scripts quota limit) (step_kept world)
      ∙ run_kept limit (step_of plan scripts quota world))
    where
      go : (ended : Bool) → ended_of plan world.state ≡ ended
          → run_keeping (One domain) plan scripts quota limit (kept_step domain plan scripts quota (kept_world quota domain world))
          ≡ kept_effect quota domain (run_of plan scripts quota limit (step_of plan scripts quota world))
          → run_keeping (One domain) plan scripts quota (suc limit) (kept_world quota domain world)
          ≡ kept_effect quota domain (run_of plan scripts quota (suc limit) world)
      go true test rest = rw (test, run_by) refl
      go false test rest = rw (test, run_by) (ap one_more rest)

  full_idle : (world : World) → ended_of plan world.state ≡ false
      → quota ≤ records_at world.state (running_of plan world.state)
      → kept_step domain plan scripts quota world ≡ switch_of plan world
  unfolding active_step_by
  full_idle world running full =
      step_active (only_of domain) plan scripts quota world running
      ∙ ap (λ (next : Option Op). active_step_by access_of (only_of domain) plan next world)
      (sym (next_full scripts (turn_of plan quota world.state) full))

  others_left : (world : World) → (running_of plan world.state ≡ domain → ⊥) → (kept_step domain plan scripts quota world).log ≡ world.log
  unfolding op_step_by switch_by stored_at
  others_left world other =
      step_cases (only_of domain) plan scripts quota world (λ (next : World). next.log ≡ world.log) (λ ended. refl) (λ in_a_window. refl)
      (λ op begins.
      let running = running_of plan world.state in
      let effect = effect_of plan running op world.cache world.boxes in
      ap
      (λ (place : Option ℕ).
      stored_at place (records_at world.state running) effect.seen (world.state.clock + effect.ticks) world.log)
      (kept_elsewhere domain running other))

pub kept_runs_alike : KeptRunsAlike
kept_runs_alike =
    record {
      alike = λ plan scripts quota domain. run_kept plan scripts quota domain;
      idle = λ plan scripts quota domain. full_idle plan scripts quota domain;
      others = λ plan scripts quota domain. others_left plan scripts quota domain;
    }
