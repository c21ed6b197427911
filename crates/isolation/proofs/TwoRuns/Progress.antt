-- The windows of one run: how many are completed as steps go on, where a window starts, and that the step before its
-- start was a switch. Assumes nothing.
use Prim.Native.Nat.{ℕ, zero, suc, ◌+◌, ◌≤◌, ◌<◌}
use mathlib.Core.Bool.{true}
use mathlib.Core.Path.{◌≡◌, refl, ◌∙◌}
use native.Mathlib.Decide.{dec_lt}
use native.Mathlib.Omega.{arith}
use borrow.Author.Tests.{le-leb}
use lib.ListN.{length}
use Rattle.plan.specs.declared.Plan.{Plan}
use Rattle.plan.specs.Validity.{plan_valid}
use Rattle.plan.specs.Windows.{windows_total}
use Rattle.records.specs.Records.{part_records}
use Rattle.state.specs.World.{World, ended_of, fresh_state}
use Rattle.machine.specs.Steps.{op_step_by, run_by, step_of}
use Rattle.machine.specs.Switch.{switch_by, switch_of}
use Rattle.machine.proofs.Invariant.{step_cases}
use Rattle.machine.proofs.Runs.{steps_add, steps_ended, steps_last}
use Rattle.machine.specs.Fresh.{fresh_world}
use Rattle.isolation.specs.Points.{FreshRun, Starts, windows_after, world_after}
use Rattle.isolation.proofs.OneRun.OnTime.{windows_grow}

-- a step completes no window, or it is the switch that completes one
data Turned (plan : Plan) (world next : World) : Type 0 where
  same : next.state.windows ≡ world.state.windows → Turned plan world next
  turns : next.state.windows ≡ world.state.windows + 1 → world.state.windows < windows_total plan
      → next ≡ switch_of plan world
      → Turned plan world next

-- the step before a later window's start: the switch of the window before
pub record Before (run : FreshRun) (window count : ℕ) : Type 0 where
  pub last : ℕ
  pub follows : count ≡ suc last
  pub within : windows_after run last ≡ window
  pub room : window < windows_total run.plan
  pub switched : world_after run count ≡ switch_of run.plan (world_after run last)

module _ (run : FreshRun) where
  pub one_more_lem : (count : ℕ)
      → world_after run (suc count) ≡ step_of run.plan run.scripts (part_records run.plan (length run.log)) (world_after run count)
  unfolding world_after
  one_more_lem count = steps_last _ run.plan run.scripts (part_records run.plan (length run.log)) count (fresh_world run.log)

  turned : (count : ℕ) → Turned run.plan (world_after run count) (world_after run (suc count))
  unfolding op_step_by switch_by
  turned count =
      rw (one_more_lem count)
      (step_cases _ run.plan run.scripts (part_records run.plan (length run.log)) (world_after run count)
      (Turned run.plan (world_after run count)) (λ ended. same refl) (λ room. turns refl room refl) (λ op begins. same refl))

  -- an ended run stays as it is
  pub stays_ended : (count more : ℕ) → windows_total run.plan ≤ windows_after run count
      → world_after run (count + more) ≡ world_after run count
  unfolding world_after ended_of
  stays_ended count more over =
      steps_add _ run.plan run.scripts (part_records run.plan (length run.log)) count more (fresh_world run.log)
      ∙ steps_ended _ run.plan run.scripts (part_records run.plan (length run.log)) more (world_after run count) (le-leb _ _ over)

  -- ---- where a window starts

  none_at_first : windows_after run 0 ≡ 0
  unfolding world_after run_by fresh_world fresh_state
  none_at_first = refl

  pub first_start : (count : ℕ) → Starts run 0 count → count ≡ 0
  first_start zero s = refl
  first_start (suc count) s = absurd (omega (arith, s.first 0 (omega arith)))

  pub one_start : (window count count' : ℕ) → Starts run window count → Starts run window count' → count ≡ count'
  one_start window count count' s s' = go (dec_lt count count') (dec_lt count' count)
    where
      go : Dec (count < count') → Dec (count' < count) → count ≡ count'
      go (yes h) d = absurd (omega (arith, s'.first count h, s.reached))
      go (no h) (yes h') = absurd (omega (arith, s.first count' h', s'.reached))
      go (no h) (no h') = omega arith

  pub before : (window count : ℕ) → Starts run (suc window) count → Before run window count
  before window zero s = absurd (omega (arith, s.reached, none_at_first))
  before window (suc last) s = go (turned last)
    where
      go : Turned run.plan (world_after run last) (world_after run (suc last)) → Before run window (suc last)
      go (same e) = absurd (omega (arith, s.first last (omega arith), s.reached))
      go (turns e room n) =
          let in_window : windows_after run last ≡ window = omega (arith, s.reached) in
          record { last = last; follows = refl; within = in_window; room = rw (← in_window) room; switched = n }

module _ (run : FreshRun) (possible : plan_valid run.plan ≡ true) where
  -- windows are never undone
  pub no_fewer : (earlier later : ℕ) → earlier ≤ later → windows_after run earlier ≤ windows_after run later
  no_fewer earlier later h = windows_grow run possible earlier later (omega arith)

  -- while a window lasts
  pub lasts : (window count more : ℕ) → windows_after run count ≡ window → windows_after run (count + suc more) ≡ window
      → windows_after run (count + more) ≡ window
  lasts window count more from to =
      omega (arith, no_fewer count (count + more) (omega arith), no_fewer (count + more) (count + suc more) (omega arith))
