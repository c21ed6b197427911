-- The windows of one run: where each began, the switch that completed it, and the clock at its start; and that the
-- window of a domain which is not named leaves what the named ones have. Assumes nothing.
use Prim.Native.Nat.{ℕ, zero, suc, ◌+◌, ◌-◌, ◌≤◌, ◌<◌}
use mathlib.Core.Bool.{true}
use mathlib.Core.List.{List}
use mathlib.Core.Path.{◌≡◌, sym, ap, ◌∙◌}
use native.Mathlib.Decide.{dec_lt}
use native.Mathlib.Nat.{add-sub_of_le, add-suc, add-zero}
use native.Mathlib.Omega.{arith}
use lib.ListN.{length}
use Rattle.plan.specs.declared.Plan.{Plan}
use Rattle.plan.specs.Limits.{most_domains}
use Rattle.plan.specs.Validity.{plan_valid}
use Rattle.plan.specs.Windows.{window_owner, windows_total}
use Rattle.records.specs.Records.{part_records}
use Rattle.ops.specs.Ops.{box_index}
use Rattle.machine.specs.Steps.{step_of}
use Rattle.machine.specs.Switch.{switch_of}
use Rattle.reachable.proofs.Reached.{cache_length, dirty_allowed}
use Rattle.machine.specs.Fresh.{fresh_world}
use Rattle.isolation.specs.Points.{FreshRun, Starts, windows_after, world_after}
use Rattle.isolation.specs.Statement.{StartedOnTime}
use Rattle.isolation.proofs.TwoRuns.Near.{Near, near_refl, near_step, near_trans}
use Rattle.isolation.proofs.TwoRuns.OpStep.{Ready, Whole}
use Rattle.isolation.proofs.TwoRuns.Progress.{before, lasts, no_fewer, one_more_lem}

-- a run by its parts
abbrev pub run_by : Plan → List ℕ → List ℕ → FreshRun
run_by plan scripts log = record { plan = plan; scripts = scripts; log = log }

-- a plan, and the domains and boxes that are watched: the boxes that a named domain may receive from are kept
pub record Watched (plan : Plan) (Named Kept : ℕ → Type 0) : Type 0 where
  pub possible : plan_valid plan ≡ true
  pub is_named : (domain : ℕ) → Dec (Named domain)
  pub declared : (domain : ℕ) → Named domain → domain < plan.domains
  pub to : (domain : ℕ) → Named domain → (sender : ℕ) → sender < most_domains → Kept (box_index sender domain)

-- the boxes addressed to the named domains
pub record BoxTo (Named : ℕ → Type 0) (index : ℕ) : Type 0 where
  pub sender : ℕ
  pub recipient : ℕ
  pub known : sender < most_domains
  pub named : Named recipient
  pub addressed : index ≡ box_index sender recipient

-- ---- a window of one run

-- the start of a window so far, and the steps since
pub record Began (run : FreshRun) (window count : ℕ) : Type 0 where
  pub at : ℕ
  pub more : ℕ
  pub starts : Starts run window at
  pub point : count ≡ at + more

-- a completed window, by the start of the next
pub record Completed (run : FreshRun) (window next : ℕ) : Type 0 where
  pub at : ℕ
  pub more : ℕ
  pub starts : Starts run window at
  pub follows : next ≡ suc (at + more)
  pub within : windows_after run (at + more) ≡ window
  pub past : windows_after run (suc (at + more)) ≡ suc window
  pub room : window < windows_total run.plan
  pub switched : world_after run next ≡ switch_of run.plan (world_after run (at + more))

-- after n steps every window so far started when the plan says
abbrev pub OnTime : FreshRun → ℕ → Type 0
OnTime run count = (window : ℕ) → window ≤ windows_after run count → StartedOnTime run count window

module _ (run : FreshRun) (possible : plan_valid run.plan ≡ true) (count : ℕ) (on_time : OnTime run count) where
  -- the start of a window that a point of the run has come to
  pub began : (window point : ℕ) → point ≤ count → window ≤ windows_after run point → Began run window point
  began window point so_far reached =
      let t = on_time window (omega (arith, no_fewer run possible point count so_far)) in
      let earlier = not_later t.at t.starts (dec_lt point t.at) in
      record { at = t.at; more = point - t.at; starts = t.starts; point = sym (add-sub_of_le earlier) }
    where
      not_later : (at : ℕ) → Starts run window at → Dec (point < at) → at ≤ point
      not_later at s (yes h) = absurd (omega (arith, s.first point h))
      not_later at s (no h) = omega arith

  -- the window before one that has started
  pub completed : (window next : ℕ) → next ≤ count → Starts run (suc window) next → Completed run window next
  completed window next so_far s =
      let b = before run window next s in
      let start = began window b.last (omega (arith, b.follows)) (omega (arith, b.within)) in
      let follows = b.follows ∙ ap suc start.point in
      record {
        at = start.at;
        more = start.more;
        starts = start.starts;
        follows = follows;
        within = rw (← start.point) b.within;
        past = rw (← follows) s.reached;
        room = b.room;
        switched = rw (← start.point) b.switched;
      }

-- the cache table keeps its length
pub whole : (run : FreshRun) → plan_valid run.plan ≡ true → (count : ℕ) → Whole (world_after run count)
unfolding world_after fresh_world
whole run possible count = cache_length run.plan run.scripts run.log count possible

-- and an op may begin on it
pub ready : (run : FreshRun) → plan_valid run.plan ≡ true → (count : ℕ) → Ready run.plan (world_after run count)
unfolding world_after fresh_world
ready run possible count =
    record { whole = whole run possible count; dirty = dirty_allowed run.plan run.scripts run.log count possible }

module _ {Named Kept : ℕ → Type 0} (run : FreshRun) (w : Watched run.plan Named Kept) (quota : ℕ)
    (quota_is : part_records run.plan (length run.log) ≡ quota) where
  pub next_world : (count : ℕ)
      → world_after run (suc count) ≡ step_of run.plan run.scripts quota (world_after run count)
  next_world count = one_more_lem run count ∙ ap (λ (q : ℕ). step_of run.plan run.scripts q (world_after run count)) quota_is

  -- another's window leaves what the named domains have
  pub stays_near : (window start : ℕ) → (Named (window_owner run.plan window) → ⊥) → windows_after run start ≡ window
      → (more : ℕ) → windows_after run (start + more) ≡ window
      → Near run.plan quota Named (world_after run start) (world_after run (start + more))
  stays_near window start unnamed here zero there = rw add-zero (near_refl run.plan quota Named (world_after run start))
  stays_near window start unnamed here (suc more) there =
      let earlier = lasts run w.possible window start more here there in
      let last = world_after run (start + more) in
      rw (add-suc, next_world (start + more))
      (near_trans run.plan quota Named (world_after run start) last (step_of run.plan run.scripts quota last)
      (stays_near window start unnamed here more earlier)
      (near_step run.plan quota Named w.possible w.declared run.scripts last (ready run w.possible (start + more))
      (λ n. unnamed (rw earlier at n))))
