-- A domain's script position is the number of ops that its windows so far held. By steps: an op raises the position of
-- the window's owner, and nothing else does. Assumes nothing.
use Prim.Native.Nat.{ℕ, zero, suc, ◌+◌, ◌≤◌, ◌<◌}
use mathlib.Core.Bool.{Bool, true, false, cond}
use mathlib.Core.List.{List}
use mathlib.Core.Path.{◌≡◌, refl, sym, ap, ◌∙◌}
use native.Mathlib.Nat.{add-zero}
use native.Mathlib.Numerals.{add-one}
use native.Mathlib.Omega.{arith}
use borrow.Author.Tests.{eqb-false, eqb-true, leb-true}
use lib.Dec.{eqb}
use lib.ListN.{get_or, length, set}
use lib.Seq.{get_or-set_other, get_or-set_same}
use Rattle.plan.specs.declared.Plan.{Plan}
use Rattle.plan.specs.Limits.{most_domains}
use Rattle.plan.specs.Sums.{sum_to}
use Rattle.plan.specs.Validity.{plan_valid}
use Rattle.plan.specs.Windows.{window_owner, windows_total}
use Rattle.plan.proofs.Sums.{sum_same}
use Rattle.plan.proofs.Windows.{domains_most, owner_declared}
use Rattle.records.specs.Records.{part_records}
use Rattle.state.specs.World.{World, ended_of, fresh_state, position_at, running_of}
use Rattle.machine.specs.Fresh.{fresh_world}
use Rattle.machine.specs.Steps.{op_step_by, run_by}
use Rattle.machine.specs.Switch.{switch_by}
use Rattle.machine.proofs.Invariant.{step_cases, steps_counts}
use Rattle.reachable.proofs.Cells.{cell_zeros, zeros_length}
use Rattle.isolation.specs.Points.{FreshRun, ops_for, ops_of, ops_of_domain, windows_after, world_after}
use Rattle.isolation.proofs.TwoRuns.OpCounts.{at_its_switch, before_or_after, none_so_far, past_the_last, within_it}
use Rattle.isolation.proofs.TwoRuns.Progress.{no_fewer, one_more_lem}

-- one op of a domain's
abbrev one_if : Bool → ℕ
one_if own = cond own 1 0

-- what a step does to a domain's position: nothing at the run's end and at a switch; an op counts for its window's
-- owner
data Moved (plan : Plan) (domain : ℕ) (world next : World) : Type 0 where
  rests : windows_total plan ≤ world.state.windows → next ≡ world → Moved plan domain world next
  turns : next.state.windows ≡ world.state.windows + 1
      → position_at next.state domain ≡ position_at world.state domain → Moved plan domain world next
  works : world.state.windows < windows_total plan → next.state.windows ≡ world.state.windows
      → position_at next.state domain
      ≡ position_at world.state domain + one_if (eqb (window_owner plan world.state.windows) domain)
      → Moved plan domain world next

-- no ops are none of a domain's
no_ops_lem : (own : Bool) {ops : ℕ} → ops ≡ 0 → cond own ops 0 ≡ 0
no_ops_lem true none = none
no_ops_lem false none = refl

-- a position raised by one
raised_at : (positions : List ℕ) (running domain : ℕ) → running < length positions
    → get_or (set positions running (get_or positions running 0 + 1)) domain 0 ≡ get_or positions domain 0 + one_if (eqb running domain)
raised_at positions running domain inside = go (eqb running domain) refl
  where
    go : (own : Bool) → eqb running domain ≡ own
        → get_or (set positions running (get_or positions running 0 + 1)) domain 0 ≡ get_or positions domain 0 + one_if own
    go true test = rw (← (eqb-true running domain test)) (get_or-set_same positions running _ 0 inside)
    go false test =
        get_or-set_other positions running domain _ 0 (λ same. eqb-false running domain test (sym same))
        ∙ sym (add-zero (get_or positions domain 0))

module _ (run : FreshRun) (possible : plan_valid run.plan ≡ true) (domain : ℕ) where
  eight : (count : ℕ) → length (world_after run count).state.positions ≡ most_domains
  unfolding world_after fresh_world fresh_state
  eight count =
      (steps_counts _ run.plan run.scripts (part_records run.plan (length run.log)) count (fresh_world run.log)).0
      ∙ zeros_length most_domains

  moved : (count : ℕ) → Moved run.plan domain (world_after run count) (world_after run (suc count))
  unfolding op_step_by switch_by ended_of
  moved count =
      let world = world_after run count in
      let running = running_of run.plan world.state in
      let declared = owner_declared run.plan world.state.windows possible in
      let inside : running < length world.state.positions = omega (arith, eight count, domains_most run.plan possible) in
      rw (one_more_lem run count)
      (step_cases _ run.plan run.scripts (part_records run.plan (length run.log)) world (Moved run.plan domain world)
      (λ ended. rests (leb-true _ _ ended) refl)
      (λ room. turns refl refl)
      (λ op begins. works begins.in_a_window refl (raised_at world.state.positions running domain inside)))

  -- the ops of its windows up to one
  abbrev ops_to : ℕ → ℕ → ℕ
  ops_to count window = sum_to (ops_for run domain count) (suc window)

  -- windows before the current one hold as many ops a step later
  sums_same : (count : ℕ) → sum_to (ops_for run domain (suc count)) (windows_after run count)
      ≡ sum_to (ops_for run domain count) (windows_after run count)
  sums_same count =
      sum_same (ops_for run domain (suc count)) (ops_for run domain count) (windows_after run count)
      (λ window below. for_same window (before_or_after run possible window count (λ same. omega arith)))
    where
      for_same : (window : ℕ) → ops_of run window (suc count) ≡ ops_of run window count
          → ops_for run domain (suc count) window ≡ ops_for run domain count window
      for_same window same = ap (λ (ops : ℕ). cond (eqb (window_owner run.plan window) domain) ops 0) same

  module _ (count : ℕ) where
    -- with the current one
    up_to_now : (more : ℕ)
        → ops_for run domain (suc count) (windows_after run count) ≡ ops_for run domain count (windows_after run count) + more
        → ops_to (suc count) (windows_after run count) ≡ ops_to count (windows_after run count) + more
    unfolding sum_to
    up_to_now more now = omega (arith, sums_same count)

    quiet : ops_of run (windows_after run count) (suc count) ≡ ops_of run (windows_after run count) count
        → ops_to (suc count) (windows_after run count) ≡ ops_to count (windows_after run count)
    quiet same =
        up_to_now 0
        (ap (λ (ops : ℕ). cond (eqb (window_owner run.plan (windows_after run count)) domain) ops 0) same ∙ sym (add-zero _))
        ∙ add-zero _

    busy : (own : Bool) → eqb (window_owner run.plan (windows_after run count)) domain ≡ own
        → ops_of run (windows_after run count) (suc count) ≡ suc (ops_of run (windows_after run count) count)
        → ops_to (suc count) (windows_after run count) ≡ ops_to count (windows_after run count) + one_if own
    busy true test more = up_to_now 1 (rw test (omega arith))
    busy false test more = up_to_now 0 (rw test refl)

    -- the next window has none yet
    next_none : windows_after run (suc count) ≡ windows_after run count + 1
        → ops_to (suc count) (windows_after run (suc count)) ≡ ops_to (suc count) (windows_after run count)
    unfolding sum_to
    next_none next =
        rw (next ∙ add-one (windows_after run count))
        (ap (λ (ops : ℕ). ops_to (suc count) (windows_after run count) + ops) none ∙ add-zero _)
      where
        none : ops_for run domain (suc count) (suc (windows_after run count)) ≡ 0
        none =
            no_ops_lem (eqb (window_owner run.plan (suc (windows_after run count))) domain)
            (none_so_far run possible (suc (windows_after run count)) (suc count)
            (λ earlier below. omega (arith, no_fewer run possible earlier count (omega arith))))

  at_first : position_at (world_after run 0).state domain ≡ ops_to 0 (windows_after run 0)
  unfolding world_after run_by fresh_world fresh_state sum_to ops_of
  at_first = omega (arith, cell_zeros most_domains domain, no_ops_lem (eqb (window_owner run.plan 0) domain) {ops = 0} refl)

  pub position_is_ops : (count : ℕ) → position_at (world_after run count).state domain ≡ ops_of_domain run domain count
  unfolding ops_of_domain
  position_is_ops zero = at_first
  position_is_ops (suc count) = go (moved count) (position_is_ops count)
    where
      go : Moved run.plan domain (world_after run count) (world_after run (suc count))
          → position_at (world_after run count).state domain ≡ ops_to count (windows_after run count)
          → position_at (world_after run (suc count)).state domain ≡ ops_to (suc count) (windows_after run (suc count))
      go (rests over same) before =
          ap (λ (w : World). position_at w.state domain) same
          ∙ before
          ∙ sym (quiet count (past_the_last run possible _ count over))
          ∙ ap (λ (w : World). ops_to (suc count) w.state.windows) (sym same)
      go (turns next kept) before =
          kept
          ∙ before
          ∙ sym (quiet count (at_its_switch run possible _ count (λ same. omega arith)))
          ∙ sym (next_none count next)
      go (works room same counted) before =
          counted
          ∙ ap (λ (position : ℕ). position + one_if (eqb (window_owner run.plan (windows_after run count)) domain)) before
          ∙ sym (busy count _ refl (within_it run possible _ count room refl same))
          ∙ ap (ops_to (suc count)) (sym same)
