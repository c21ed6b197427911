-- Every window that a run has come to started when the plan says. Assumes nothing.
use Prim.Native.Nat.{ℕ, zero, suc, ◌+◌, ◌≤◌, ◌<◌}
use mathlib.Core.Bool.{Bool, true, false}
use mathlib.Core.Logic.{inl, inr}
use mathlib.Core.Path.{◌≡◌, refl, sym, ap, subst, ◌∙◌}
use native.Mathlib.Nat.{le_trans, not-suc-le-zero}
use native.Mathlib.Omega.{arith}
use lib.Dec.{leb}
use lib.ListN.{length}
use borrow.Author.Tests.{leb-false, leb-true}
use Rattle.plan.specs.Validity.{plan_valid}
use Rattle.plan.specs.Windows.{window_start, windows_total}
use Rattle.plan.proofs.Sums.{last-or-earlier}
use Rattle.bound.specs.Bound.{step_bound}
use Rattle.records.specs.Records.{part_records}
use Rattle.state.specs.World.{ended_of, fresh_state}
use Rattle.machine.specs.Steps.{run_by}
use Rattle.machine.proofs.Runs.{steps_last}
use Rattle.machine.proofs.Schedule.{NextStarts, NextWindow, Scheduled, scheduled, step_windows}
use Rattle.machine.specs.Fresh.{fresh_world}
use Rattle.reachable.proofs.Ending.{ends}
use Rattle.isolation.specs.Calls.{CallList, IsList, point_of}
use Rattle.isolation.specs.Points.{FreshRun, windows_after, world_after}
use Rattle.isolation.specs.Statement.{StartedOnTime, WindowsOnTime, run_of_list}
use Rattle.isolation.proofs.OneRun.Leaves.{list_valid}

module _ (run : FreshRun) (possible : plan_valid run.plan ≡ true) where
  -- every world of a run is on schedule
  pub scheduled_after : (count : ℕ) → Scheduled run.plan (world_after run count)
  unfolding world_after fresh_world
  scheduled_after count = scheduled run.plan run.scripts (part_records run.plan (length run.log)) count run.log possible

  -- ended, the clock is where a next window would start
  pub ended_clock_lem : (count : ℕ) → windows_total run.plan ≤ windows_after run count
      → (world_after run count).state.clock ≡ window_start run.plan (windows_after run count)
  ended_clock_lem count over =
      let on-schedule = scheduled_after count in
      on-schedule.ended (omega (arith, on-schedule.windows))

  -- a step stays in its window, or starts the next one
  pub next_window : (count : ℕ) → NextWindow run.plan (world_after run count) (world_after run (suc count))
  unfolding world_after
  next_window count =
      let quota = part_records run.plan (length run.log) in
      subst (NextWindow run.plan (world_after run count)) (sym (steps_last _ run.plan run.scripts quota count (fresh_world run.log)))
      (step_windows run.plan run.scripts quota (world_after run count) possible (scheduled_after count))

  -- windows completed never become fewer
  windows_next : (count : ℕ) → windows_after run count ≤ windows_after run (suc count)
  windows_next count = go (next_window count)
    where
      go : NextWindow run.plan (world_after run count) (world_after run (suc count))
          → windows_after run count ≤ windows_after run (suc count)
      go (inl same) = omega arith
      go (inr next) = omega arith

  pub windows_grow : (earlier count : ℕ) → earlier < suc count → windows_after run earlier ≤ windows_after run count
  windows_grow earlier zero below =
      last-or-earlier (λ n. windows_after run n ≤ windows_after run 0) 0 earlier (omega arith) (λ less. absurd (not-suc-le-zero less)) below
  windows_grow earlier (suc count) below =
      last-or-earlier (λ n. windows_after run n ≤ windows_after run (suc count)) (suc count) earlier (omega arith)
      (λ less. le_trans (windows_grow earlier count less) (windows_next count))
      below

  -- the first window starts with the run, at 0
  first_starts : (window : ℕ) → window ≤ windows_after run 0 → StartedOnTime run 0 window
  unfolding world_after run_by fresh_world fresh_state window_start
  first_starts window so_far =
      let none : window ≡ 0 = omega arith in
      record {
        at = 0;
        so_far = omega arith;
        starts = record { reached = sym none; first = λ earlier below. absurd (not-suc-le-zero below) };
        on_time = ap (window_start run.plan) (sym none);
      }

  -- what started so far has started a step later
  later : (count window : ℕ) → StartedOnTime run count window → StartedOnTime run (suc count) window
  later count window earlier =
      let within = earlier.so_far in
      record { at = earlier.at; so_far = omega arith; starts = earlier.starts; on_time = earlier.on_time }

  -- the window after a switch starts there
  next_starts : (count window : ℕ) → NextStarts run.plan (world_after run count) (world_after run (suc count))
      → window ≡ windows_after run count + 1
      → StartedOnTime run (suc count) window
  next_starts count window next last =
      record {
        at = suc count;
        so_far = omega arith;
        starts =
            record {
              reached = next.windows ∙ sym last;
              first = λ earlier below. omega (arith, windows_grow earlier count below);
            };
        on_time = next.exact ∙ ap (window_start run.plan) (sym last);
      }

  pub started : (count window : ℕ) → window ≤ windows_after run count → StartedOnTime run count window
  started zero window so_far = first_starts window so_far
  started (suc count) window so_far = go (next_window count) (leb window (windows_after run count)) refl (started count window)
    where
      go : NextWindow run.plan (world_after run count) (world_after run (suc count))
          → (before : Bool)
          → leb window (windows_after run count) ≡ before
          → (window ≤ windows_after run count → StartedOnTime run count window)
          → StartedOnTime run (suc count) window
      go step true test earlier = later count window (earlier (leb-true window (windows_after run count) test))
      go (inl same) false test earlier = later count window (earlier (omega arith))
      go (inr next) false test earlier =
          let less = leb-false window (windows_after run count) test in
          next_starts count window next (omega (arith, next.windows))

  -- a run's bound
  abbrev bound : ℕ
  bound = step_bound run.plan run.scripts

  -- every run ends within it
  all_completed : windows_total run.plan ≤ windows_after run bound
  unfolding world_after ended_of
  all_completed =
      leb-true _ _
      (ends run.plan run.scripts (part_records run.plan (length run.log)) possible bound run.log (omega arith))

  -- so every window of the plan does start, and so does the end
  pub every_start : (window : ℕ) → window ≤ windows_total run.plan → StartedOnTime run bound window
  every_start window below = started bound window (le_trans below all_completed)

-- (A): after a list, each window so far started on time
pub on_time_lem : (list : CallList) → IsList list → WindowsOnTime list
on_time_lem list is window so_far = started (run_of_list list) (list_valid list is) (point_of list) window so_far
