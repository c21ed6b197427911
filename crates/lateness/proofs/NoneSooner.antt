-- No window finishes sooner than the two flushes and the touch of its switch take, and none but the run's first as soon: its flush finds
-- the line that the switch before it touched. Assumes nothing.
use Prim.Native.Nat.{ℕ, suc, ◌+◌, ◌≤◌, ◌<◌}
use mathlib.Core.Bool.{true}
use mathlib.Core.List.{List}
use mathlib.Core.Path.{◌≡◌, refl, ap}
use native.Mathlib.Decide.{dec_lt}
use native.Mathlib.Numerals.{add-one}
use native.Mathlib.Omega.{arith}
use lib.Dec.{eqb}
use lib.ListN.{get_or, length}
use borrow.Author.Tests.{eqb-true}
use Rattle.plan.specs.declared.Plan.{Plan}
use Rattle.plan.specs.Sums.{sum_to}
use Rattle.plan.specs.Validity.{plan_valid}
use Rattle.plan.specs.Windows.{window_end, windows_total}
use Rattle.cache.specs.Flush.{valid_lines}
use Rattle.cache.specs.Lines.{is_valid, kernel_index, table_length}
use Rattle.records.specs.Records.{part_records}
use Rattle.state.specs.World.{World}
use Rattle.isolation.specs.Points.{FreshRun, windows_after, world_after}
use Rattle.isolation.proofs.TwoRuns.Progress.{stays_ended}
use Rattle.isolation.proofs.TwoRuns.Windows.{whole}
use Rattle.lateness.specs.Lateness.{Finishes, lateness_of}
use Rattle.lateness.specs.Theorems.{NoneSooner, fresh_run, least_lateness}
use Rattle.lateness.proofs.Figures.{flushes_least, switch_ticks, valid_least}
use Rattle.lateness.proofs.NoneLater.{in_time_lem, touched_is}
use Rattle.lateness.proofs.WindowStarts.{later_touched}
use Rattle.lateness.proofs.Windows.{entry_number}

-- the entry line alone makes one valid line
entry_counts : (table : List ℕ) → length table ≡ table_length → get_or table kernel_index 0 ≡ entry_number → 1 ≤ valid_lines table
unfolding sum_to
entry_counts table long entry = valid_least table long (λ index. eqb index 0) (λ index below first. holds index first)
  where
    holds : (index : ℕ) → eqb index 0 ≡ true → is_valid (get_or table (kernel_index + index) 0) ≡ true
    holds index first = rw (eqb-true index 0 first, entry) refl

-- a window that finishes is one of the run's
in_run_lem : (run : FreshRun) (window late : ℕ) → Finishes run window late → window < windows_total run.plan
in_run_lem run window late finishes = go (dec_lt window (windows_total run.plan))
  where
    go : Dec (window < windows_total run.plan) → window < windows_total run.plan
    go (yes within) = within
    go (no past) =
        let over : windows_total run.plan ≤ windows_after run finishes.at = omega (arith, finishes.before) in
        let same : windows_after run (finishes.at + 1) ≡ windows_after run finishes.at =
        ap (λ (world : World). world.state.windows) (stays_ended run finishes.at 1 over) in
        let next : windows_after run (finishes.at + 1) ≡ windows_after run (suc finishes.at) =
        ap (λ count. windows_after run count) (add-one finishes.at) in
        absurd (omega (arith, finishes.before, finishes.after, same, next))

module _ (plan : Plan) (scripts log : List ℕ) (window late : ℕ) (valid : plan_valid plan ≡ true)
    (finishes : Finishes (fresh_run plan scripts log) window late) where
  abbrev world : World
  world = world_after (fresh_run plan scripts log) finishes.at

  long : length world.cache ≡ table_length
  long = whole (fresh_run plan scripts log) valid finishes.at

  switch_counts : switch_ticks world.cache ≤ late
  unfolding lateness_of
  switch_counts =
      omega (arith, finishes.is, touched_is world.state.clock (window_end plan world.state.windows) world.cache long)

  any_least : least_lateness ≤ late
  any_least = omega (arith, switch_counts, flushes_least world.cache 0 0 (omega arith) (omega arith))

  later_least : 0 < window → least_lateness + 1 ≤ late
  unfolding world_after
  later_least later =
      let within = in_run_lem (fresh_run plan scripts log) window late finishes in
      let before = later_touched plan window (λ none. omega arith) within in
      let there = (in_time_lem plan valid scripts (part_records plan (length log)) finishes.at log).entered (rw finishes.before before) in
      let valid = entry_counts world.cache long there.entered.entry in
      omega (arith, switch_counts, flushes_least world.cache 1 0 valid (omega arith))

pub none_sooner : NoneSooner
none_sooner =
    record {
      any = any_least;
      after_switch = λ plan scripts log window late valid later finishes. later_least plan scripts log window late valid finishes later;
    }
