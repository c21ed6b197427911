-- In every run from a fresh start no window finishes later than its domain's figure, and none but the run's first later than the figure for
-- windows that a switch comes before. Assumes nothing.
use Prim.Native.Nat.{ℕ, ◌+◌, ◌*◌, ◌%◌, ◌≤◌, ◌<◌, max}
use mathlib.Core.Bool.{Bool, true, false, false≢true, cond}
use mathlib.Core.List.{List}
use mathlib.Core.Path.{◌≡◌, refl, sym, ap, subst, ◌∙◌}
use native.Mathlib.Decide.{ℕ_discrete}
use native.Mathlib.Nat.{mod-eq_of_lt}
use native.Mathlib.Numerals.{add-one}
use native.Mathlib.Omega.{arith}
use lib.Dec.{eqb}
use lib.ListN.{get_or, length}
use borrow.Author.Tests.{eq-eqb, eqb-true, ne_eqb}
use Rattle.lists.proofs.Parts.{part_same, splice_before}
use Rattle.plan.specs.declared.Plan.{Plan}
use Rattle.plan.specs.Colours.{holding_of}
use Rattle.plan.specs.Validity.{plan_valid}
use Rattle.plan.specs.Windows.{window_end, window_owner, window_start}
use Rattle.plan.proofs.ValidPlans.{counts}
use Rattle.plan.proofs.Windows.{owner_declared, pad_least}
use Rattle.script.specs.declared.Op.{Op}
use Rattle.script.specs.Limits.{OpWithinLimits}
use Rattle.cache.specs.Flush.{count_where, dirty_line_ticks, dirty_lines, flush_ticks, kernel_flushed, l1_flush_ticks}
use Rattle.cache.specs.Lines.{is_dirty, kernel_entries, kernel_index, l1_length, set_of, table_length}
use Rattle.cache.proofs.Laws.{kernel_flush_length}
use Rattle.records.specs.Records.{part_records}
use Rattle.state.specs.TableValidity.{set_valid}
use Rattle.state.specs.World.{World, fresh_state, position_at, running_of}
use Rattle.machine.specs.Fresh.{fresh_world}
use Rattle.machine.specs.Steps.{op_step_by, op_step_of, steps}
use Rattle.machine.specs.Switch.{flushed_clock, is_last, padded_clock, switch_by, switch_of, touched_clock, touched_clock_by}
use Rattle.machine.specs.WindowStart.{HoldsStart, touched_before}
use Rattle.machine.proofs.Fetched.{fetched_within}
use Rattle.machine.proofs.Invariant.{Begins, steps_hold}
use Rattle.machine.proofs.Schedule.{next_start}
use Rattle.machine.proofs.Switched.{fresh_holds, switch_holds, switched_long, touch_ticks_lem}
use Rattle.ops.specs.Ops.{effect_of, first_box_line}
use Rattle.reachable.specs.OldBoard.{old_effect_of}
use Rattle.reachable.proofs.Cells.{zeros_length}
use Rattle.reachable.proofs.Lines.{zeros_valid}
use Rattle.reachable.proofs.OldBoard.{Fronted, op_fronted, same_op, start_fronted, switch_fronted}
use Rattle.isolation.specs.Points.{windows_after, world_after}
use Rattle.latest.specs.Latest.{latest_first, latest_later, latest_ticks}
use Rattle.latest.specs.Reach.{has_box, lowest_colour, starts_run}
use Rattle.lateness.specs.Lateness.{lateness_of}
use Rattle.lateness.specs.Theorems.{NoneLater, NoneLaterAfterSwitch, PadSuffices, SwitchesByLateness, fresh_run}
use Rattle.lateness.proofs.Bounds.{first_told, later_no_more, later_told, latest_most}
use Rattle.lateness.proofs.Boxes.{boxes_set}
use Rattle.lateness.proofs.Figures.{switch_ticks}
use Rattle.lateness.proofs.Indices.{entry_index}
use Rattle.lateness.proofs.Later.{EnteredBy, OpLater, later_late, op_later, quiet_late}
use Rattle.lateness.proofs.Ops.{Inside, OpLate, flushes_late, op_late}
use Rattle.lateness.proofs.Usable.{none_usable}
use Rattle.lateness.proofs.Windows.{entered, in_long, quiet, starts_entered, starts_quiet}
use Rattle.lateness.proofs.WindowStarts.{Touched, first_untouched, later_touched, starts_touched, starts_untouched}

-- ---- the clock of a switch

before_kernel : (table : List ℕ) → length table ≡ table_length → (index : ℕ) → index < kernel_index
    → get_or (kernel_flushed table) index 0 ≡ get_or table index 0
unfolding kernel_flushed
before_kernel table long index before = splice_before kernel_index kernel_entries _ table (omega arith) index before

-- emptying the kernel's sets leaves L1's count
l1_after_kernel : (table : List ℕ) → length table ≡ table_length → l1_flush_ticks (kernel_flushed table) ≡ l1_flush_ticks table
unfolding l1_flush_ticks dirty_lines
l1_after_kernel table long =
    ap (λ (lines : List ℕ). flush_ticks + dirty_line_ticks * count_where is_dirty lines)
    (part_same 0 l1_length (kernel_flushed table) table (omega (arith, kernel_flush_length table long)) (omega arith)
    (λ index below. kept index below))
  where
    kept : (index : ℕ) → index < l1_length → get_or (kernel_flushed table) (0 + index) 0 ≡ get_or table (0 + index) 0
    kept index below = before_kernel table long (0 + index) (omega arith)

-- both flushes and the touch take what is counted
pub touched_is : (clock end : ℕ) (table : List ℕ) → length table ≡ table_length
    → touched_clock clock end table ≡ max clock end + switch_ticks table
unfolding touched_clock_by flushed_clock
touched_is clock end table long = omega (arith, l1_after_kernel table long, touch_ticks_lem table long)

-- ---- along a run

-- the figure of a window: that of the run's first, or that of the others
abbrev pub figure_at : Plan → ℕ → ℕ
figure_at plan window = cond (eqb window 0) (latest_first plan (window_owner plan window)) (latest_later plan (window_owner plan window))

-- what holds of a world in a window of whoever runs: what L1 and the kernel's sets hold, and that the switch, if it came now, would have
-- touched the entry line no later than the window's figure
pub record InTime (plan : Plan) (world : World) : Type 0 where
  pub inside : Inside plan (running_of plan world.state) world.cache
  pub entered :
      touched_before plan world.state.windows ≡ true
      → EnteredBy plan (running_of plan world.state) world.cache
  pub soon :
      max world.state.clock (window_end plan world.state.windows) + switch_ticks world.cache
      ≤ window_end plan world.state.windows + figure_at plan world.state.windows

-- the boxes' set is valid, as it is in every world that is reached
abbrev BoxesValid : World → Type 0
BoxesValid world = set_valid world.cache (set_of first_box_line) ≡ true

-- the owner of the run's first window
first_owner : (plan : Plan) → plan_valid plan ≡ true → (window : ℕ) → window ≡ 0 → starts_run plan (window_owner plan window) ≡ true
unfolding starts_run window_owner
first_owner plan valid window first =
    let slot : 0 % plan.windows ≡ 0 = mod-eq_of_lt (counts plan valid).windows_least in
    rw (first, slot) (eq-eqb (get_or plan.owners 0 0) (get_or plan.owners 0 0) refl)

-- a window's figure is no larger than its domain's
figure_under : (plan : Plan) (window : ℕ) → plan_valid plan ≡ true → figure_at plan window ≤ latest_ticks plan (window_owner plan window)
figure_under plan window valid = go (eqb window 0) refl
  where
    owner : ℕ
    owner = window_owner plan window

    go : (first : Bool) → eqb window 0 ≡ first → cond first (latest_first plan owner) (latest_later plan owner) ≤ latest_ticks plan owner
    go true first = omega (arith, first_told plan owner (first_owner plan valid window (eqb-true _ _ first)))
    go false first = later_no_more plan owner

module _ (plan : Plan) (valid : plan_valid plan ≡ true) where
  runs_declared : (window : ℕ) → window_owner plan window < plan.domains
  runs_declared window = owner_declared plan window valid

  -- ---- a window's start

  module _ (world : World) (long : length world.cache ≡ table_length) (holds : HoldsStart plan world) (sound : BoxesValid world) where
    abbrev runs : ℕ
    runs = running_of plan world.state

    start_quiet : touched_before plan world.state.windows ≡ false → Inside plan runs world.cache
    start_quiet none =
        let empty = starts_untouched plan world holds none in
        quiet (starts_quiet (lowest_colour plan runs) (holding_of plan runs) (has_box plan runs) world.cache long empty.l1 empty.kernel)

    start_entered : touched_before plan world.state.windows ≡ true → EnteredBy plan runs world.cache
    start_entered before =
        let touched = starts_touched plan world holds before in
        record {
          entered =
              starts_entered (lowest_colour plan runs) (holding_of plan runs) (has_box plan runs) world.cache long (clean touched)
              touched.front touched.behind;
          usable = none_usable plan runs world.cache (λ way below. touched.behind (boxes_set + way) (omega arith) (omega arith));
        }
      where
        clean : Touched world.cache → (index : ℕ) → index < l1_length → is_dirty (get_or world.cache index 0) ≡ false
        clean touched index below = go (ℕ_discrete index entry_index)
          where
            go : Dec (index ≡ entry_index) → is_dirty (get_or world.cache index 0) ≡ false
            go (yes same) = rw (same, touched.entry) refl
            go (no differs) = rw (touched.others index below differs) refl

    starts_in_time : world.state.clock ≤ window_end plan world.state.windows → InTime plan world
    starts_in_time early = go (eqb world.state.windows 0) refl (touched_before plan world.state.windows) refl
      where
        go : (first : Bool) → eqb world.state.windows 0 ≡ first
            → (before : Bool) → touched_before plan world.state.windows ≡ before → InTime plan world
        go true first true before =
            absurd (false≢true (sym (first_untouched plan _ (eqb-true _ _ first)) ∙ before))
        go true first false none =
            let inside = start_quiet none in
            let flushes = flushes_late plan runs valid (runs_declared world.state.windows) world.cache inside in
            record { inside = inside; entered = λ before. absurd (false≢true (sym none ∙ before)); soon = rw first (omega (arith, flushes)) }
        go false first true before =
            let inside = start_entered before in
            let late = later_late plan runs valid (runs_declared world.state.windows) world.cache 1 inside sound (omega arith) in
            record { inside = entered inside.entered; entered = λ _. inside; soon = rw first (omega (arith, late)) }
        go false first false none =
            let empty = starts_untouched plan world holds none in
            let still =
            starts_quiet (lowest_colour plan runs) (holding_of plan runs) (has_box plan runs) world.cache long empty.l1 empty.kernel in
            let late = quiet_late plan runs valid (runs_declared world.state.windows) world.cache still in
            record {
              inside = quiet still;
              entered = λ before. absurd (false≢true (sym none ∙ before));
              soon = rw first (omega (arith, late));
            }

  -- the clock once the touch is done
  pub touched_soon : (world : World) → InTime plan world
      → touched_clock world.state.clock (window_end plan world.state.windows) world.cache
      ≤ window_end plan world.state.windows + figure_at plan world.state.windows
  touched_soon world timely =
      let long = in_long _ _ _ world.cache timely.inside in
      omega (arith, timely.soon, touched_is world.state.clock (window_end plan world.state.windows) world.cache long)

  -- ---- a step

  after_switch : (world : World) → InTime plan world → BoxesValid (switch_of plan world) → InTime plan (switch_of plan world)
  unfolding switch_by padded_clock window_end
  after_switch world timely sound =
      let long = in_long _ _ _ world.cache timely.inside in
      let done = touched_soon world timely in
      let figure = figure_under plan world.state.windows valid in
      let most = latest_most plan (running_of plan world.state) in
      let pad = pad_least plan valid in
      let next : window_start plan (world.state.windows + 1) ≡ window_end plan world.state.windows + plan.pad =
      ap (window_start plan) (add-one world.state.windows) ∙ next_start plan world.state.windows in
      starts_in_time (switch_of plan world) (switched_long world.cache long (is_last plan world.state.windows))
      (switch_holds plan world long) sound (omega arith)

  module _ (scripts : List ℕ) (quota : ℕ) (world : World) (op : Op) (timely : InTime plan world) (begins : Begins plan scripts quota world op)
      (same : effect_of plan (running_of plan world.state) op world.cache world.boxes
      ≡ old_effect_of plan (running_of plan world.state) op world.cache world.boxes)
      (sound : BoxesValid (op_step_of plan quota (running_of plan world.state) op world)) where
    abbrev running : ℕ
    running = running_of plan world.state

    abbrev next : World
    next = op_step_of plan quota (running_of plan world.state) op world

    good : OpWithinLimits op
    good = fetched_within scripts running (position_at world.state running) op begins.next

    -- in the run's first window
    op_first : world.state.windows ≡ 0 → InTime plan next
    unfolding op_step_by
    op_first first =
        let left =
        subst (OpLate plan running) (sym same)
        (op_late plan running valid (runs_declared world.state.windows) op world.cache world.boxes good timely.inside) in
        let early = begins.in_time in
        let flushes = flushes_late plan running valid (runs_declared world.state.windows) _ left.in_window in
        record {
          inside = left.in_window;
          entered = λ before. absurd (false≢true (sym (first_untouched plan _ first) ∙ before));
          soon = rw (eq-eqb world.state.windows 0 first) (omega (arith, left.late, flushes));
        }

    -- in any other
    op_other : (world.state.windows ≡ 0 → ⊥) → InTime plan next
    unfolding op_step_by
    op_other later =
        let before = timely.entered (later_touched plan _ later begins.in_a_window) in
        let left =
        subst (OpLater plan running) (sym same)
        (op_later plan running valid (runs_declared world.state.windows) op world.cache world.boxes good before) in
        let early = begins.in_time in
        let late = later_late plan running valid (runs_declared world.state.windows) _ _ left.left sound left.few in
        let flushes = later_late plan running valid (runs_declared world.state.windows) _ 1 left.left sound (omega arith) in
        record {
          inside = entered left.left.entered;
          entered = λ _. left.left;
          soon = rw (ne_eqb world.state.windows 0 later) (omega (arith, late, flushes));
        }

    after_op : InTime plan next
    after_op = go (ℕ_discrete world.state.windows 0)
      where
        go : Dec (world.state.windows ≡ 0) → InTime plan next
        go (yes first) = op_first first
        go (no later) = op_other later

  -- ---- the run

  at_start : (log : List ℕ) → InTime plan (fresh_world log)
  unfolding fresh_world fresh_state
  at_start log =
      starts_in_time (fresh_world log) (zeros_length table_length) (fresh_holds plan log)
      ((zeros_valid plan fresh_state).sets (set_of first_box_line) (omega arith)) (omega arith)

  pub in_time_lem : (scripts : List ℕ) (quota count : ℕ) (log : List ℕ) → InTime plan (steps plan scripts quota count (fresh_world log))
  in_time_lem scripts quota count log =
      (steps_hold _ plan scripts quota (λ world. Fronted plan scripts quota (length log) valid world × InTime plan world)
      (λ world held in_a_window.
      let fronted = switch_fronted plan scripts quota (length log) valid world held.0 in_a_window in
      (fronted, after_switch world held.1 (boxes_valid fronted)))
      (λ world op held begins.
      let fronted = op_fronted plan scripts quota (length log) valid world op held.0 begins in (
        fronted,
        after_op scripts quota world op held.1 begins (same_op plan scripts quota (length log) valid world op held.0 begins).same
            (boxes_valid fronted),
      ))
      (fresh_world log) (start_fronted plan scripts quota (length log) valid log refl, at_start log) count).1
    where
      boxes_valid : {world : World} → Fronted plan scripts quota (length log) valid world → BoxesValid world
      boxes_valid fronted = fronted.sound.cache.sets (set_of first_box_line) (omega arith)

-- ---- the statements

-- wherever a run has come to, a switch taken there is no later
figure_anywhere : (plan : Plan) (scripts log : List ℕ) (count : ℕ) → plan_valid plan ≡ true
    → lateness_of plan (world_after (fresh_run plan scripts log) count)
    ≤ figure_at plan (windows_after (fresh_run plan scripts log) count)
unfolding lateness_of world_after
figure_anywhere plan scripts log count valid =
    let world = world_after (fresh_run plan scripts log) count in
    let soon = touched_soon plan valid world (in_time_lem plan valid scripts (part_records plan (length log)) count log) in
    omega arith

pub late_anywhere : (plan : Plan) (scripts log : List ℕ) (count : ℕ) → plan_valid plan ≡ true
    → lateness_of plan (world_after (fresh_run plan scripts log) count)
    ≤ latest_ticks plan (window_owner plan (windows_after (fresh_run plan scripts log) count))
late_anywhere plan scripts log count valid =
    omega (
      arith,
      figure_anywhere plan scripts log count valid,
      figure_under plan (windows_after (fresh_run plan scripts log) count) valid,
    )

pub none_later : NoneLater
none_later plan scripts log window late valid finishes =
    subst (λ n. late ≤ latest_ticks plan (window_owner plan n)) finishes.before
    (rw finishes.is at (late_anywhere plan scripts log finishes.at valid))

pub none_later_after_switch : NoneLaterAfterSwitch
none_later_after_switch =
    record {
      none_later = λ plan scripts log window late valid later finishes.
          rw (ne_eqb window 0 (λ none. omega arith)) at
          (subst (λ n. late ≤ figure_at plan n) finishes.before
          (rw finishes.is at (figure_anywhere plan scripts log finishes.at valid)));
      own = later_told;
      no_more = later_no_more;
    }

pub pad_suffices : PadSuffices
pad_suffices =
    record {
      left = λ plan scripts log window late valid finishes.
          omega (arith, none_later plan scripts log window late valid finishes, latest_most plan (window_owner plan window), pad_least plan valid);
      no_more = refl;
    }

pub switches_by_lateness : SwitchesByLateness
unfolding switch_by padded_clock lateness_of touched_clock_by flushed_clock
switches_by_lateness plan world = omega arith
