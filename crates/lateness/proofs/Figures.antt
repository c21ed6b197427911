-- How long the flushes of a switch and its touch of the entry line take at most in a window of a domain, and an op with them after
-- it. Assumes nothing.
use Prim.Native.Nat.{ℕ, ◌+◌, ◌*◌, ◌-◌, ◌≤◌, ◌<◌}
use mathlib.Core.Bool.{Bool, true, false, false≢true, cond, not, ◌&&◌, ◌||◌}
use mathlib.Core.List.{List}
use mathlib.Core.Path.{◌≡◌, refl, ap, subst, ◌∙◌}
use native.Mathlib.Nat.{zero-add}
use native.Mathlib.Decide.{ℕ_discrete}
use native.Mathlib.Omega.{arith}
use lib.Dec.{eqb}
use lib.ListN.{get_or, length}
use borrow.Author.Tests.{eq-eqb, leb-true, ltb-true, ne_eqb}
use Rattle.lists.proofs.Tests.{both, both_pass, first_passes, second_passes}
use Rattle.plan.specs.Limits.{domain_colours}
use Rattle.plan.specs.Sums.{sum_to}
use Rattle.script.specs.Limits.{most_ticks}
use Rattle.cache.specs.Access.{old_access_of, dirty_ticks, miss_ticks, replace_ticks}
use Rattle.cache.specs.Flush.{dirty_line_ticks, dirty_lines, flush_ticks, kernel_flush_ticks, l1_flush_ticks, valid_lines}
use Rattle.cache.specs.Lines.{is_dirty, is_valid, kernel_entries, kernel_index, l1_length, table_length, ways_per_set}
use Rattle.ops.specs.Ops.{box_line, kernel_entry_line, message_ticks}
use Rattle.latest.specs.Latest.{late_by, latest_alone, latest_apart, latest_meeting}
use Rattle.lateness.proofs.Accesses.{replaced_most, sought_length}
use Rattle.lateness.proofs.Boxes.{FirstBox, box_kernel, box_l1, boxes_set, first_box, in_boxes_set}
use Rattle.lateness.proofs.Counting.{count_over, count_under, one}
use Rattle.lateness.proofs.Entries.{entry_l1, entry_after, quiet_dirty, quiet_enters, quiet_entry}
use Rattle.lateness.proofs.Indices.{after_message, apart_kernel, boxes_count, boxes_index, entry_index, index_count, indices_of}
use Rattle.lateness.proofs.Indices.{meets, message_count, own_count, own_index, with_boxes}
use Rattle.lateness.proofs.Windows.{Entered, InWindow, Quiet, entered, may_hold, quiet}

-- both flushes, and the touch, which misses
abbrev pub switch_ticks : List ℕ → ℕ
switch_ticks table = kernel_flush_ticks table + l1_flush_ticks table + miss_ticks

-- so many valid and dirty lines at most
pub flushes_most : (table : List ℕ) (valid dirty : ℕ) → valid_lines table ≤ valid → dirty_lines table ≤ dirty
    → switch_ticks table ≤ flush_ticks + valid + (flush_ticks + dirty_line_ticks * dirty) + miss_ticks
unfolding kernel_flush_ticks l1_flush_ticks
flushes_most table valid dirty few some = omega arith

module _ (table : List ℕ) (long : length table ≡ table_length) where
  pub dirty_most : (named : ℕ → Bool)
      → ((index : ℕ) → index < l1_length → is_dirty (get_or table index 0) ≡ true → named index ≡ true)
      → dirty_lines table ≤ index_count named
  unfolding dirty_lines
  dirty_most named only =
      count_under is_dirty 0 table l1_length (omega arith) named (λ index below. rw (zero-add index) (only index below))

  pub valid_most : (named : ℕ → Bool)
      → ((index : ℕ) → index < kernel_entries → is_valid (get_or table (kernel_index + index) 0) ≡ true → named index ≡ true)
      → valid_lines table ≤ sum_to (λ index. one (named index)) kernel_entries
  unfolding valid_lines
  valid_most named only = count_under is_valid kernel_index table kernel_entries (omega arith) named only

  -- and at least

  pub dirty_least : (named : ℕ → Bool)
      → ((index : ℕ) → index < l1_length → named index ≡ true → is_dirty (get_or table index 0) ≡ true)
      → index_count named ≤ dirty_lines table
  unfolding dirty_lines
  dirty_least named each =
      count_over is_dirty 0 table l1_length (omega arith) named (λ index below. rw (zero-add index) (each index below))

  pub valid_least : (named : ℕ → Bool)
      → ((index : ℕ) → index < kernel_entries → named index ≡ true → is_valid (get_or table (kernel_index + index) 0) ≡ true)
      → sum_to (λ index. one (named index)) kernel_entries ≤ valid_lines table
  unfolding valid_lines
  valid_least named each = count_over is_valid kernel_index table kernel_entries (omega arith) named each

-- so many valid and dirty lines at least
pub flushes_least : (table : List ℕ) (valid dirty : ℕ) → valid ≤ valid_lines table → dirty ≤ dirty_lines table
    → flush_ticks + valid + (flush_ticks + dirty_line_ticks * dirty) + miss_ticks ≤ switch_ticks table
unfolding kernel_flush_ticks l1_flush_ticks
flushes_least table valid dirty few some = omega arith

-- a domain's figure in the run's first window, by its colours and whether it has a box
abbrev pub figure_of : ℕ → ℕ → Bool → ℕ
figure_of lowest held box =
    cond box (cond (meets lowest held) (latest_meeting (indices_of held)) (latest_apart (indices_of held)))
    (latest_alone (indices_of held))

-- the numbers of the kernel's sets that the first message of the run's first window fills
abbrev pub message_holds : ℕ → Bool
message_holds index = eqb index 0 || eqb index boxes_set

module _ (lowest held : ℕ) (within : lowest + held ≤ domain_colours) (some : 1 ≤ held) where
  -- ---- between ops

  pub quiet_flushes : (box : Bool) (table : List ℕ) → Quiet lowest held box table
      → switch_ticks table ≤ flush_ticks + 0 + (flush_ticks + dirty_line_ticks * indices_of held) + miss_ticks
  unfolding sum_to
  quiet_flushes box table q =
      flushes_most table 0 (indices_of held)
      (valid_most table q.long (λ index. false) (λ index below is. rw (q.empty index below) at is))
      (omega (arith, dirty_most table q.long (own_index lowest held) q.dirty, own_count lowest held (omega arith) (omega arith)))

  -- dirty are own indices, and with a box that of the boxes' lines
  pub entered_dirty : (box : Bool) (table : List ℕ) → Entered lowest held box table
      → dirty_lines table ≤ indices_of held + cond box (cond (meets lowest held) 0 1) 0
  entered_dirty true table e =
      omega (arith, dirty_most table e.long (with_boxes lowest held) e.dirty, boxes_count lowest held (omega arith) (omega arith))
  entered_dirty false table e =
      omega (
        arith,
        dirty_most table e.long (own_index lowest held) (λ index below is. or_nothing _ (e.dirty index below is)),
        own_count lowest held (omega arith) (omega arith),
      )
    where
      or_nothing : (test : Bool) → (test || false) ≡ true → test ≡ true
      or_nothing true is = refl
      or_nothing false is = is

  entered_boxes : (table : List ℕ) → Entered lowest held true table
      → switch_ticks table ≤ flush_ticks + 5 + (flush_ticks + dirty_line_ticks * (indices_of held + cond (meets lowest held) 0 1)) + miss_ticks
  unfolding sum_to
  entered_boxes table e =
      flushes_most table 5 (indices_of held + cond (meets lowest held) 0 1)
      (valid_most table e.long (may_hold true) e.valid) (entered_dirty true table e)

  entered_alone : (table : List ℕ) → Entered lowest held false table
      → switch_ticks table ≤ flush_ticks + 1 + (flush_ticks + dirty_line_ticks * (indices_of held + 0)) + miss_ticks
  unfolding sum_to
  entered_alone table e =
      flushes_most table 1 (indices_of held + 0)
      (valid_most table e.long (may_hold false) e.valid) (entered_dirty false table e)

  -- an op of no more ticks than the longest compute
  pub common_late : (box : Bool) (table : List ℕ) (ticks : ℕ) → InWindow lowest held box table → ticks ≤ most_ticks
      → ticks + switch_ticks table ≤ figure_of lowest held box + 1
  unfolding latest_meeting latest_apart latest_alone late_by
  common_late true table ticks (quiet q) few = go (meets lowest held)
    where
      flushes : switch_ticks table ≤ flush_ticks + 0 + (flush_ticks + dirty_line_ticks * indices_of held) + miss_ticks
      flushes = quiet_flushes true table q

      go : (meet : Bool) → ticks + switch_ticks table ≤ cond meet (latest_meeting (indices_of held)) (latest_apart (indices_of held)) + 1
      go true = omega (arith, flushes)
      go false = omega (arith, flushes)
  common_late true table ticks (entered e) few = go (meets lowest held) refl
    where
      go : (meet : Bool) → meets lowest held ≡ meet
          → ticks + switch_ticks table ≤ cond meet (latest_meeting (indices_of held)) (latest_apart (indices_of held)) + 1
      go true test = omega (arith, rw test at (entered_boxes table e))
      go false test = omega (arith, rw test at (entered_boxes table e))
  common_late false table ticks (quiet q) few = omega (arith, quiet_flushes false table q)
  common_late false table ticks (entered e) few = omega (arith, entered_alone table e)

  -- ---- the run's first window: its first message, by a box

  module _ (sender recipient : ℕ) (table : List ℕ) (q : Quiet lowest held true table) where
    abbrev middle : List ℕ
    middle = entry_after table

    middle_long : length middle ≡ table_length
    middle_long = (quiet_enters lowest held true table q).long

    abbrev last : List ℕ
    last = (old_access_of true (box_line sender recipient) middle).table

    last_long : length last ≡ table_length
    last_long = sought_length true (box_line sender recipient) middle ∙ middle_long

    boxes_empty_lem : (way : ℕ) → way < ways_per_set → get_or middle (kernel_index + (boxes_set + way)) 0 ≡ 0
    boxes_empty_lem way less = (quiet_entry lowest held true table q).behind (boxes_set + way) (omega arith) (omega arith)

    box_first : FirstBox sender recipient middle middle_long boxes_empty_lem
    box_first = first_box sender recipient middle middle_long boxes_empty_lem

    -- valid are the entry line and the box's line alone
    message_empty : (index : ℕ) → index < kernel_entries → (index ≡ 0 → ⊥) → (index ≡ boxes_set → ⊥)
        → get_or last (kernel_index + index) 0 ≡ 0
    message_empty index below not_entry not-box = go (in_boxes_set index) refl
      where
        go : (inside : Bool) → in_boxes_set index ≡ inside → get_or last (kernel_index + index) 0 ≡ 0
        go true test =
            let parts = both _ _ test in
            let from = leb-true boxes_set index parts.0 in
            let less = ltb-true index (boxes_set + ways_per_set) parts.1 in
            let same : kernel_index + (boxes_set + (index - boxes_set)) ≡ kernel_index + index = omega arith in
            subst (λ i. get_or last i 0 ≡ 0) same (box_first.behind (index - boxes_set) (omega arith) (omega arith))
        go false test =
            box_kernel sender recipient middle middle_long index test
            ∙ (quiet_entry lowest held true table q).behind index (omega arith) below

    message_valid : valid_lines last ≤ 2
    unfolding sum_to
    message_valid = valid_most last last_long message_holds (λ index below is. go index below is (ℕ_discrete index 0) (ℕ_discrete index boxes_set))
      where
        go : (index : ℕ) → index < kernel_entries → is_valid (get_or last (kernel_index + index) 0) ≡ true
            → Dec (index ≡ 0) → Dec (index ≡ boxes_set) → message_holds index ≡ true
        go index below is (yes same) box = first_passes _ _ (eq-eqb index 0 same)
        go index below is (no differs) (yes same) = second_passes (eqb index 0) _ (eq-eqb index boxes_set same)
        go index below is (no differs) (no other) = absurd (false≢true (rw (message_empty index below differs other) at is))

    -- dirty is the box's line, and own lines that the entry line has not replaced
    message_dirty : dirty_lines last ≤ index_count (after_message lowest held)
    message_dirty = dirty_most last last_long (after_message lowest held) (λ index below is. go index below is (ℕ_discrete index boxes_index))
      where
        go : (index : ℕ) → index < l1_length → is_dirty (get_or last index 0) ≡ true → Dec (index ≡ boxes_index)
            → after_message lowest held index ≡ true
        go index below is (yes same) =
            second_passes (own_index lowest held index && not (eqb index entry_index)) (eqb index boxes_index)
            (eq-eqb index boxes_index same)
        go index below is (no differs) =
            let before = quiet_dirty lowest held true table q index below
            (rw (box_l1 sender recipient middle middle_long index below differs) at is) in
            first_passes (own_index lowest held index && not (eqb index entry_index)) (eqb index boxes_index)
            (both_pass (own_index lowest held index) (not (eqb index entry_index)) (q.dirty index below before.1) (ap not (ne_eqb index entry_index before.0)))

    -- the ticks of its two accesses, beside what they replace
    message_ticks_lem : (old_access_of false kernel_entry_line table).ticks + (old_access_of true (box_line sender recipient) middle).ticks
        ≤ miss_ticks + replace_ticks (get_or table entry_index 0) + (miss_ticks + replace_ticks (get_or table boxes_index 0))
    message_ticks_lem =
        let same : get_or middle boxes_index 0 ≡ get_or table boxes_index 0 =
        entry_l1 table q.long boxes_index (omega arith) (λ is. omega arith) in
        let box = rw same at box_first.ticks in
        omega (arith, (quiet_entry lowest held true table q).ticks)

    -- where own lines do not have the kernel's indices, nothing dirty is replaced
    none_replaced : meets lowest held ≡ false → (index : ℕ) → entry_index ≤ index → index < l1_length
        → replace_ticks (get_or table index 0) ≡ 0
    none_replaced apart index from below = go (is_dirty (get_or table index 0)) refl
      where
        go : (dirty : Bool) → is_dirty (get_or table index 0) ≡ dirty → cond dirty dirty_ticks 0 ≡ 0
        go true test = absurd (apart_kernel lowest held within apart index from below (q.dirty index below test))
        go false test = refl

    pub message_late :
        message_ticks + (old_access_of false kernel_entry_line table).ticks + (old_access_of true (box_line sender recipient) middle).ticks
        + switch_ticks last
        ≤ figure_of lowest held true + 1
    unfolding latest_meeting latest_apart late_by
    message_late = go (meets lowest held) refl
      where
        flushes : switch_ticks last ≤ flush_ticks + 2 + (flush_ticks + dirty_line_ticks * index_count (after_message lowest held)) + miss_ticks
        flushes = flushes_most last 2 _ message_valid message_dirty

        go : (meet : Bool) → meets lowest held ≡ meet
            → message_ticks + (old_access_of false kernel_entry_line table).ticks + (old_access_of true (box_line sender recipient) middle).ticks
            + switch_ticks last
            ≤ cond meet (latest_meeting (indices_of held)) (latest_apart (indices_of held)) + 1
        go true test =
            let count = rw test at (message_count lowest held (omega arith) (omega arith)) in
            omega (arith, message_ticks_lem, flushes, replaced_most (get_or table entry_index 0), replaced_most (get_or table boxes_index 0))
        go false test =
            let count = rw test at (message_count lowest held (omega arith) (omega arith)) in
            omega (
              arith,
              message_ticks_lem,
              flushes,
              none_replaced test entry_index (omega arith) (omega arith),
              none_replaced test boxes_index (omega arith) (omega arith),
            )
