-- The last op of the script that is handed back, on tables in which every own index of L1 is dirty: with the switch after it, up to its
-- touch, it takes as long as the domain's figure says. Assumes nothing.
use Prim.Native.Nat.{ℕ, zero, suc, ◌+◌, ◌*◌, ◌-◌, ◌≤◌, ◌<◌, min}
use mathlib.Core.Bool.{Bool, true, false, false≢true, cond, not, ◌&&◌, ◌||◌}
use mathlib.Core.List.{List}
use mathlib.Core.Logic.{◌⊎◌, inl, inr}
use mathlib.Core.Path.{◌≡◌, refl, sym, ap, subst, ◌∙◌}
use native.Mathlib.Decide.{ℕ_discrete}
use native.Mathlib.Omega.{arith}
use lib.Dec.{eqb, leb, ltb}
use lib.ListN.{get_or, length}
use borrow.Author.Tests.{eq-eqb, eqb-true, leb-true, lt-ltb, ltb-true, ne_eqb}
use Rattle.lists.proofs.Tests.{both}
use Rattle.plan.specs.Limits.{domain_colours}
use Rattle.plan.specs.Sums.{sum_to}
use Rattle.script.specs.Limits.{most_ticks}
use Rattle.cache.specs.Access.{old_access_of, dirty_ticks, miss_ticks, replace_ticks}
use Rattle.cache.specs.Flush.{dirty_line_ticks, dirty_lines, flush_ticks, valid_lines}
use Rattle.cache.specs.Lines.{clean_entry, dirty_entry, dirty_mark, holds_line, is_dirty, is_valid, kernel_entries, kernel_index, l1_length}
use Rattle.cache.specs.Lines.{most_line, sets_per_colour, table_length, ways_per_set}
use Rattle.ops.specs.Ops.{box_line, kernel_entry_line, message_ticks}
use Rattle.latest.specs.Latest.{late_by, latest_alone, latest_apart, latest_meeting}
use Rattle.lateness.proofs.Accesses.{sought_length}
use Rattle.lateness.proofs.Boxes.{box_kernel, box_l1, boxes_set, in_boxes_set, missed_entry, missed_front, missed_ticks}
use Rattle.lateness.proofs.Counting.{one}
use Rattle.lateness.proofs.Entries.{FirstEntry, entry_after, entry_l1, first_entry}
use Rattle.lateness.proofs.Figures.{dirty_least, figure_of, flushes_least, switch_ticks, message_holds, valid_least}
use Rattle.lateness.proofs.Indices.{after_message, boxes_index, entry_index, index_count, indices_of, meeting, meets, message_count}
use Rattle.lateness.proofs.Indices.{boxes_count, own_count, own_line_index, own_index, with_boxes}
use Rattle.lateness.proofs.Usable.{box_way}
use Rattle.lateness.proofs.Windows.{entry_number}
use Rattle.lateness.proofs.Writing.{OwnDirty, Written, line_at, own_dirty}

dirty_entry_lem : (line : ℕ) → is_dirty (dirty_entry line) ≡ true
dirty_entry_lem line = lt-ltb dirty_mark (dirty_entry line) (omega arith)

-- of the four ways the first ones, as many as there are boxes
first_ways : (boxes : ℕ) → one (ltb 0 boxes) + one (ltb 1 boxes) + one (ltb 2 boxes) + one (ltb 3 boxes) ≡ min ways_per_set boxes
first_ways zero = refl
first_ways (suc zero) = refl
first_ways (suc (suc zero)) = refl
first_ways (suc (suc (suc zero))) = refl
first_ways (suc (suc (suc (suc boxes)))) =
    let all : ℕ = suc (suc (suc (suc boxes))) in
    rw (lt-ltb 0 all (omega arith), lt-ltb 1 all (omega arith), lt-ltb 2 all (omega arith), lt-ltb 3 all (omega arith)) (omega arith)

module _ (lowest held : ℕ) (within : lowest + held ≤ domain_colours) (some : 1 ≤ held) (before table : List ℕ)
    (written : Written lowest held within (indices_of held) before table) where
  long : length table ≡ table_length
  long = written.long

  -- an index that is not an own one is as before the writes
  not_written : (index : ℕ) → index < l1_length → own_index lowest held index ≡ false → get_or table index 0 ≡ get_or before index 0
  not_written index below none =
      written.rest index below
      (λ line few same.
      false≢true
      (sym none
      ∙ subst (λ i. own_index lowest held i ≡ true) (sym same)
      (own_line_index lowest held (line_at lowest held within line) within (omega arith) (omega arith))))

  -- every own index is dirty
  dirty_own : (index : ℕ) → index < l1_length → own_index lowest held index ≡ true → is_dirty (get_or table index 0) ≡ true
  dirty_own index below own =
      let line = own_dirty lowest held within before table written index below own in
      rw line.has (dirty_entry_lem (line_at lowest held within line.line))

  -- ---- a compute in the run's first window, where the kernel's sets have the entry line

  pub compute_least : get_or before kernel_index 0 ≡ entry_number → latest_alone (indices_of held) + 1 ≤ most_ticks + switch_ticks table
  unfolding latest_alone late_by sum_to
  compute_least entered =
      let dirty = dirty_least table long (own_index lowest held) dirty_own in
      let count = own_count lowest held (omega arith) (omega arith) in
      let valid = valid_least table long (λ index. eqb index 0) (λ index below first. holds index first) in
      let flushes = flushes_least table 1 (indices_of held) valid (omega arith) in
      omega arith
    where
      holds : (index : ℕ) → eqb index 0 ≡ true → is_valid (get_or table (kernel_index + index) 0) ≡ true
      holds index first = rw (eqb-true index 0 first, written.kernel 0 (omega arith), entered) refl

  -- ---- a compute, where a switch has come before: the boxes' set has lines too, and their L1 index was dirty, or has an own line

  module _ (box : Bool) (boxes : ℕ) (front : get_or before kernel_index 0 ≡ entry_number)
      (filled : (way : ℕ) → way < ways_per_set → way < boxes → is_valid (box_way before way) ≡ true)
      (dirtied : box ≡ true → is_dirty (get_or before boxes_index 0) ≡ true) where
    -- the entry line, and the first ways of the boxes' set
    abbrev held_lines : ℕ → Bool
    held_lines index = eqb index 0 || (in_boxes_set index && ltb (index - boxes_set) boxes)

    later_valid : 1 + min ways_per_set boxes ≤ valid_lines table
    unfolding sum_to
    later_valid =
        let least = valid_least table long held_lines (λ index below. go index below (eqb index 0) refl) in
        omega (arith, first_ways boxes)
      where
        go : (index : ℕ) → index < kernel_entries → (first : Bool) → eqb index 0 ≡ first
            → (first || (in_boxes_set index && ltb (index - boxes_set) boxes)) ≡ true
            → is_valid (get_or table (kernel_index + index) 0) ≡ true
        go index below true first named = rw (eqb-true index 0 first, written.kernel 0 (omega arith), front) refl
        go index below false first named =
            let parts = both (in_boxes_set index) (ltb (index - boxes_set) boxes) named in
            let inside = both (leb boxes_set index) (ltb index (boxes_set + ways_per_set)) parts.0 in
            let from : boxes_set ≤ index = leb-true _ _ inside.0 in
            let to : index < boxes_set + ways_per_set = ltb-true _ _ inside.1 in
            let few : index - boxes_set < boxes = ltb-true _ _ parts.1 in
            let same : kernel_index + (boxes_set + (index - boxes_set)) ≡ kernel_index + index = omega arith in
            rw (written.kernel index below)
            (subst (λ i. is_valid (get_or before i 0) ≡ true) same (filled (index - boxes_set) (omega arith) few))

    -- the index of the boxes' lines has an own line now, or what it had
    boxes_dirty : box ≡ true → is_dirty (get_or table boxes_index 0) ≡ true
    boxes_dirty is = go (own_index lowest held boxes_index) refl
      where
        go : (own : Bool) → own_index lowest held boxes_index ≡ own → is_dirty (get_or table boxes_index 0) ≡ true
        go true test = dirty_own boxes_index (omega arith) test
        go false test = rw (not_written boxes_index (omega arith) test) (dirtied is)

    later_dirty : indices_of held + cond box (cond (meets lowest held) 0 1) 0 ≤ dirty_lines table
    later_dirty = go box refl
      where
        dirty_index : box ≡ true → (index : ℕ) → index < l1_length → (own : Bool) → own_index lowest held index ≡ own
            → (own || eqb index boxes_index) ≡ true → is_dirty (get_or table index 0) ≡ true
        dirty_index is index below true own named = dirty_own index below own
        dirty_index is index below false own named = rw (eqb-true index boxes_index named) (boxes_dirty is)

        go : (has-box : Bool) → box ≡ has-box → indices_of held + cond has-box (cond (meets lowest held) 0 1) 0 ≤ dirty_lines table
        go true is =
            omega (
              arith,
              boxes_count lowest held (omega arith) (omega arith),
              dirty_least table long (with_boxes lowest held) (λ index below. dirty_index is index below (own_index lowest held index) refl),
            )
        go false is =
            omega (arith, own_count lowest held (omega arith) (omega arith), dirty_least table long (own_index lowest held) dirty_own)

    pub later_least :
        late_by (most_ticks - 1) (1 + min ways_per_set boxes) (indices_of held + cond box (cond (meets lowest held) 0 1) 0) + 1
        ≤ most_ticks + switch_ticks table
    unfolding late_by
    later_least = omega (arith, flushes_least table (1 + min ways_per_set boxes) _ later_valid later_dirty)

  -- ---- a message, where L1 had nothing else and the kernel's sets are empty

  module _ (sender recipient : ℕ) (small : box_line sender recipient ≤ most_line)
      (l1 : (index : ℕ) → index < l1_length → get_or before index 0 ≡ 0)
      (empty : (index : ℕ) → index < kernel_entries → get_or before (kernel_index + index) 0 ≡ 0) where
    -- an index is dirty by an own line, or empty
    own_or_empty : (index : ℕ) → index < l1_length → OwnDirty lowest held within index table ⊎ (get_or table index 0 ≡ 0)
    own_or_empty index below = go (own_index lowest held index) refl
      where
        go : (own : Bool) → own_index lowest held index ≡ own → OwnDirty lowest held within index table ⊎ (get_or table index 0 ≡ 0)
        go true test = inl (own_dirty lowest held within before table written index below test)
        go false test = inr (not_written index below test ∙ l1 index below)

    -- so it has no line of the kernel's
    lacks : (index line : ℕ) → index < l1_length → sets_per_colour * domain_colours ≤ line → line ≤ most_line
        → holds_line (get_or table index 0) line ≡ false
    lacks index line below past fits = go (own_or_empty index below)
      where
        go : OwnDirty lowest held within index table ⊎ (get_or table index 0 ≡ 0) → holds_line (get_or table index 0) line ≡ false
        go (inl own) =
            let few = own.small in
            rw (
              own.has,
              ne_eqb (dirty_entry (line_at lowest held within own.line)) (clean_entry line) (λ same. omega arith),
              ne_eqb (dirty_entry (line_at lowest held within own.line)) (dirty_entry line) (λ same. omega arith),
            ) refl
        go (inr none) =
            rw (none, ne_eqb 0 (clean_entry line) (λ same. omega arith), ne_eqb 0 (dirty_entry line) (λ same. omega arith)) refl

    table_empty : (index : ℕ) → index < kernel_entries → get_or table (kernel_index + index) 0 ≡ 0
    table_empty index below = written.kernel index below ∙ empty index below

    entry : FirstEntry table long
    entry = first_entry table long (lacks entry_index kernel_entry_line (omega arith) (omega arith) (omega arith)) table_empty

    abbrev middle : List ℕ
    middle = entry_after table

    middle_long : length middle ≡ table_length
    middle_long = sought_length false kernel_entry_line table ∙ long

    abbrev last : List ℕ
    last = (old_access_of true (box_line sender recipient) middle).table

    last_long : length last ≡ table_length
    last_long = sought_length true (box_line sender recipient) middle ∙ middle_long

    boxes_empty_lem : (way : ℕ) → way < ways_per_set → get_or middle (kernel_index + (boxes_set + way)) 0 ≡ 0
    boxes_empty_lem way less = entry.behind (boxes_set + way) (omega arith) (omega arith)

    -- the box's index is as before the read of the entry line
    middle_box : get_or middle boxes_index 0 ≡ get_or table boxes_index 0
    middle_box = entry_l1 table long boxes_index (omega arith) (λ same. omega arith)

    lacks_box : holds_line (get_or middle boxes_index 0) (box_line sender recipient) ≡ false
    lacks_box = rw middle_box (lacks boxes_index (box_line sender recipient) (omega arith) (omega arith) small)

    -- its ticks are those of two misses, and of what they replace
    message_ticks_lem : (old_access_of false kernel_entry_line table).ticks + (old_access_of true (box_line sender recipient) middle).ticks
        ≡ miss_ticks + replace_ticks (get_or table entry_index 0) + (miss_ticks + replace_ticks (get_or table boxes_index 0))
    message_ticks_lem =
        let box : (old_access_of true (box_line sender recipient) middle).ticks ≡ miss_ticks + replace_ticks (get_or table boxes_index 0) =
        missed_ticks sender recipient middle middle_long boxes_empty_lem lacks_box ∙ ap (λ number. miss_ticks + replace_ticks number) middle_box in
        omega (arith, entry.ticks)

    replaced : meets lowest held ≡ true → (index : ℕ) → entry_index ≤ index → index < l1_length
        → replace_ticks (get_or table index 0) ≡ dirty_ticks
    replaced meet index from below = rw (dirty_own index below (meeting lowest held within meet index from below)) refl

    -- valid are the entry line and the box's line
    message_valid : 2 ≤ valid_lines last
    unfolding sum_to
    message_valid = valid_least last last_long message_holds (λ index below. go index (eqb index 0) refl)
      where
        go : (index : ℕ) (first : Bool) → eqb index 0 ≡ first → (first || eqb index boxes_set) ≡ true
            → is_valid (get_or last (kernel_index + index) 0) ≡ true
        go index true test named =
            rw (eqb-true index 0 test, box_kernel sender recipient middle middle_long 0 refl, entry.front) refl
        go index false test named =
            rw (eqb-true index boxes_set named, missed_front sender recipient middle middle_long boxes_empty_lem lacks_box)
            (lt-ltb 0 (clean_entry (box_line sender recipient)) (omega arith))

    -- dirty are the box's line, and every own line but at the entry line's index
    message_dirty : index_count (after_message lowest held) ≤ dirty_lines last
    message_dirty = dirty_least last last_long (after_message lowest held) (λ index below. go index below (ℕ_discrete index boxes_index))
      where
        left : (first second : Bool) → second ≡ false → (first || second) ≡ true → first ≡ true
        left true second none is = refl
        left false second none is = absurd (false≢true (sym none ∙ is))

        not_entry : (index : ℕ) → not (eqb index entry_index) ≡ true → index ≡ entry_index → ⊥
        not_entry index test same = false≢true (rw (same, eq-eqb entry_index entry_index refl) at test)

        go : (index : ℕ) → index < l1_length → Dec (index ≡ boxes_index) → after_message lowest held index ≡ true → is_dirty (get_or last index 0) ≡ true
        go index below (yes same) named =
            rw (same, missed_entry sender recipient middle middle_long boxes_empty_lem lacks_box) (dirty_entry_lem (box_line sender recipient))
        go index below (no differs) named =
            let own = both (own_index lowest held index) (not (eqb index entry_index))
            (left _ (eqb index boxes_index) (ne_eqb index boxes_index differs) named) in
            rw (box_l1 sender recipient middle middle_long index below differs, entry_l1 table long index below (not_entry index own.1))
            (dirty_own index below own.0)

    pub message_least :
        figure_of lowest held true + 1
        ≤ message_ticks + (old_access_of false kernel_entry_line table).ticks + (old_access_of true (box_line sender recipient) middle).ticks
        + switch_ticks last
    unfolding latest_meeting latest_apart late_by
    message_least = go (meets lowest held) refl
      where
        flushes : flush_ticks + 2 + (flush_ticks + dirty_line_ticks * index_count (after_message lowest held)) + miss_ticks ≤ switch_ticks last
        flushes = flushes_least last 2 _ message_valid message_dirty

        go : (meet : Bool) → meets lowest held ≡ meet
            → cond meet (latest_meeting (indices_of held)) (latest_apart (indices_of held)) + 1
            ≤ message_ticks + (old_access_of false kernel_entry_line table).ticks + (old_access_of true (box_line sender recipient) middle).ticks
            + switch_ticks last
        go true test =
            let count = rw test at (message_count lowest held (omega arith) (omega arith)) in
            omega (arith, message_ticks_lem, flushes, replaced test entry_index (omega arith) (omega arith), replaced test boxes_index (omega arith) (omega arith))
        go false test =
            let count = rw test at (message_count lowest held (omega arith) (omega arith)) in
            omega (arith, message_ticks_lem, flushes)
