-- A write of one line for each L1 index of a domain's own lines, into sets of theirs that are empty: each misses, replaces what stood
-- at its index before the first of them, and leaves the index dirty. Assumes nothing.
use Prim.Native.Nat.{ℕ, zero, suc, ◌+◌, ◌*◌, ◌-◌, ◌%◌, ◌≤◌, ◌<◌}
use mathlib.Core.Bool.{Bool, true, false, cond, ◌&&◌}
use mathlib.Core.List.{List, [], ◌∷◌}
use mathlib.Core.Path.{◌≡◌, refl, sym, ap, ◌∙◌}
use native.Mathlib.Decide.{ℕ_discrete}
use native.Mathlib.Omega.{arith}
use lib.Dec.{eqb}
use lib.ListN.{get_or, length}
use borrow.Author.Tests.{ltb-true, ne_eqb}
use Rattle.plan.specs.Limits.{domain_colours}
use Rattle.plan.specs.Sums.{sum_to}
use Rattle.plan.proofs.Sums.{sum_most, sum_same}
use Rattle.cache.specs.Access.{dirty_ticks, old_access_of, lookup_at, lookup_l2, miss_ticks, replace_ticks, seek_of}
use Rattle.cache.specs.Lines.{clean_entry, dirty_entry, holds_line, is_dirty, kernel_entries, kernel_index, l1_index, l1_length}
use Rattle.cache.specs.Lines.{set_count, set_index, set_of, sets_per_colour, table_length, ways_per_set}
use Rattle.cache.specs.Sets.{has}
use Rattle.cache.proofs.Outcome.{look_lacked}
use Rattle.cache.proofs.WriteBacks.{ways_of}
use Rattle.lateness.proofs.Accesses.{access_entry, access_other, four_ways, sought_length}
use Rattle.lateness.proofs.Indices.{boxes_index, indices_of, meets, own_index, written_count}

-- a sum of numbers, each taken four times
sum_times : (f : ℕ → ℕ) (count : ℕ) → sum_to (λ index. dirty_ticks * f index) count ≡ dirty_ticks * sum_to f count
unfolding sum_to
sum_times f zero = refl
sum_times f (suc count) = omega (arith, sum_times f count)

module _ (lowest held : ℕ) (within : lowest + held ≤ domain_colours) where
  -- the lines that are written, from the first of the lowest colour on
  abbrev pub line_at : ℕ → ℕ
  line_at count = sets_per_colour * lowest + count

  -- a table in which the first lines were written: L1 has them, dirty; the sets of the others are empty; and the rest of L1
  -- and the kernel's sets are as before
  pub record Written (count : ℕ) (before table : List ℕ) : Type 0 where
    pub long : length table ≡ table_length
    pub done : (line : ℕ) → line < count → get_or table (l1_index (line_at line)) 0 ≡ dirty_entry (line_at line)
    pub ahead :
        (line way : ℕ) → count ≤ line → line < indices_of held → way < ways_per_set → get_or table (set_index (line_at line) + way) 0 ≡ 0
    pub rest : (index : ℕ) → index < l1_length → ((line : ℕ) → line < count → index ≡ l1_index (line_at line) → ⊥)
        → get_or table index 0 ≡ get_or before index 0
    pub kernel : (index : ℕ) → index < kernel_entries → get_or table (kernel_index + index) 0 ≡ get_or before (kernel_index + index) 0

  -- no index of L1 had one of these lines
  abbrev pub Lacking : List ℕ → Type 0
  Lacking before =
      (index line : ℕ) → index < l1_length → line < indices_of held → holds_line (get_or before index 0) (line_at line) ≡ false

  -- what the first writes take for replacing dirty lines
  abbrev pub replaced_ticks : List ℕ → ℕ → ℕ
  replaced_ticks before count = sum_to (λ line. replace_ticks (get_or before (l1_index (line_at line)) 0)) count

  module _ (count : ℕ) (before table : List ℕ) (lacking : Lacking before) (written : Written count before table) (more : count < indices_of held) where
    abbrev line : ℕ
    line = line_at count

    abbrev after : List ℕ
    after = (old_access_of true line table).table

    set_is : set_of line ≡ line
    set_is = omega arith

    entry_is : get_or table (l1_index line) 0 ≡ get_or before (l1_index line) 0
    entry_is = written.rest (l1_index line) (omega arith) (λ other less same. omega arith)

    lacks : holds_line (get_or table (l1_index line) 0) line ≡ false
    lacks = rw entry_is (lacking (l1_index line) count (omega arith) more)

    ways : ways_of line table ≡ 0 ∷ 0 ∷ 0 ∷ 0 ∷ []
    ways =
        rw set_is
        (four_ways (set_index line) table (omega (arith, written.long))
        ∙ rw (
          first,
          written.ahead count 1 (omega arith) more (omega arith),
          written.ahead count 2 (omega arith) more (omega arith),
          written.ahead count 3 (omega arith) more (omega arith),
        ) refl)
      where
        first : get_or table (set_index line) 0 ≡ 0
        first =
            let same : set_index line + 0 ≡ set_index line = omega arith in
            ap (λ index. get_or table index 0) (sym same) ∙ written.ahead count 0 (omega arith) more (omega arith)

    look : lookup_at true line table ≡ lookup_l2 true line (get_or before (l1_index line) 0) (0 ∷ 0 ∷ 0 ∷ 0 ∷ [])
    look = look_lacked true line table lacks ∙ rw (entry_is, ways) refl

    none : has (clean_entry line) (0 ∷ 0 ∷ 0 ∷ 0 ∷ []) ≡ false
    unfolding has
    none = rw (ne_eqb 0 (clean_entry line) (λ same. omega arith)) refl

    pub write_ticks : (old_access_of true line table).ticks ≡ miss_ticks + replace_ticks (get_or before (l1_index line) 0)
    unfolding old_access_of seek_of lookup_l2
    write_ticks = rw (look, none) refl

    write_entry : get_or after (l1_index line) 0 ≡ dirty_entry line
    unfolding lookup_l2
    write_entry = access_entry true line table written.long ∙ rw look refl

    -- a number that is neither this line's L1 number nor one of its set
    write_other : (index : ℕ) → (index ≡ l1_index line → ⊥) → (set_index line ≤ index → index < set_index line + ways_per_set → ⊥)
        → get_or after index 0 ≡ get_or table index 0
    write_other index not_entry not-way =
        access_other true line table written.long index not_entry (λ inside. not-way (omega (arith, set_is)) (omega (arith, set_is)))

    pub write_more : Written (suc count) before after
    write_more =
        record {
          long = sought_length true line table ∙ written.long;
          done = λ other less. go other less (ℕ_discrete other count);
          ahead = λ other way past less below.
              write_other (set_index (line_at other) + way) (λ same. omega arith) (λ from to. omega arith)
              ∙ written.ahead other way (omega arith) less below;
          rest = λ index below differs.
              write_other index (λ same. differs count (omega arith) same) (λ from to. omega arith)
              ∙ written.rest index below (λ other less. differs other (omega arith));
          kernel = λ index below.
              write_other (kernel_index + index) (λ same. omega arith) (λ from to. omega arith) ∙ written.kernel index below;
        }
      where
        go : (other : ℕ) → other < suc count → Dec (other ≡ count) → get_or after (l1_index (line_at other)) 0 ≡ dirty_entry (line_at other)
        go other less (yes same) = rw same write_entry
        go other less (no differs) =
            write_other (l1_index (line_at other)) (λ same. omega arith) (λ from to. omega arith) ∙ written.done other (omega arith)

  -- ---- all of them

  -- where nothing is dirty before but, if that, the index of the boxes' lines, one write at most replaces a dirty line
  pub all_replaced : (before : List ℕ) (dirtied : Bool)
      → ((index : ℕ) → index < l1_length → is_dirty (get_or before index 0) ≡ (dirtied && eqb index boxes_index))
      → 1 ≤ held
      → replaced_ticks before (indices_of held) ≡ cond (dirtied && meets lowest held) dirty_ticks 0
  all_replaced before true dirty some =
      sum_same (λ line. replace_ticks (get_or before (l1_index (line_at line)) 0)) (λ line. dirty_ticks * boxed line) (indices_of held)
      (λ line below. rw (dirty (l1_index (line_at line)) (omega arith)) (times (eqb (l1_index (line_at line)) boxes_index)))
      ∙ sum_times boxed (indices_of held)
      ∙ ap (λ n. dirty_ticks * n) (written_count lowest held (omega arith) (omega arith))
      ∙ sym (times (meets lowest held))
    where
      boxed : ℕ → ℕ
      boxed line = cond (eqb (l1_index (line_at line)) boxes_index) 1 0

      times : (test : Bool) → cond test dirty_ticks 0 ≡ dirty_ticks * cond test 1 0
      times true = refl
      times false = refl
  all_replaced before false dirty some =
      sum_same (λ line. replace_ticks (get_or before (l1_index (line_at line)) 0)) (λ line. dirty_ticks * 0) (indices_of held)
      (λ line below. rw (dirty (l1_index (line_at line)) (omega arith)) refl)
      ∙ sum_times (λ line. 0) (indices_of held)
      ∙ ap (λ n. dirty_ticks * n) (none (indices_of held))
    where
      none : (count : ℕ) → sum_to (λ line. 0) count ≡ 0
      none count = omega (arith, sum_most (λ line. 0) 0 count (λ line below. omega arith))

  -- once all are written, every own index is dirty, by the line that has it
  pub record OwnDirty (index : ℕ) (table : List ℕ) : Type 0 where
    pub line : ℕ
    pub small : line < indices_of held
    pub has : get_or table index 0 ≡ dirty_entry (line_at line)

  pub own_dirty : (before table : List ℕ) → Written (indices_of held) before table → (index : ℕ) → index < l1_length
      → own_index lowest held index ≡ true → OwnDirty index table
  own_dirty before table written index below own =
      let number = (index + (set_count - sets_per_colour * lowest)) % l1_length in
      let few : number < indices_of held = ltb-true _ _ own in
      let same : l1_index (line_at number) ≡ index = omega arith in
      record { line = number; small = few; has = ap (λ i. get_or table i 0) (sym same) ∙ written.done number few }
