-- What an access of a line leaves of a cache table: its L1 numbers, and sound sets. Assumes nothing.
use Rattle.std.specs.Prelude.{Option, Some, None}
use Prim.Native.Nat.{ℕ, ◌+◌, ◌≤◌, ◌<◌}
use mathlib.Core.Bool.{Bool, true, false, cond, ◌||◌}
use mathlib.Core.List.{List}
use mathlib.Core.Path.{◌≡◌, refl, sym, subst, ◌∙◌}
use native.Mathlib.Omega.{arith}
use lib.Dec.{eqb, ltb}
use lib.ListN.{get_or, length}
use lib.Seq.{get_or-set_same}
use borrow.Author.Tests.{eqb-false, eqb-true, ltb-false, ltb-true}
use Rattle.lists.specs.Part.{part, splice}
use Rattle.lists.proofs.Parts.{part_length, part_same, part_splice, part_stored_before, splice_after, splice_before}
use Rattle.lists.proofs.Parts.{splice_length}
use Rattle.cache.specs.Access.{access_of, lookup_at, lookup_l1, lookup_l2, lookup_of, seek_of, write_back_at, written_back}
use Rattle.cache.specs.Lines.{clean_entry, dirty_entry, holds_line, l1_index, l1_length, most_line, set_count, set_index, set_of}
use Rattle.cache.specs.Lines.{table_length, ways_per_set}
use Rattle.cache.specs.Sets.{move_to_front}
use Rattle.cache.proofs.Laws.{lookup_ways}
use Rattle.cache.proofs.WriteBacks.{used_ways, written_l1, written_length}
use Rattle.state.specs.TableValidity.{set_valid, ways_valid}
use Rattle.reachable.proofs.Cells.{cell_holds}
use Rattle.reachable.proofs.Ways.{moved_valid}

-- ---- a look

module _ (writes : Bool) (line entry : ℕ) (ways : List ℕ) where
  -- the set is left as it was, or with the line used
  look_ways : (Holds : List ℕ → Type 0) → Holds ways → Holds (move_to_front (clean_entry line) ways)
      → Holds (lookup_of writes line entry ways).ways
  unfolding lookup_of lookup_l1 lookup_l2
  look_ways Holds kept moved = go (holds_line entry line)
    where
      go : (holds : Bool) → Holds (cond holds (lookup_l1 writes line entry ways) (lookup_l2 writes line entry ways)).ways
      go true = kept
      go false = moved

  -- a number that holds a line is the line's, clean or dirty
  held : (Holds : ℕ → Type 0) → Holds (clean_entry line) → Holds (dirty_entry line) → holds_line entry line ≡ true
      → Holds entry
  held Holds clean dirty holds = go (eqb entry (clean_entry line)) refl holds
    where
      go : (is-clean : Bool) → eqb entry (clean_entry line) ≡ is-clean → (is-clean || eqb entry (dirty_entry line)) ≡ true
          → Holds entry
      go true test rest = subst Holds (sym (eqb-true entry (clean_entry line) test)) clean
      go false test rest = subst Holds (sym (eqb-true entry (dirty_entry line) rest)) dirty

  -- the L1 number that is left is the line's, clean or dirty
  pub look_entry : (Holds : ℕ → Type 0) → Holds (clean_entry line) → Holds (dirty_entry line)
      → Holds (lookup_of writes line entry ways).entry
  unfolding lookup_of lookup_l1 lookup_l2
  look_entry Holds clean dirty = go (holds_line entry line) refl
    where
      choice : (other : ℕ) → Holds other → (writing : Bool) → Holds (cond writing (dirty_entry line) other)
      choice other here true = dirty
      choice other here false = here

      go : (holds : Bool) → holds_line entry line ≡ holds
          → Holds (cond holds (lookup_l1 writes line entry ways) (lookup_l2 writes line entry ways)).entry
      go true test = choice entry (held Holds clean dirty test) writes
      go false test = choice (clean_entry line) clean writes

-- ---- a set rewritten

-- every other set of the table stays
other_set : (rewritten : ℕ) (ways table : List ℕ) → length table ≡ table_length → length ways ≡ ways_per_set
    → (set : ℕ) → rewritten < set_count → set < set_count → (set ≡ rewritten → ⊥)
    → part (set_index set) ways_per_set (splice (set_index rewritten) ways_per_set ways table) ≡ part (set_index set) ways_per_set table
other_set rewritten ways table long many set there below differs =
    part_same (set_index set) ways_per_set (splice (set_index rewritten) ways_per_set ways table) table
    (omega (arith, written_long)) (omega arith)
    (λ cell inside. go cell inside (ltb set rewritten) refl)
  where
    written_long : length (splice (set_index rewritten) ways_per_set ways table) ≡ length table
    written_long =
        splice_length (set_index rewritten) ways_per_set ways table
        (many ∙ sym (part_length (set_index rewritten) ways_per_set table (omega arith)))

    go : (cell : ℕ) → cell < ways_per_set → (earlier : Bool) → ltb set rewritten ≡ earlier
        → get_or (splice (set_index rewritten) ways_per_set ways table) (set_index set + cell) 0
        ≡ get_or table (set_index set + cell) 0
    go cell inside true test =
        let less = ltb-true set rewritten test in
        splice_before (set_index rewritten) ways_per_set ways table (omega arith) (set_index set + cell) (omega arith)
    go cell inside false test =
        let more = ltb-false set rewritten test in
        splice_after (set_index rewritten) ways_per_set ways table (omega arith) (set_index set + cell) many (omega arith)

-- ---- a line sought in a whole table

module _ (writes : Bool) (line : ℕ) (back : Option ℕ) (table : List ℕ) (long : length table ≡ table_length) where
  -- the set's ways before it is sought, and after
  abbrev ways_before : List ℕ
  ways_before = part (set_index (set_of line)) ways_per_set table

  abbrev ways_after : List ℕ
  ways_after = (lookup_at writes line table).ways

  -- the table with that set rewritten
  abbrev set_written : List ℕ
  set_written = splice (set_index (set_of line)) ways_per_set ways_after table

  ways_length : length ways_after ≡ ways_per_set
  ways_length = lookup_ways writes line table long

  set_begins : set_index (set_of line) ≤ length table
  set_begins = omega arith

  -- an L1 number is as it was, or, at the line's index, the line's, clean or dirty
  pub seek_index : (Holds : ℕ → Type 0) (index : ℕ) → index < l1_length
      → Holds (get_or table index 0)
      → (index ≡ l1_index line → Holds (clean_entry line) × Holds (dirty_entry line))
      → Holds (get_or (seek_of writes line back table).table index 0)
  unfolding seek_of lookup_at
  seek_index Holds index below kept written =
      let before = splice_before (set_index (set_of line)) ways_per_set ways_after table set_begins index (omega arith) in
      cell_holds Holds set_written (l1_index line) index (lookup_at writes line table).entry
      (subst Holds (sym before) kept)
      (λ same. look_entry writes line _ ways_before Holds (written same).0 (written same).1)

  -- at the line's index it is as the look leaves it
  pub seek_entry : get_or (seek_of writes line back table).table (l1_index line) 0 ≡ (lookup_at writes line table).entry
  unfolding seek_of
  seek_entry =
      let fits : length set_written ≡ length table =
      splice_length (set_index (set_of line)) ways_per_set ways_after table
      (ways_length ∙ sym (part_length (set_index (set_of line)) ways_per_set table (omega arith))) in
      get_or-set_same set_written (l1_index line) _ 0 (omega arith)

  -- the line's set is as the look leaves it
  pub seek_here : part (set_index (set_of line)) ways_per_set (seek_of writes line back table).table ≡ ways_after
  unfolding seek_of
  seek_here =
      part_stored_before (set_index (set_of line)) ways_per_set set_written (l1_index line)
      (lookup_at writes line table).entry (omega arith)
      ∙ part_splice (set_index (set_of line)) ways_per_set ways_after table set_begins ways_length

  -- every other set is as it was
  pub seek_elsewhere : (set : ℕ) → set < set_count → (set ≡ set_of line → ⊥)
      → part (set_index set) ways_per_set (seek_of writes line back table).table ≡ part (set_index set) ways_per_set table
  unfolding seek_of
  seek_elsewhere set below differs =
      part_stored_before (set_index set) ways_per_set set_written (l1_index line) (lookup_at writes line table).entry
      (omega arith)
      ∙ other_set (set_of line) ways_after table long ways_length set (omega arith) below differs

  -- sound sets stay sound
  seek_sets : line ≤ most_line → (set : ℕ) → set < set_count → set_valid table set ≡ true
      → set_valid table (set_of line) ≡ true
      → set_valid (seek_of writes line back table).table set ≡ true
  unfolding set_valid lookup_at
  seek_sets small set below sound here = go (eqb set (set_of line)) refl
    where
      go : (same : Bool) → eqb set (set_of line) ≡ same
          → ways_valid set (part (set_index set) ways_per_set (seek_of writes line back table).table) ≡ true
      go true test =
          rw (eqb-true set (set_of line) test, seek_here)
          (look_ways writes line _ ways_before (λ left. ways_valid (set_of line) left ≡ true) here
          (moved_valid line ways_before small here))
      go false test = rw (seek_elsewhere set below (eqb-false set (set_of line) test)) sound

-- ---- a line written back

-- its set is as it was, with the line in front; every other set is as it was
pub written_here : (line : ℕ) (table : List ℕ) → length table ≡ table_length
    → part (set_index (set_of line)) ways_per_set (written_back (Some line) table)
    ≡ move_to_front (clean_entry line) (part (set_index (set_of line)) ways_per_set table)
unfolding written_back
written_here line table long =
    part_splice (set_index (set_of line)) ways_per_set _ table (omega arith) (used_ways line table long)

pub written_elsewhere : (line : ℕ) (table : List ℕ) → length table ≡ table_length
    → (set : ℕ) → set < set_count → (set ≡ set_of line → ⊥)
    → part (set_index set) ways_per_set (written_back (Some line) table) ≡ part (set_index set) ways_per_set table
unfolding written_back
written_elsewhere line table long set below differs =
    other_set (set_of line) _ table long (used_ways line table long) set (omega arith) below differs

-- sound sets stay sound
pub written_sets : (back : Option ℕ) (table : List ℕ) → length table ≡ table_length
    → ((line : ℕ) → back ≡ Some line → line ≤ most_line)
    → ((set : ℕ) → set < set_count → set_valid table set ≡ true)
    → (set : ℕ) → set < set_count → set_valid (written_back back table) set ≡ true
unfolding set_valid written_back
written_sets None table long small sound set below = sound set below
written_sets (Some line) table long small sound set below = go (eqb set (set_of line)) refl
  where
    go : (same : Bool) → eqb set (set_of line) ≡ same
        → ways_valid set (part (set_index set) ways_per_set (written_back (Some line) table)) ≡ true
    go true test =
        rw (eqb-true set (set_of line) test, written_here line table long)
        (moved_valid line _ (small line refl) (sound (set_of line) (omega arith)))
    go false test = rw (written_elsewhere line table long set below (eqb-false set (set_of line) test)) (sound set below)

-- ---- an access: what it puts out is written back, and then its line is sought

module _ (writes : Bool) (line : ℕ) (table : List ℕ) (long : length table ≡ table_length) where
  -- what it puts out, and the table in which its line is sought
  abbrev out : Option ℕ
  out = write_back_at line table

  abbrev left : List ℕ
  left = written_back out table

  left_long : length left ≡ table_length
  left_long = written_length out table ∙ long

  -- an L1 number is as it was, or, at the line's index, the line's, clean or dirty
  pub access_index : (Holds : ℕ → Type 0) (index : ℕ) → index < l1_length
      → Holds (get_or table index 0)
      → (index ≡ l1_index line → Holds (clean_entry line) × Holds (dirty_entry line))
      → Holds (get_or (access_of writes line table).table index 0)
  unfolding access_of
  access_index Holds index below kept =
      seek_index writes line out left left_long Holds index below
      (subst Holds (sym (written_l1 out table long index below)) kept)

  -- sound sets stay sound
  pub access_sets : line ≤ most_line → ((other : ℕ) → out ≡ Some other → other ≤ most_line)
      → ((set : ℕ) → set < set_count → set_valid table set ≡ true)
      → (set : ℕ) → set < set_count → set_valid (access_of writes line table).table set ≡ true
  unfolding access_of
  access_sets small put_small sound set below =
      let sets = written_sets out table long put_small sound in
      seek_sets writes line out left left_long small set below (sets set below) (sets (set_of line) (omega arith))
