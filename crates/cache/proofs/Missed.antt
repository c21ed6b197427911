-- An access of a line whose L1 index and whose set are empty: it misses, puts nothing out, and leaves the line in those
-- two places alone, from where it can be emptied again. On the old board it is the same. Assumes nothing.
use Rattle.std.specs.Prelude.{None}
use Prim.Native.Nat.{ℕ, suc, zero, ◌+◌, ◌-◌, ◌≤◌, ◌<◌}
use mathlib.Core.Bool.{Bool, true, false, cond}
use mathlib.Core.List.{List, [], ◌∷◌}
use mathlib.Core.Path.{◌≡◌, refl, sym, ap, ◌∙◌}
use native.Mathlib.Decide.{ℕ_discrete}
use native.Mathlib.Omega.{arith}
use lib.Dec.{ltb}
use lib.ListN.{get_or, length, length-set, set}
use lib.Seq.{ext_get_or, get_or-set_other, get_or-set_same}
use borrow.Author.Tests.{ltb-false, ltb-true, ne_eqb}
use Rattle.lists.specs.Part.{splice}
use Rattle.lists.proofs.Parts.{part_at, part_length, splice_after, splice_before, splice_length, splice_within}
use Rattle.cache.specs.Access.{AccessOutcome, Lookup, access_of, hit2_ticks, lookup_at, lookup_l2, miss_ticks, old_access_of, seek_of, write_back_at}
use Rattle.cache.specs.Access.{write_back_of, written_back}
use Rattle.cache.specs.Flush.{line_emptied}
use Rattle.cache.specs.Lines.{clean_entry, dirty_entry, entry_for, l1_index, set_index, set_of, table_length}
use Rattle.cache.specs.Lines.{ways_per_set}
use Rattle.cache.specs.Sets.{has, move_to_front}
use Rattle.cache.proofs.Outcome.{look_lacked}
use Rattle.cache.proofs.Ways.{use_lacks}
use Rattle.cache.proofs.WriteBacks.{in_l1, ways_of}

-- an empty set, and one that has a number alone
abbrev empty_ways : List ℕ
empty_ways = 0 ∷ 0 ∷ 0 ∷ 0 ∷ []

abbrev only_way : ℕ → List ℕ
only_way entry = entry ∷ 0 ∷ 0 ∷ 0 ∷ []

empty_way : (way : ℕ) → get_or empty_ways way 0 ≡ 0
empty_way zero = refl
empty_way (suc zero) = refl
empty_way (suc (suc zero)) = refl
empty_way (suc (suc (suc zero))) = refl
empty_way (suc (suc (suc (suc way)))) = refl

behind_only : (entry way : ℕ) → 0 < way → get_or (only_way entry) way 0 ≡ 0
behind_only entry zero some = absurd (omega arith)
behind_only entry (suc way) some = empty_way (suc way)

module _ (writes : Bool) (line : ℕ) (table : List ℕ) (free : get_or table (l1_index line) 0 ≡ 0) where
  -- L1 lacks the line, and nothing is put out
  lacks : in_l1 line table ≡ false
  lacks =
      rw (free, ne_eqb 0 (clean_entry line) (λ same. omega arith), ne_eqb 0 (dirty_entry line) (λ same. omega arith)) refl

  pub nothing_out : write_back_at line table ≡ None
  unfolding write_back_at write_back_of
  nothing_out = rw (lacks, free) refl

  -- so on either board the line is sought at once
  pub sought_at_once : access_of writes line table ≡ seek_of writes line None table
  unfolding access_of written_back
  sought_at_once = rw nothing_out refl

  pub missed_alike : access_of writes line table ≡ old_access_of writes line table
  unfolding old_access_of
  missed_alike = sought_at_once ∙ ap (λ back. seek_of writes line back table) (sym nothing_out)

  -- and takes no longer than a miss, whatever its set holds
  pub free_ticks : (access_of writes line table).ticks ≤ miss_ticks
  unfolding seek_of lookup_l2
  free_ticks = rw (sought_at_once, look_lacked writes line table lacks, free) (go (has (clean_entry line) (ways_of line table)))
    where
      go : (known : Bool) → cond known hit2_ticks miss_ticks + 0 ≤ miss_ticks
      go true = omega arith
      go false = omega arith

  module _ (long : length table ≡ table_length)
      (empty : (way : ℕ) → way < ways_per_set → get_or table (set_index (set_of line) + way) 0 ≡ 0) where
    abbrev front : ℕ
    front = set_index (set_of line)

    abbrev pub missed_table : List ℕ
    missed_table = (access_of writes line table).table

    ways_are : ways_of line table ≡ empty_ways
    ways_are =
        ext_get_or 0 _ _ (part_length front ways_per_set table (omega arith))
        (λ way below.
        let inside : way < ways_per_set = omega (arith, part_length front ways_per_set table (omega arith)) in
        part_at front ways_per_set way table inside ∙ empty way inside ∙ sym (empty_way way))

    lacks_line : has (clean_entry line) empty_ways ≡ false
    unfolding has
    lacks_line = rw (ne_eqb 0 (clean_entry line) (λ same. omega arith)) refl

    left_ways : move_to_front (clean_entry line) empty_ways ≡ only_way (clean_entry line)
    left_ways = sym (use_lacks (clean_entry line) 4 empty_ways (omega arith) lacks_line).1

    look : lookup_at writes line table ≡ lookup_l2 writes line 0 empty_ways
    look = look_lacked writes line table lacks ∙ rw (free, ways_are) refl

    -- it misses
    pub missed_ticks : (access_of writes line table).ticks ≡ miss_ticks
    unfolding seek_of lookup_l2
    missed_ticks = rw (sought_at_once, look, lacks_line) refl

    table_is : missed_table ≡ set (splice front ways_per_set (only_way (clean_entry line)) table) (l1_index line) (entry_for writes line)
    unfolding seek_of lookup_l2
    table_is =
        ap (λ (made : AccessOutcome). made.table) sought_at_once
        ∙ ap (λ (left : Lookup). set (splice front ways_per_set left.ways table) (l1_index line) left.entry) look
        ∙ ap (λ (ways : List ℕ). set (splice front ways_per_set ways table) (l1_index line) (entry_for writes line)) left_ways

    abbrev spliced : List ℕ
    spliced = splice front ways_per_set (only_way (clean_entry line)) table

    spliced_long : length spliced ≡ table_length
    spliced_long =
        splice_length front ways_per_set (only_way (clean_entry line)) table (sym (part_length front ways_per_set table (omega arith))) ∙ long

    pub missed_long : length missed_table ≡ table_length
    missed_long = rw table_is (simp length-set spliced_long)

    -- the line stands at its L1 index and in front of its set
    pub missed_entry : get_or missed_table (l1_index line) 0 ≡ entry_for writes line
    missed_entry = rw table_is (get_or-set_same spliced (l1_index line) (entry_for writes line) 0 (omega (arith, spliced_long)))

    pub missed_front : get_or missed_table front 0 ≡ clean_entry line
    missed_front =
        let place : front + 0 ≡ front = omega arith in
        rw table_is
        (get_or-set_other spliced (l1_index line) front (entry_for writes line) 0 (λ same. omega arith)
        ∙ rw place at (splice_within front ways_per_set (only_way (clean_entry line)) table (omega arith) 0 (omega arith)))

    -- every other number is as it was
    pub missed_others : (index : ℕ) → (index ≡ l1_index line → ⊥) → (index ≡ front → ⊥)
        → get_or missed_table index 0 ≡ get_or table index 0
    missed_others index not_entry not-front =
        rw table_is
        (get_or-set_other spliced (l1_index line) index (entry_for writes line) 0 not_entry
        ∙ go (ltb index front) refl (ltb index (front + ways_per_set)) refl)
      where
        go : (before : Bool) → ltb index front ≡ before → (within : Bool) → ltb index (front + ways_per_set) ≡ within
            → get_or spliced index 0 ≡ get_or table index 0
        go true before within test =
            splice_before front ways_per_set (only_way (clean_entry line)) table (omega arith) index (ltb-true _ _ before)
        go false before false test =
            splice_after front ways_per_set (only_way (clean_entry line)) table (omega arith) index refl (ltb-false _ _ test)
        go false before true test =
            let past : front ≤ index = ltb-false _ _ before in
            let less : index < front + ways_per_set = ltb-true _ _ test in
            let way = index - front in
            let place : front + way ≡ index = omega arith in
            rw place at
            (splice_within front ways_per_set (only_way (clean_entry line)) table (omega arith) way (omega arith)
            ∙ behind_only (clean_entry line) way (omega arith)
            ∙ sym (empty way (omega arith)))

    -- emptied again, the table is what it was
    pub missed_emptied : line_emptied line missed_table ≡ table
    unfolding line_emptied
    missed_emptied =
        ext_get_or 0 _ _ (simp length-set (missed_long ∙ sym long))
        (λ index below. go index (ℕ_discrete index front) (ℕ_discrete index (l1_index line)))
      where
        go : (index : ℕ) → Dec (index ≡ front) → Dec (index ≡ l1_index line)
            → get_or (set (set missed_table (l1_index line) 0) front 0) index 0 ≡ get_or table index 0
        go index (yes same) entry =
            let place : front + 0 ≡ front = omega arith in
            rw same
            (get_or-set_same (set missed_table (l1_index line) 0) front 0 0 (simp length-set (omega (arith, missed_long)))
            ∙ sym (rw place at (empty 0 (omega arith))))
        go index (no other) (yes same) =
            get_or-set_other (set missed_table (l1_index line) 0) front index 0 0 other
            ∙ rw same (get_or-set_same missed_table (l1_index line) 0 0 (omega (arith, missed_long)) ∙ sym free)
        go index (no other) (no differs) =
            get_or-set_other (set missed_table (l1_index line) 0) front index 0 0 other
            ∙ get_or-set_other missed_table (l1_index line) index 0 0 differs
            ∙ missed_others index differs other
