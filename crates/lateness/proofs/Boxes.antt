-- A write of a box's line in a window of a domain that may use the box. Assumes nothing.
use Prim.Native.Nat.{ℕ, ◌+◌, ◌≤◌, ◌<◌}
use mathlib.Core.Bool.{Bool, true, false, false≢true, ◌&&◌}
use mathlib.Core.List.{List, [], ◌∷◌}
use mathlib.Core.Path.{◌≡◌, refl, sym, ap, ◌∙◌}
use native.Mathlib.Decide.{ℕ_discrete}
use native.Mathlib.Omega.{arith}
use lib.Dec.{eqb, leb, ltb}
use lib.ListN.{get_or, length}
use borrow.Author.Tests.{eq-eqb, le-leb, lt-ltb, ne_eqb}
use Rattle.lists.specs.Part.{part}
use Rattle.lists.proofs.Tests.{both_pass, second_passes}
use Rattle.cache.specs.Access.{old_access_of, lookup_at, lookup_l1, lookup_l2, miss_ticks, replace_ticks, seek_of}
use Rattle.cache.specs.Lines.{clean_entry, dirty_entry, holds_line, is_dirty, is_valid, kernel_entries, kernel_index, l1_index, l1_length, set_index, set_of}
use Rattle.cache.specs.Lines.{table_length, ways_per_set}
use Rattle.cache.specs.Sets.{has, move_to_front}
use Rattle.cache.proofs.Outcome.{look_held, look_lacked}
use Rattle.cache.proofs.WriteBacks.{in_l1, ways_of}
use Rattle.cache.proofs.Ways.{use_lacks}
use Rattle.ops.specs.Ops.{box_line}
use Rattle.lateness.proofs.Accesses.{access_entry, access_other, access_way, four_ways, none_behind, sought_length}
use Rattle.lateness.proofs.Indices.{boxes_index, own_index}
use Rattle.lateness.proofs.Windows.{Entered, may_dirty, may_hold}

-- where the boxes' set begins among the kernel's numbers, and which of them are its own
abbrev pub boxes_set : ℕ
boxes_set = ways_per_set

abbrev pub in_boxes_set : ℕ → Bool
in_boxes_set index = leb boxes_set index && ltb index (boxes_set + ways_per_set)

module _ (sender recipient : ℕ) (table : List ℕ) (long : length table ≡ table_length) where
  abbrev line : ℕ
  line = box_line sender recipient

  abbrev pub box_after : List ℕ
  box_after = (old_access_of true (box_line sender recipient) table).table

  -- a number of L1 but the line's own
  pub box_l1 : (index : ℕ) → index < l1_length → (index ≡ boxes_index → ⊥) → get_or box_after index 0 ≡ get_or table index 0
  box_l1 index less differs = access_other true line table long index (λ same. differs (omega arith)) (λ inside. omega arith)

  -- a number of the kernel's other sets
  pub box_kernel : (index : ℕ) → in_boxes_set index ≡ false
      → get_or box_after (kernel_index + index) 0 ≡ get_or table (kernel_index + index) 0
  box_kernel index outside =
      access_other true line table long (kernel_index + index) (λ same. omega arith)
      (λ inside. false≢true (sym outside ∙ both_pass _ _ (le-leb boxes_set index (omega arith)) (lt-ltb index (boxes_set + ways_per_set) (omega arith))))

  -- ---- into an empty set

  module _ (empty : (way : ℕ) → way < ways_per_set → get_or table (kernel_index + (boxes_set + way)) 0 ≡ 0) where
    empty_way : (way : ℕ) → way < ways_per_set → get_or table (kernel_index + boxes_set + way) 0 ≡ 0
    empty_way way less =
        let same : kernel_index + boxes_set + way ≡ kernel_index + (boxes_set + way) = omega arith in
        ap (λ index. get_or table index 0) same ∙ empty way less

    begins : set_index (set_of line) ≡ kernel_index + boxes_set
    begins = omega arith

    empty_ways_lem : ways_of line table ≡ 0 ∷ 0 ∷ 0 ∷ 0 ∷ []
    empty_ways_lem =
        ap (λ first. part first ways_per_set table) begins
        ∙ four_ways (kernel_index + boxes_set) table (omega arith)
        ∙ rw (zero_first, empty_way 1 (omega arith), empty_way 2 (omega arith), empty_way 3 (omega arith)) refl
      where
        zero_first : get_or table (kernel_index + boxes_set) 0 ≡ 0
        zero_first = empty_way 0 (omega arith)

    no_entry : eqb 0 (clean_entry line) ≡ false
    no_entry = ne_eqb 0 (clean_entry line) (λ same. omega arith)

    lacks_line : has (clean_entry line) (0 ∷ 0 ∷ 0 ∷ 0 ∷ []) ≡ false
    unfolding has
    lacks_line = rw no_entry refl

    left_ways : move_to_front (clean_entry line) (0 ∷ 0 ∷ 0 ∷ 0 ∷ []) ≡ clean_entry line ∷ 0 ∷ 0 ∷ 0 ∷ []
    left_ways = sym (use_lacks (clean_entry line) 4 (0 ∷ 0 ∷ 0 ∷ 0 ∷ []) (omega arith) lacks_line).1

    -- what it takes and leaves: behind the line its set stays empty
    pub record FirstBox : Type 0 where
      pub ticks : (old_access_of true line table).ticks ≤ miss_ticks + replace_ticks (get_or table boxes_index 0)
      pub behind : (way : ℕ) → 0 < way → way < ways_per_set → get_or box_after (kernel_index + (boxes_set + way)) 0 ≡ 0

    pub first_box : FirstBox
    unfolding old_access_of seek_of lookup_l1 lookup_l2
    first_box = record { ticks = ticks; behind = behind }
      where
        entry_at : get_or table (l1_index line) 0 ≡ get_or table boxes_index 0
        entry_at = ap (λ index. get_or table index 0) (let same : l1_index line ≡ boxes_index = omega arith in same)

        ticks : (old_access_of true line table).ticks ≤ miss_ticks + replace_ticks (get_or table boxes_index 0)
        ticks = go (in_l1 line table) refl
          where
            go : (holds : Bool) → in_l1 line table ≡ holds → (old_access_of true line table).ticks ≤ miss_ticks + replace_ticks (get_or table boxes_index 0)
            go true test = rw (look_held true line table test) (omega arith)
            go false test = rw (look_lacked true line table test, empty_ways_lem, lacks_line, entry_at) (omega arith)

        look_behind : (way : ℕ) → 0 < way → get_or (lookup_at true line table).ways way 0 ≡ 0
        look_behind way some = go (in_l1 line table) refl
          where
            go : (holds : Bool) → in_l1 line table ≡ holds → get_or (lookup_at true line table).ways way 0 ≡ 0
            go true test = rw (look_held true line table test, empty_ways_lem) (none_behind 0 way some)
            go false test = rw (look_lacked true line table test, empty_ways_lem, left_ways) (none_behind (clean_entry line) way some)

        behind : (way : ℕ) → 0 < way → way < ways_per_set → get_or box_after (kernel_index + (boxes_set + way)) 0 ≡ 0
        behind way some less =
            let same : kernel_index + (boxes_set + way) ≡ set_index (set_of line) + way = omega arith in
            ap (λ index. get_or box_after index 0) same
            ∙ access_way true line table long way less
            ∙ look_behind way some

    -- where L1 lacks the line: the exact ticks, and the line in front of its set
    module _ (lacks : holds_line (get_or table boxes_index 0) line ≡ false) where
      index_is : l1_index line ≡ boxes_index
      index_is = omega arith

      missed : lookup_at true line table ≡ lookup_l2 true line (get_or table boxes_index 0) (0 ∷ 0 ∷ 0 ∷ 0 ∷ [])
      missed =
          look_lacked true line table (rw index_is lacks)
          ∙ rw (index_is, empty_ways_lem) refl

      pub missed_ticks : (old_access_of true line table).ticks ≡ miss_ticks + replace_ticks (get_or table boxes_index 0)
      unfolding old_access_of seek_of lookup_l2
      missed_ticks = rw (missed, lacks_line) refl

      pub missed_entry : get_or box_after boxes_index 0 ≡ dirty_entry line
      unfolding lookup_l2
      missed_entry =
          ap (λ index. get_or box_after index 0) (sym index_is) ∙ access_entry true line table long ∙ rw missed refl

      pub missed_front : get_or box_after (kernel_index + boxes_set) 0 ≡ clean_entry line
      unfolding lookup_l2
      missed_front =
          let same : kernel_index + boxes_set ≡ set_index (set_of line) + 0 = omega arith in
          ap (λ index. get_or box_after index 0) same
          ∙ access_way true line table long 0 (omega arith)
          ∙ rw (missed, left_ways) refl

-- an entered window of a domain with a box stays so
pub box_enters : (lowest held sender recipient : ℕ) (table : List ℕ) → Entered lowest held true table
    → Entered lowest held true (old_access_of true (box_line sender recipient) table).table
box_enters lowest held sender recipient table e =
    record {
      long = sought_length true (box_line sender recipient) table ∙ e.long;
      dirty = λ index less is. dirty index less is (ℕ_discrete index boxes_index);
      entry = box_kernel sender recipient table e.long 0 refl ∙ e.entry;
      valid = λ index less is. valid index less is (in_boxes_set index) refl;
    }
  where
    dirty : (index : ℕ) → index < l1_length → is_dirty (get_or (box_after sender recipient table e.long) index 0) ≡ true → Dec (index ≡ boxes_index)
        → may_dirty lowest held true index ≡ true
    dirty index less is (yes same) = second_passes (own_index lowest held index) (eqb index boxes_index) (eq-eqb index boxes_index same)
    dirty index less is (no differs) = e.dirty index less (rw (box_l1 sender recipient table e.long index less differs) at is)

    valid : (index : ℕ) → index < kernel_entries → is_valid (get_or (box_after sender recipient table e.long) (kernel_index + index) 0) ≡ true
        → (inside : Bool) → in_boxes_set index ≡ inside → may_hold true index ≡ true
    valid index less is true test = second_passes (eqb index 0) (in_boxes_set index) test
    valid index less is false test = e.valid index less (rw (box_kernel sender recipient table e.long index test) at is)
