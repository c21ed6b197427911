-- A read of the kernel's entry line in a window of a domain, which every message begins with: the first of the run's first window
-- misses, and from then on, and in every other window, the line is in its set at least. Assumes nothing.
use Prim.Native.Nat.{ℕ, ◌+◌, ◌≤◌, ◌<◌}
use mathlib.Core.Bool.{Bool, true, false, false≢true, ◌&&◌}
use mathlib.Core.List.{List, [], ◌∷◌}
use mathlib.Core.Path.{◌≡◌, refl, sym, ap, subst, ◌∙◌}
use native.Mathlib.Decide.{ℕ_discrete}
use native.Mathlib.Omega.{arith}
use lib.Dec.{eqb, ltb}
use lib.ListN.{get_or, length}
use borrow.Author.Tests.{eq-eqb, lt-leb, ltb-false, ltb-true, ne_eqb}
use Rattle.lists.proofs.Agree.{InRange}
use Rattle.lists.proofs.Parts.{part_at}
use Rattle.lists.proofs.Tests.{first_passes}
use Rattle.cache.specs.Access.{dirty_ticks, old_access_of, hit2_ticks, lookup_at, lookup_l1, lookup_l2, miss_ticks, replace_ticks, seek_of}
use Rattle.cache.specs.Lines.{holds_line, is_dirty, is_valid, kernel_entries, kernel_index, l1_length, table_length, ways_per_set}
use Rattle.cache.specs.Sets.{has, move_to_front, without}
use Rattle.cache.proofs.Outcome.{look_held, look_lacked}
use Rattle.cache.proofs.WriteBacks.{in_l1, ways_of}
use Rattle.ops.specs.Ops.{kernel_entry_line}
use Rattle.lateness.proofs.Accesses.{access_entry, access_other, access_way, four_ways, none_behind, replaced_most, sought_length}
use Rattle.lateness.proofs.Indices.{boxes_index, entry_index}
use Rattle.lateness.proofs.Windows.{Entered, Quiet, entry_number, may_hold}

abbrev pub entry_after : List ℕ → List ℕ
entry_after table = (old_access_of false kernel_entry_line table).table

-- the entry line's set where it holds that line alone
abbrev entry_ways : List ℕ
entry_ways = entry_number ∷ 0 ∷ 0 ∷ 0 ∷ []

module _ (table : List ℕ) (long : length table ≡ table_length) where
  entry_other : (index : ℕ) → (index ≡ entry_index → ⊥) → (InRange kernel_index ways_per_set index → ⊥)
      → get_or (entry_after table) index 0 ≡ get_or table index 0
  entry_other = access_other false kernel_entry_line table long

  -- a number of L1 but the line's own
  pub entry_l1 : (index : ℕ) → index < l1_length → (index ≡ entry_index → ⊥) → get_or (entry_after table) index 0 ≡ get_or table index 0
  entry_l1 index less differs = entry_other index differs (λ inside. omega arith)

  -- a number of the kernel's other sets
  entry_far : (index : ℕ) → ways_per_set ≤ index → get_or (entry_after table) (kernel_index + index) 0 ≡ get_or table (kernel_index + index) 0
  entry_far index past = entry_other (kernel_index + index) (λ same. omega arith) (λ inside. omega arith)

  -- a number of the line's set, by what the lookup leaves
  entry_near : (lookup_at false kernel_entry_line table).ways ≡ entry_ways → (index : ℕ) → index < ways_per_set
      → get_or (entry_after table) (kernel_index + index) 0 ≡ get_or entry_ways index 0
  entry_near left index less = access_way false kernel_entry_line table long index less ∙ ap (λ (ways : List ℕ). get_or ways index 0) left

  -- ---- the first of the run's first window

  pub record FirstEntry : Type 0 where
    pub ticks : (old_access_of false kernel_entry_line table).ticks ≡ miss_ticks + replace_ticks (get_or table entry_index 0)
    pub clean : get_or (entry_after table) entry_index 0 ≡ entry_number
    pub front : get_or (entry_after table) kernel_index 0 ≡ entry_number
    pub behind : (index : ℕ) → 0 < index → index < kernel_entries → get_or (entry_after table) (kernel_index + index) 0 ≡ 0

  module _ (lacks : holds_line (get_or table entry_index 0) kernel_entry_line ≡ false)
      (empty : (index : ℕ) → index < kernel_entries → get_or table (kernel_index + index) 0 ≡ 0) where
    empty_ways_lem : ways_of kernel_entry_line table ≡ 0 ∷ 0 ∷ 0 ∷ 0 ∷ []
    empty_ways_lem =
        four_ways kernel_index table (omega arith)
        ∙ rw (empty 0 (omega arith), empty 1 (omega arith), empty 2 (omega arith), empty 3 (omega arith)) refl

    first_look : lookup_at false kernel_entry_line table ≡ lookup_l2 false kernel_entry_line (get_or table entry_index 0) (0 ∷ 0 ∷ 0 ∷ 0 ∷ [])
    first_look = look_lacked false kernel_entry_line table lacks ∙ ap (lookup_l2 false kernel_entry_line (get_or table entry_index 0)) empty_ways_lem

    first_left : (lookup_at false kernel_entry_line table).ways ≡ entry_ways
    unfolding lookup_l2 move_to_front without
    first_left = rw first_look refl

    first_clean : get_or (entry_after table) entry_index 0 ≡ entry_number
    unfolding lookup_l2
    first_clean = access_entry false kernel_entry_line table long ∙ rw first_look refl

    first_ticks : (old_access_of false kernel_entry_line table).ticks ≡ miss_ticks + replace_ticks (get_or table entry_index 0)
    unfolding old_access_of seek_of lookup_l2 has
    first_ticks = rw first_look refl

    first_behind : (index : ℕ) → 0 < index → index < kernel_entries → (near : Bool) → ltb index ways_per_set ≡ near
        → get_or (entry_after table) (kernel_index + index) 0 ≡ 0
    first_behind index some less true test =
        let near = ltb-true index ways_per_set test in
        entry_near first_left index near ∙ none_behind entry_number index some
    first_behind index some less false test = entry_far index (ltb-false index ways_per_set test) ∙ empty index less

    pub first_entry : FirstEntry
    first_entry =
        record {
          ticks = first_ticks;
          clean = first_clean;
          front = entry_near first_left 0 (omega arith);
          behind = λ index some less. first_behind index some less (ltb index ways_per_set) refl;
        }

module _ (lowest held : ℕ) (box : Bool) (table : List ℕ) where
  -- a window that was quiet is entered by it
  module _ (q : Quiet lowest held box table) where
    pub quiet_entry : FirstEntry table q.long
    quiet_entry = first_entry table q.long q.lacks q.empty

    -- and what is dirty is at one of the domain's own indices still, the entry line's left out
    pub quiet_dirty : (index : ℕ) → index < l1_length → is_dirty (get_or (entry_after table) index 0) ≡ true
        → (index ≡ entry_index → ⊥) × (is_dirty (get_or table index 0) ≡ true)
    quiet_dirty index less is = go (ℕ_discrete index entry_index)
      where
        go : Dec (index ≡ entry_index) → (index ≡ entry_index → ⊥) × (is_dirty (get_or table index 0) ≡ true)
        go (yes same) =
            absurd (false≢true (rw (ap (λ i. get_or (entry_after table) i 0) same ∙ quiet_entry.clean) at is))
        go (no differs) = (differs, rw (entry_l1 table q.long index less differs) at is)

    pub quiet_enters : Entered lowest held box (entry_after table)
    quiet_enters =
        record {
          long = sought_length false kernel_entry_line table ∙ q.long;
          dirty = λ index less is.
              first_passes _ (box && eqb index boxes_index) (q.dirty index less (quiet_dirty index less is).1);
          entry = quiet_entry.front;
          valid = λ index less is. go index less is (ℕ_discrete index 0);
        }
      where
        go : (index : ℕ) → index < kernel_entries → is_valid (get_or (entry_after table) (kernel_index + index) 0) ≡ true
            → Dec (index ≡ 0) → may_hold box index ≡ true
        go index less is (yes same) = first_passes _ _ (eq-eqb index 0 same)
        go index less is (no differs) = absurd (false≢true (rw (quiet_entry.behind index (omega arith) less) at is))

  -- ---- a later one

  module _ (e : Entered lowest held box table) where
    -- behind the entry line its set is empty
    empty_behind : (index : ℕ) → 0 < index → index < ways_per_set → get_or table (kernel_index + index) 0 ≡ 0
    empty_behind index some less = go (is_valid (get_or table (kernel_index + index) 0)) refl
      where
        nowhere : (b : Bool) → (b && false) ≡ false
        nowhere true = refl
        nowhere false = refl

        may_not : may_hold box index ≡ false
        may_not = rw (ne_eqb index 0 (λ same. omega arith), lt-leb ways_per_set index less) (nowhere box)

        go : (is : Bool) → is_valid (get_or table (kernel_index + index) 0) ≡ is → get_or table (kernel_index + index) 0 ≡ 0
        go true test = absurd (false≢true (sym may_not ∙ e.valid index (omega arith) test))
        go false test = omega (arith, ltb-false 0 (get_or table (kernel_index + index) 0) test)

    found_ways : ways_of kernel_entry_line table ≡ entry_ways
    found_ways =
        four_ways kernel_index table (omega (arith, e.long))
        ∙ rw (
          e.entry,
          empty_behind 1 (omega arith) (omega arith),
          empty_behind 2 (omega arith) (omega arith),
          empty_behind 3 (omega arith) (omega arith),
        ) refl

    held_look : in_l1 kernel_entry_line table ≡ true
        → lookup_at false kernel_entry_line table ≡ lookup_l1 false kernel_entry_line (get_or table entry_index 0) entry_ways
    held_look holds = look_held false kernel_entry_line table holds ∙ ap (lookup_l1 false kernel_entry_line (get_or table entry_index 0)) found_ways

    lacked_look : in_l1 kernel_entry_line table ≡ false
        → lookup_at false kernel_entry_line table ≡ lookup_l2 false kernel_entry_line (get_or table entry_index 0) entry_ways
    lacked_look lacks = look_lacked false kernel_entry_line table lacks ∙ ap (lookup_l2 false kernel_entry_line (get_or table entry_index 0)) found_ways

    -- it takes no longer than to find the line in its set, and leaves the set as it was
    pub record LaterEntry : Type 0 where
      pub ticks : (old_access_of false kernel_entry_line table).ticks ≤ hit2_ticks + dirty_ticks
      pub left : (lookup_at false kernel_entry_line table).ways ≡ entry_ways
      pub dirty : is_dirty (lookup_at false kernel_entry_line table).entry ≡ true → is_dirty (get_or table entry_index 0) ≡ true

    later_entry : LaterEntry
    unfolding old_access_of seek_of lookup_l1 lookup_l2 has move_to_front without
    later_entry = go (in_l1 kernel_entry_line table) refl
      where
        go : (holds : Bool) → in_l1 kernel_entry_line table ≡ holds → LaterEntry
        go true test =
            let look = held_look test in
            record { ticks = rw look (omega arith); left = rw look refl; dirty = λ is. rw look at is }
        go false test =
            let look = lacked_look test in
            record {
              ticks = rw look (omega (arith, replaced_most (get_or table entry_index 0)));
              left = rw look refl;
              dirty = λ is. absurd (false≢true (rw look at is));
            }

    pub later_ticks : (old_access_of false kernel_entry_line table).ticks ≤ hit2_ticks + dirty_ticks
    later_ticks = later_entry.ticks

    -- no number of the kernel's sets changes
    kernel_same : (index : ℕ) → (near : Bool) → ltb index ways_per_set ≡ near
        → get_or (entry_after table) (kernel_index + index) 0 ≡ get_or table (kernel_index + index) 0
    kernel_same index true test =
        let near = ltb-true index ways_per_set test in
        entry_near table e.long later_entry.left index near
        ∙ sym (ap (λ (ways : List ℕ). get_or ways index 0) found_ways)
        ∙ part_at kernel_index ways_per_set index table near
    kernel_same index false test = entry_far table e.long index (ltb-false index ways_per_set test)

    dirty_before : (index : ℕ) → index < l1_length → Dec (index ≡ entry_index) → is_dirty (get_or (entry_after table) index 0) ≡ true
        → is_dirty (get_or table index 0) ≡ true
    dirty_before index less (yes same) is =
        subst (λ i. is_dirty (get_or table i 0) ≡ true) (sym same)
        (later_entry.dirty
        (rw (access_entry false kernel_entry_line table e.long) at (subst (λ i. is_dirty (get_or (entry_after table) i 0) ≡ true) same is)))
    dirty_before index less (no differs) is = rw (entry_l1 table e.long index less differs) at is

    pub later_enters : Entered lowest held box (entry_after table)
    later_enters =
        record {
          long = sought_length false kernel_entry_line table ∙ e.long;
          dirty = λ index less is. e.dirty index less (dirty_before index less (ℕ_discrete index entry_index) is);
          entry = kernel_same 0 true refl ∙ e.entry;
          valid = λ index less is. e.valid index less (rw (kernel_same index (ltb index ways_per_set) refl) at is);
        }
