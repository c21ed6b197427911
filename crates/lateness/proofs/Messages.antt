-- The two accesses of a message in a window that has the entry line in L1: that line is found there, and nothing changes; and a box's
-- line, where it is new to L1 and to its set, misses and goes in front of the set. Assumes nothing.
use Prim.Native.Nat.{ℕ, zero, suc, ◌+◌, ◌≤◌, ◌<◌}
use mathlib.Core.Bool.{true, false}
use mathlib.Core.List.{List, [], ◌∷◌}
use mathlib.Core.Path.{◌≡◌, refl, sym, ap, ◌∙◌}
use native.Mathlib.Decide.{ℕ_discrete}
use native.Mathlib.Omega.{arith}
use lib.Dec.{eqb}
use lib.ListN.{get_or, length, length-set, set}
use lib.Seq.{ext_get_or, get_or-set_other, get_or-set_same}
use borrow.Author.Tests.{ne_eqb}
use Rattle.lists.specs.Part.{part}
use Rattle.lists.proofs.Parts.{splice_part}
use Rattle.cache.specs.Access.{hit1_ticks, old_access_of, lookup_at, lookup_l1, lookup_l2, miss_ticks, replace_ticks, seek_of}
use Rattle.cache.specs.Lines.{clean_entry, dirty_entry, holds_line, kernel_index, l1_index, set_index, set_of, table_length, ways_per_set}
use Rattle.cache.specs.Sets.{has, move_to_front}
use Rattle.cache.proofs.Outcome.{look_held, look_lacked}
use Rattle.cache.proofs.Ways.{use_lacks}
use Rattle.cache.proofs.WriteBacks.{ways_of}
use Rattle.ops.specs.Ops.{box_line, kernel_entry_line}
use Rattle.lateness.proofs.Accesses.{access_entry, access_other, access_way, four_ways}
use Rattle.lateness.proofs.Boxes.{boxes_set}
use Rattle.lateness.proofs.Entries.{entry_after}
use Rattle.lateness.proofs.Indices.{boxes_index, entry_index}
use Rattle.lateness.proofs.Usable.{box_way}
use Rattle.lateness.proofs.Windows.{entry_number}

-- ---- the entry line, found in L1

-- a number stored where it stands changes nothing
set_itself : (table : List ℕ) (index : ℕ) → index < length table → set table index (get_or table index 0) ≡ table
set_itself table index below =
    ext_get_or 0 (set table index (get_or table index 0)) table (length-set table index (get_or table index 0))
    (λ other within. go other (ℕ_discrete other index))
  where
    go : (other : ℕ) → Dec (other ≡ index) → get_or (set table index (get_or table index 0)) other 0 ≡ get_or table other 0
    go other (yes same) = rw same (get_or-set_same table index (get_or table index 0) 0 below)
    go other (no differs) = get_or-set_other table index other (get_or table index 0) 0 differs

module _ (table : List ℕ) (long : length table ≡ table_length) (entry : get_or table entry_index 0 ≡ entry_number) where
  entry_held : lookup_at false kernel_entry_line table ≡ lookup_l1 false kernel_entry_line (get_or table entry_index 0) (ways_of kernel_entry_line table)
  entry_held = look_held false kernel_entry_line table (rw entry refl)

  pub held_ticks : (old_access_of false kernel_entry_line table).ticks ≡ hit1_ticks
  unfolding old_access_of seek_of lookup_l1
  held_ticks = rw entry_held refl

  pub held_same : entry_after table ≡ table
  unfolding old_access_of seek_of lookup_l1
  held_same = rw (entry_held, splice_part) (set_itself table entry_index (omega arith))

-- ---- a box's line, new to L1 and to its set

module _ (sender recipient : ℕ) (table : List ℕ) (long : length table ≡ table_length)
    (lacks : holds_line (get_or table boxes_index 0) (box_line sender recipient) ≡ false)
    (new : (way : ℕ) → way < ways_per_set → box_way table way ≡ clean_entry (box_line sender recipient) → ⊥) where
  abbrev line : ℕ
  line = box_line sender recipient

  abbrev left : List ℕ
  left = (old_access_of true line table).table

  abbrev way_number : ℕ → ℕ
  way_number way = get_or table (kernel_index + boxes_set + way) 0

  way_new : (way : ℕ) → way < ways_per_set → eqb (way_number way) (clean_entry line) ≡ false
  way_new way less =
      let same : kernel_index + (boxes_set + way) ≡ kernel_index + boxes_set + way = omega arith in
      ne_eqb (way_number way) (clean_entry line) (λ is. new way less (ap (λ index. get_or table index 0) same ∙ is))

  abbrev ways : List ℕ
  ways = get_or table (kernel_index + boxes_set) 0 ∷ way_number 1 ∷ way_number 2 ∷ way_number 3 ∷ []

  ways_are : ways_of line table ≡ ways
  ways_are =
      let begins : set_index (set_of line) ≡ kernel_index + boxes_set = omega arith in
      ap (λ first. part first ways_per_set table) begins ∙ four_ways (kernel_index + boxes_set) table (omega arith)

  lacks_line : has (clean_entry line) ways ≡ false
  unfolding has
  lacks_line =
      let first : eqb (get_or table (kernel_index + boxes_set) 0) (clean_entry line) ≡ false = way_new 0 (omega arith) in
      rw (first, way_new 1 (omega arith), way_new 2 (omega arith), way_new 3 (omega arith)) refl

  ways_left : move_to_front (clean_entry line) ways
      ≡ clean_entry line ∷ get_or table (kernel_index + boxes_set) 0 ∷ way_number 1 ∷ way_number 2 ∷ []
  ways_left = sym (use_lacks (clean_entry line) 4 ways (omega arith) lacks_line).1

  index_is : l1_index line ≡ boxes_index
  index_is = omega arith

  look : lookup_at true line table ≡ lookup_l2 true line (get_or table boxes_index 0) ways
  look = look_lacked true line table (rw index_is lacks) ∙ rw (index_is, ways_are) refl

  pub new_ticks : (old_access_of true line table).ticks ≡ miss_ticks + replace_ticks (get_or table boxes_index 0)
  unfolding old_access_of seek_of lookup_l2
  new_ticks = rw (look, lacks_line) refl

  pub new_entry : get_or left boxes_index 0 ≡ dirty_entry line
  unfolding lookup_l2
  new_entry = ap (λ index. get_or left index 0) (sym index_is) ∙ access_entry true line table long ∙ rw look refl

  way_left : (way : ℕ) → way < ways_per_set
      → box_way left way ≡ get_or (clean_entry line ∷ get_or table (kernel_index + boxes_set) 0 ∷ way_number 1 ∷ way_number 2 ∷ []) way 0
  unfolding lookup_l2
  way_left way less =
      let same : kernel_index + (boxes_set + way) ≡ set_index (set_of line) + way = omega arith in
      let after : (lookup_at true line table).ways ≡ clean_entry line ∷ get_or table (kernel_index + boxes_set) 0 ∷ way_number 1 ∷ way_number 2 ∷ [] =
      rw look ways_left in
      ap (λ index. get_or left index 0) same
      ∙ access_way true line table long way less
      ∙ ap (λ (ways : List ℕ). get_or ways way 0) after

  pub new_front : box_way left 0 ≡ clean_entry line
  new_front = way_left 0 (omega arith)

  -- the other ways move on by one
  pub new_behind : (way : ℕ) → suc way < ways_per_set → box_way left (suc way) ≡ box_way table way
  new_behind zero less = way_left 1 (omega arith)
  new_behind (suc zero) less = way_left 2 (omega arith)
  new_behind (suc (suc zero)) less = way_left 3 (omega arith)
  new_behind (suc (suc (suc way))) less = absurd (omega arith)

  -- any number but these
  pub new_other : (index : ℕ) → (index ≡ boxes_index → ⊥) → (kernel_index + boxes_set ≤ index → index < kernel_index + boxes_set + ways_per_set → ⊥)
      → get_or left index 0 ≡ get_or table index 0
  new_other index not_entry not-way =
      access_other true line table long index (λ same. not_entry (same ∙ index_is)) (λ inside. not-way (omega arith) (omega arith))
