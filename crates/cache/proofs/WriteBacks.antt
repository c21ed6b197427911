-- What an access puts out of L1, and the table once that line is written back: L1 and the length are kept, and a line
-- that is its set's most recent already changes nothing. Assumes nothing.
use Rattle.std.specs.Prelude.{Option, Some, None}
use Prim.Native.Nat.{ℕ, ◌+◌, ◌<◌}
use mathlib.Core.Path.{◌≡◌, refl, ap, ◌∙◌}
use mathlib.Core.Bool.{Bool, true, false, cond}
use mathlib.Core.List.{List}
use native.Mathlib.Omega.{arith}
use lib.ListN.{get_or, length}
use Rattle.lists.specs.Part.{part, splice}
use Rattle.lists.proofs.Parts.{part_at, part_length, splice_before, splice_length, splice_part}
use Rattle.cache.specs.Lines.{clean_entry, holds_line, is_dirty, l1_index, l1_length, set_index, set_of, table_length}
use Rattle.cache.specs.Lines.{ways_per_set}
use Rattle.cache.specs.Sets.{move_to_front}
use Rattle.cache.specs.Access.{access_of, dirty_line, line_used, old_access_of, seek_of, write_back_at, write_back_of}
use Rattle.cache.specs.Access.{written_back}
use Rattle.cache.proofs.Ways.{front_stays, moved_length}

-- L1 holds a line where its index has the line's number
abbrev pub in_l1 : ℕ → List ℕ → Bool
in_l1 line table = holds_line (get_or table (l1_index line) 0) line

-- the ways of a line's set
abbrev pub ways_of : ℕ → List ℕ → List ℕ
ways_of line table = part (set_index (set_of line)) ways_per_set table

-- ---- what is put out

module _ (line : ℕ) (table : List ℕ) where
  -- a line that L1 holds puts none out
  pub back_held : in_l1 line table ≡ true → write_back_at line table ≡ None
  unfolding write_back_at
  back_held held = rw held refl

  -- one that it lacks puts out what stands at its index, if that is dirty
  pub back_lacked : in_l1 line table ≡ false → write_back_at line table ≡ write_back_of (get_or table (l1_index line) 0)
  unfolding write_back_at
  back_lacked lacked = rw lacked refl

-- it depends on that number alone
pub back_alike : (line : ℕ) (one other : List ℕ) → get_or one (l1_index line) 0 ≡ get_or other (l1_index line) 0
    → write_back_at line one ≡ write_back_at line other
unfolding write_back_at
back_alike line one other same =
    ap (λ (entry : ℕ). cond (holds_line entry line) None (write_back_of entry)) same

-- nothing is no line, and a line is one line
pub nothing_is_none : (line : ℕ) → None ≡ Some line → ⊥
nothing_is_none line same = let wrong : ◌≡◌ {A = ℕ} 0 1 = cc in omega arith

pub line_is : (one other : ℕ) → Some one ≡ Some other → one ≡ other
line_is one other same = cc

-- what is put out was dirty, at the index of the line asked for
pub back_dirty : (line other : ℕ) (table : List ℕ) → write_back_at line table ≡ Some other
    → (is_dirty (get_or table (l1_index line) 0) ≡ true) × (dirty_line (get_or table (l1_index line) 0) ≡ other)
unfolding write_back_at write_back_of
back_dirty line other table is = go (in_l1 line table) (is_dirty (get_or table (l1_index line) 0)) refl is
  where
    go : (held dirty : Bool) → is_dirty (get_or table (l1_index line) 0) ≡ dirty
        → cond held None (cond dirty (Some (dirty_line (get_or table (l1_index line) 0))) None) ≡ Some other
        → (is_dirty (get_or table (l1_index line) 0) ≡ true) × (dirty_line (get_or table (l1_index line) 0) ≡ other)
    go true dirty test same = absurd (nothing_is_none other same)
    go false false test same = absurd (nothing_is_none other same)
    go false true test same = (test, line_is _ other same)

-- ---- the table once it is written back

-- a line's set has as many ways once the line is in front
pub used_ways : (line : ℕ) (table : List ℕ) → length table ≡ table_length
    → length (move_to_front (clean_entry line) (ways_of line table)) ≡ ways_per_set
used_ways line table whole =
    moved_length (clean_entry line) (ways_of line table) ∙ part_length (set_index (set_of line)) ways_per_set table (omega arith)

-- the table's length is kept
pub used_length : (line : ℕ) (table : List ℕ) → length (line_used line table) ≡ length table
used_length line table =
    splice_length (set_index (set_of line)) ways_per_set (move_to_front (clean_entry line) (ways_of line table)) table
    (moved_length (clean_entry line) (ways_of line table))

pub written_length : (back : Option ℕ) (table : List ℕ) → length (written_back back table) ≡ length table
unfolding written_back
written_length None table = refl
written_length (Some line) table = used_length line table

-- L1 is as it was
pub written_l1 : (back : Option ℕ) (table : List ℕ) → length table ≡ table_length → (index : ℕ) → index < l1_length
    → get_or (written_back back table) index 0 ≡ get_or table index 0
unfolding written_back
written_l1 None table whole index below = refl
written_l1 (Some line) table whole index below =
    splice_before (set_index (set_of line)) ways_per_set (move_to_front (clean_entry line) (ways_of line table)) table (omega arith)
    index (omega arith)

-- so an access finds at its line's index what stood there before
pub written_entry : (back : Option ℕ) (line : ℕ) (table : List ℕ) → length table ≡ table_length
    → get_or (written_back back table) (l1_index line) 0 ≡ get_or table (l1_index line) 0
written_entry back line table whole = written_l1 back table whole (l1_index line) (omega arith)

-- ---- where nothing is moved

-- a line that is its set's most recent already
pub written_front : (line : ℕ) (table : List ℕ) → get_or table (set_index (set_of line)) 0 ≡ clean_entry line
    → written_back (Some line) table ≡ table
unfolding written_back
written_front line table front =
    let first = set_index (set_of line) in
    let place : first + 0 ≡ first = omega arith in
    let here : get_or (ways_of line table) 0 0 ≡ clean_entry line =
    part_at first ways_per_set 0 table (omega arith) ∙ ap (λ index. get_or table index 0) place ∙ front in
    ap (λ (ways : List ℕ). splice first ways_per_set ways table) (front_stays (clean_entry line) (ways_of line table) here)
    ∙ splice_part first ways_per_set table

-- an access whose write-back leaves the table as it was is document 01's own
pub same_access : (writes : Bool) (line : ℕ) (table : List ℕ) → written_back (write_back_at line table) table ≡ table
    → access_of writes line table ≡ old_access_of writes line table
unfolding access_of old_access_of
same_access writes line table same = ap (seek_of writes line (write_back_at line table)) same
