-- What an access answers and leaves, from what its steps find. Assumes nothing.
use Rattle.std.specs.Prelude.{Option, Some, None}
use Prim.Native.Nat.{ℕ, ◌+◌, ◌*◌, ◌-◌, ◌%◌, ◌≤◌, ◌<◌}
use mathlib.Core.Path.{◌≡◌, refl, ap, ◌∙◌}
use mathlib.Core.Bool.{Bool, true, false, cond}
use mathlib.Core.List.{List, ◌++◌}
use native.Mathlib.Omega.{arith}
use lib.ListN.{drop, get_or, length, set, take}
use borrow.Author.Tests.{le-ltb, lt-ltb, ltb-true}
use Rattle.lists.specs.Part.{part, splice}
use Rattle.lists.proofs.Parts.{splice_part}
use Rattle.cache.specs.declared.AccessKind.{AccessKind}
use Rattle.cache.specs.declared.AccessKind.TheVariants.{Hit1, Hit2, Miss}
use Rattle.cache.specs.Lines.{clean_entry, dirty_entry, dirty_mark, entry_for, is_dirty, l1_index, set_index, set_of}
use Rattle.cache.specs.Lines.{table_length, ways_per_set}
use Rattle.cache.specs.Sets.{has, move_to_front}
use Rattle.cache.specs.Access.{access_of, dirty_line, hit1_ticks, hit2_ticks, lookup_at, lookup_l1, lookup_l2, lookup_of, miss_ticks}
use Rattle.cache.specs.Access.{line_used, replace_ticks, seek_of, write_back_of, written_back}
use Rattle.cache.proofs.WriteBacks.{back_held, back_lacked, in_l1, line_is, nothing_is_none, ways_of, written_entry}
use Rattle.cache.proofs.WriteBacks.{used_length, written_length}

module _ (writes : Bool) (line : ℕ) (table : List ℕ) where
  -- L1 holds the line
  pub look_held :
      in_l1 line table ≡ true
      → lookup_at writes line table ≡ lookup_l1 writes line (get_or table (l1_index line) 0) (ways_of line table)
  unfolding lookup_at lookup_of
  look_held held = rw held

  -- L1 lacks the line
  pub look_lacked :
      in_l1 line table ≡ false
      → lookup_at writes line table ≡ lookup_l2 writes line (get_or table (l1_index line) 0) (ways_of line table)
  unfolding lookup_at lookup_of
  look_lacked lacked = rw lacked

-- what the code does to use a line: its set, `width` ways from the index `first` on, is lent on
pub used_outcome :
    (line : ℕ) (table : List ℕ) (width : ℕ) → width ≡ ways_per_set
    → (known : Bool) (ways : List ℕ)
    → known ≡ has (clean_entry line) (take width (drop (set_index (set_of line)) table))
    → ways ≡ move_to_front (clean_entry line) (take width (drop (set_index (set_of line)) table))
    → (known ≡ has (clean_entry line) (ways_of line table))
    × (take (set_index (set_of line)) table ++ (ways ++ drop width (drop (set_index (set_of line)) table))
    ≡ line_used line table)
unfolding part splice
used_outcome line table width wide known ways knows moves = rw (knows, moves, wide) (refl, refl)

-- what it answers of an L1 number that is replaced: its line, the mark taken off, where it is dirty
pub clean_back : (held : ℕ) → held ≤ dirty_mark → None ≡ write_back_of held
unfolding write_back_of
clean_back held clean = rw (le-ltb dirty_mark held clean) refl

pub dirty_back : (held : ℕ) → dirty_mark < held → held < 2 * dirty_mark → Some ((held - 1) % dirty_mark) ≡ write_back_of held
unfolding write_back_of
dirty_back held dirty fits =
    let same : (held - 1) % dirty_mark ≡ dirty_line held = omega arith in
    rw (lt-ltb dirty_mark held dirty, same) refl

-- such a line has room for its mark
pub back_small : (held : ℕ) → held < 2 * dirty_mark → (other : ℕ) → write_back_of held ≡ Some other → other < dirty_mark
unfolding write_back_of
back_small held fits other is = go (is_dirty held) refl is
  where
    go : (dirty : Bool) → is_dirty held ≡ dirty → cond dirty (Some (dirty_line held)) None ≡ Some other → other < dirty_mark
    go true test same = omega (arith, line_is (dirty_line held) other same, ltb-true dirty_mark held test)
    go false test same = absurd (nothing_is_none other same)

-- a line that is sought leaves the table's length
pub sought_length : (line : ℕ) (back : Option ℕ) (table used : List ℕ) → used ≡ line_used line (written_back back table)
    → length used ≡ length table
sought_length line back table used uses =
    ap length uses ∙ used_length line (written_back back table) ∙ written_length back table

module _ (writes : Bool) (line : ℕ) (table : List ℕ) where
  -- what an access answers and leaves
  abbrev pub Outcome : AccessKind → ℕ → Option ℕ → List ℕ → Type 0
  Outcome found ticks back left =
      (found ≡ (access_of writes line table).found)
      × (ticks ≡ (access_of writes line table).ticks)
      × (back ≡ (access_of writes line table).back)
      × (left ≡ (access_of writes line table).table)

  -- what the code does where L1 holds the line
  pub held_outcome :
      (entry : ℕ)
      → in_l1 line table ≡ true
      → entry ≡ cond writes (dirty_entry line) (get_or table (l1_index line) 0)
      → Outcome Hit1 hit1_ticks None (set table (l1_index line) entry)
  unfolding access_of seek_of written_back lookup_l1
  held_outcome entry held is = rw (back_held line table held, look_held writes line table held, is, splice_part) (refl, refl, refl, refl)

  -- what the code does where L1 lacks the line: what stands at its index is written back if dirty, then the line is used
  module _ (whole : length table ≡ table_length) (lacked : in_l1 line table ≡ false) where
    abbrev held : ℕ
    held = get_or table (l1_index line) 0

    pub lacked_outcome :
        (known : Bool) (back : Option ℕ) (used : List ℕ) (entry late : ℕ)
        → back ≡ write_back_of held
        → known ≡ has (clean_entry line) (ways_of line (written_back back table))
        → used ≡ line_used line (written_back back table)
        → entry ≡ entry_for writes line
        → late ≡ replace_ticks held
        → Outcome (cond known Hit2 Miss) (cond known hit2_ticks miss_ticks + late) back (set used (l1_index line) entry)
    unfolding access_of seek_of written_back lookup_l2
    lacked_outcome known back used entry late backs knows uses enters lately =
        let out = write_back_of held in
        let left = written_back out table in
        let look : lookup_at writes line left ≡ lookup_l2 writes line held (ways_of line left) =
        look_lacked writes line left (rw (written_entry out line table whole) lacked)
        ∙ ap (λ number. lookup_l2 writes line number (ways_of line left)) (written_entry out line table whole) in
        rw (back_lacked line table lacked, look, lately, enters, uses, knows, backs) (refl, refl, refl, refl)
