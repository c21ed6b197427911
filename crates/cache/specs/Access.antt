-- Document 01, "What an op costs", and document 02, E7: an *access*. Assumes nothing.
use Rattle.std.specs.Prelude.{ℕ, ◌+◌, ◌-◌, Bool, cond, List, get_or, set, Option, Some, None}
use Rattle.lists.specs.Part.{part, splice}
use Rattle.cache.specs.declared.AccessKind.{AccessKind}
use Rattle.cache.specs.declared.AccessKind.TheVariants.{Hit1, Hit2, Miss}
use Rattle.cache.specs.Lines.{clean_entry, dirty_entry, entry_for, holds_line, is_dirty, l1_index}
use Rattle.cache.specs.Lines.{set_index, set_of, ways_per_set}
use Rattle.cache.specs.Sets.{has, move_to_front}

-- the ticks of a line that L1 holds, of one that only its L2 set holds, and of one that neither
-- does
abbrev pub hit1_ticks : ℕ
hit1_ticks = 1

abbrev pub hit2_ticks : ℕ
hit2_ticks = 10

abbrev pub miss_ticks : ℕ
miss_ticks = 100

-- the ticks that a dirty line adds when it is replaced
abbrev pub dirty_ticks : ℕ
dirty_ticks = 4

-- what an access to a line finds and leaves, from the L1 number at the line's index and the ways of
-- its set
pub record Lookup : Type 0 where
  pub found : AccessKind
  pub ticks : ℕ
  pub entry : ℕ
  pub ways : List ℕ

-- the line is in L1: its L2 set stays as it is. A dirty line stays dirty, and a write makes a clean
-- one dirty.
unfoldable pub lookup_l1 : Bool → ℕ → ℕ → List ℕ → Lookup
lookup_l1 writes line entry ways =
    record {
      found = Hit1;
      ticks = hit1_ticks;
      entry = cond writes (dirty_entry line) entry;
      ways = ways;
    }

-- the ticks of putting another line where this L1 number stands
abbrev pub replace_ticks : ℕ → ℕ
replace_ticks entry = cond (is_dirty entry) dirty_ticks 0

-- L1 lacks the line: whether its L2 set has it or not, it becomes the set's most recent, and takes
-- its L1 index
unfoldable pub lookup_l2 : Bool → ℕ → ℕ → List ℕ → Lookup
lookup_l2 writes line entry ways =
    record {
      found = cond (has (clean_entry line) ways) Hit2 Miss;
      ticks = cond (has (clean_entry line) ways) hit2_ticks miss_ticks + replace_ticks entry;
      entry = entry_for writes line;
      ways = move_to_front (clean_entry line) ways;
    }

-- by whether L1 has the line
unfoldable pub lookup_of : Bool → ℕ → ℕ → List ℕ → Lookup
lookup_of writes line entry ways =
    cond (holds_line entry line) (lookup_l1 writes line entry ways) (lookup_l2 writes line entry ways)

-- the lookup of a line in a table
unfoldable pub lookup_at : Bool → ℕ → List ℕ → Lookup
lookup_at writes line table =
    lookup_of writes line (get_or table (l1_index line) 0)
    (part (set_index (set_of line)) ways_per_set table)

-- ---- the dirty line that an access puts out of L1

-- the line of a dirty L1 number
abbrev pub dirty_line : ℕ → ℕ
dirty_line entry = entry - dirty_entry 0

-- what is written back where another line takes the place of an L1 number: its line, if dirty
unfoldable pub write_back_of : ℕ → Option ℕ
write_back_of entry = cond (is_dirty entry) (Some (dirty_line entry)) None

-- what an access of a line puts out: nothing where L1 holds the line, since then none is replaced
unfoldable pub write_back_at : ℕ → List ℕ → Option ℕ
write_back_at line table =
    let entry = get_or table (l1_index line) 0 in
    cond (holds_line entry line) None (write_back_of entry)

-- the table once a line was made the most recent of its set: it has moved to the front, or has come
-- in there and the last way is dropped
abbrev pub line_used : ℕ → List ℕ → List ℕ
line_used line table =
    let ways = part (set_index (set_of line)) ways_per_set table in
    splice (set_index (set_of line)) ways_per_set (move_to_front (clean_entry line) ways) table

-- the table once what is put out is written back: a dirty line becomes the most recent of its set
unfoldable pub written_back : Option ℕ → List ℕ → List ℕ
written_back None table = table
written_back (Some line) table = line_used line table

-- ---- an access

-- what an access answers and the table that it leaves
pub record AccessOutcome : Type 0 where
  pub found : AccessKind
  pub ticks : ℕ
  pub back : Option ℕ
  pub table : List ℕ

-- a line sought in a table: the set and the L1 index as the lookup leaves them, every other number
-- as it was. What was put out before is answered with it.
unfoldable pub seek_of : Bool → ℕ → Option ℕ → List ℕ → AccessOutcome
seek_of writes line back table =
    let look = lookup_at writes line table in
    record {
      found = look.found;
      ticks = look.ticks;
      back = back;
      table = set (splice (set_index (set_of line)) ways_per_set look.ways table) (l1_index line)
          look.entry;
    }

-- an access of a line: a dirty line that it replaces is written back, and then the line is sought
unfoldable pub access_of : Bool → ℕ → List ℕ → AccessOutcome
access_of writes line table =
    let back = write_back_at line table in seek_of writes line back (written_back back table)

-- document 01's own access, on the old board: it answers the dirty line that it replaces too, and
-- changes nothing of it in L2
unfoldable pub old_access_of : Bool → ℕ → List ℕ → AccessOutcome
old_access_of writes line table = seek_of writes line (write_back_at line table) table
