-- Document 01, "The plan text", 13: a damaged cache table or box. Assumes nothing.
use Rattle.std.specs.Prelude.{ℕ, ◌-◌, ◌/◌, ◌%◌, Bool, true, cond, not, ◌&&◌, ◌||◌, List, [], ◌∷◌, eqb, leb, get_or}
use Rattle.lists.specs.Part.{part}
use Rattle.plan.specs.declared.Plan.{Plan}
use Rattle.plan.specs.Colours.{owns_colour}
use Rattle.plan.specs.Limits.{most_domains}
use Rattle.plan.specs.Rights.{may_send}
use Rattle.plan.specs.Sums.{all_below}
use Rattle.script.specs.Limits.{most_word}
use Rattle.cache.specs.Lines.{clean_entry, colour_of, dirty_mark, kernel_colour, l1_index, l1_length}
use Rattle.cache.specs.Lines.{most_line, set_count, set_index, set_of, ways_per_set}
use Rattle.cache.specs.Sets.{has}
use Rattle.ops.specs.Ops.{boxes_length, full_box}
use Rattle.state.specs.declared.State.{State}
use Rattle.state.specs.World.{ended_of, running_of}

-- a number that stands for a line, clean
abbrev pub stands_for_line : ℕ → Bool
stands_for_line entry = leb 1 entry && leb entry (clean_entry most_line)

-- that line
abbrev pub entry_line : ℕ → ℕ
entry_line entry = entry - 1

-- ---- L2

-- all these numbers are empty
unfoldable pub all_empty : List ℕ → Bool
all_empty [] = true
all_empty (way ∷ ways) = eqb way 0 && all_empty ways

-- a number before the others of a set: a line of this set that they do not repeat
abbrev pub way_valid : ℕ → ℕ → List ℕ → Bool
way_valid set way ways = stands_for_line way && eqb (set_of (entry_line way)) set && not (has way ways)

-- the ways of a set: lines of this set, none twice, and no empty before a line
unfoldable pub ways_valid : ℕ → List ℕ → Bool
ways_valid set [] = true
ways_valid set (way ∷ ways) =
    cond (eqb way 0) (all_empty ways) (way_valid set way ways && ways_valid set ways)

-- a set of the table
unfoldable pub set_valid : List ℕ → ℕ → Bool
set_valid cache set = ways_valid set (part (set_index set) ways_per_set cache)

-- ---- L1

-- an L1 number without its dirty mark; the mark alone stands for no line
abbrev pub unmarked : ℕ → ℕ
unmarked entry = cond (leb dirty_mark entry) (entry - dirty_mark) entry

-- a line that L1 may hold while a domain runs: of one of its colours or the kernel's
unfoldable pub line_allowed : Plan → ℕ → ℕ → Bool
line_allowed plan domain line =
    owns_colour plan domain (colour_of line) || eqb (colour_of line) kernel_colour

-- a number at an index of L1: empty, or a line of this index that the running domain may have
-- there, and none after the end
abbrev pub entry_valid : Plan → State → ℕ → ℕ → Bool
entry_valid plan state index entry =
    let line = entry_line (unmarked entry) in
    eqb entry 0
    || (stands_for_line (unmarked entry)
    && eqb (l1_index line) index
    && line_allowed plan (running_of plan state) line
    && not (ended_of plan state))

-- an index of L1
unfoldable pub l1_entry_valid : Plan → State → List ℕ → ℕ → Bool
l1_entry_valid plan state cache index = entry_valid plan state index (get_or cache index 0)

-- ---- boxes

-- a number that a box may hold: no more than the greatest word, and full only where its sender has
-- the right
abbrev pub box_holds : Plan → ℕ → ℕ → Bool
box_holds plan index box =
    leb box (full_box most_word)
    && (eqb box 0 || may_send plan (index / most_domains) (index % most_domains))

-- a box
unfoldable pub box_valid : Plan → List ℕ → ℕ → Bool
box_valid plan boxes index = box_holds plan index (get_or boxes index 0)

-- table validity: nothing but these clauses counts
unfoldable pub tables_valid : Plan → State → List ℕ → List ℕ → Bool
tables_valid plan state cache boxes =
    all_below (set_valid cache) set_count
    && all_below (l1_entry_valid plan state cache) l1_length
    && all_below (box_valid plan boxes) boxes_length
