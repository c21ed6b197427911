-- Document 01, "The core and its tables": a line, its set, its colour and its L1 index; the sizes
-- of the cache table, and the numbers that stand in it. Each size is said here alone. Assumes
-- nothing.
use Rattle.std.specs.Prelude.{ℕ, ◌+◌, ◌*◌, ◌/◌, ◌%◌, Bool, cond, ◌||◌, List, eqb, ltb, replicate}

-- ---- sizes

-- the highest line number; the lowest is 0
abbrev pub most_line : ℕ
most_line = 4_095

-- L1 has one number per index
abbrev pub l1_length : ℕ
l1_length = 16

-- the sets of L2
abbrev pub set_count : ℕ
set_count = 64

-- the numbers of a set
abbrev pub ways_per_set : ℕ
ways_per_set = 4

-- the sets of one colour stand in a row
abbrev pub sets_per_colour : ℕ
sets_per_colour = 4

-- the numbers of L1 and of every set
abbrev pub table_length : ℕ
table_length = 272

-- the colour that is the kernel's
abbrev pub kernel_colour : ℕ
kernel_colour = 15

-- the first of the kernel's sets, which are the last of all
abbrev pub first_kernel_set : ℕ
first_kernel_set = 60

-- the numbers of the kernel's sets
abbrev pub kernel_entries : ℕ
kernel_entries = 16

-- ---- a line's set, colour and L1 index

abbrev pub set_of : ℕ → ℕ
set_of line = line % set_count

abbrev pub set_colour : ℕ → ℕ
set_colour set = set / sets_per_colour

-- a line has the colour of its set
abbrev pub colour_of : ℕ → ℕ
colour_of line = set_colour (set_of line)

abbrev pub l1_index : ℕ → ℕ
l1_index line = line % l1_length

-- ---- the numbers of the table

-- what is added to the number of a dirty line
abbrev pub dirty_mark : ℕ
dirty_mark = 32_768

-- the number of a clean line; 0 is empty
abbrev pub clean_entry : ℕ → ℕ
clean_entry line = line + 1

abbrev pub dirty_entry : ℕ → ℕ
dirty_entry line = line + 1 + dirty_mark

-- an L1 number holds a line, clean or dirty
abbrev pub holds_line : ℕ → ℕ → Bool
holds_line entry line = eqb entry (clean_entry line) || eqb entry (dirty_entry line)

-- an L1 number is a dirty line's
abbrev pub is_dirty : ℕ → Bool
is_dirty entry = ltb dirty_mark entry

-- an L2 number is some line's
abbrev pub is_valid : ℕ → Bool
is_valid entry = ltb 0 entry

-- the number that an access leaves in L1: a write leaves its entry dirty
abbrev pub entry_for : Bool → ℕ → ℕ
entry_for writes line = cond writes (dirty_entry line) (clean_entry line)

-- ---- the table: L1, then the sets in order

-- where a set's ways begin
abbrev pub set_index : ℕ → ℕ
set_index set = l1_length + ways_per_set * set

-- where the kernel's sets begin
abbrev pub kernel_index : ℕ
kernel_index = set_index first_kernel_set

-- the empty table
abbrev pub empty_table : List ℕ
empty_table = replicate table_length 0
