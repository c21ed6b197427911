-- Document 01, "Window, switch, run": the two flushes of a switch, their counts and ticks; and
-- document 02, E9: a line that is emptied from both caches. Assumes nothing.
use Rattle.std.specs.Prelude.{ℕ, ◌+◌, ◌*◌, Bool, cond, List, [], ◌∷◌, replicate, set}
use Rattle.lists.specs.Part.{part, splice}
use Rattle.cache.specs.Lines.{l1_index, l1_length, is_dirty, is_valid, kernel_entries}
use Rattle.cache.specs.Lines.{kernel_index, set_index, set_of}

-- the ticks of either flush, whatever it empties
abbrev pub flush_ticks : ℕ
flush_ticks = 8

-- the ticks that each dirty line adds to L1's flush; nothing of it goes into L2
abbrev pub dirty_line_ticks : ℕ
dirty_line_ticks = 2

-- how many numbers pass a test
unfoldable pub count_where : (ℕ → Bool) → List ℕ → ℕ
count_where test [] = 0
count_where test (entry ∷ rest) = cond (test entry) 1 0 + count_where test rest

-- the dirty lines of L1
unfoldable pub dirty_lines : List ℕ → ℕ
dirty_lines table = count_where is_dirty (part 0 l1_length table)

-- the valid lines of the kernel's sets
unfoldable pub valid_lines : List ℕ → ℕ
valid_lines table = count_where is_valid (part kernel_index kernel_entries table)

-- emptying the kernel's sets: one tick more for each valid line
unfoldable pub kernel_flush_ticks : List ℕ → ℕ
kernel_flush_ticks table = flush_ticks + valid_lines table

-- emptying L1
unfoldable pub l1_flush_ticks : List ℕ → ℕ
l1_flush_ticks table = flush_ticks + dirty_line_ticks * dirty_lines table

-- the table with the kernel's sets emptied
unfoldable pub kernel_flushed : List ℕ → List ℕ
kernel_flushed table = splice kernel_index kernel_entries (replicate kernel_entries 0) table

-- the table with L1 emptied
unfoldable pub l1_flushed : List ℕ → List ℕ
l1_flushed table = splice 0 l1_length (replicate l1_length 0) table

-- the table once both are done, one after the other
abbrev pub flushed_cache : List ℕ → List ℕ
flushed_cache table = l1_flushed (kernel_flushed table)

-- a line that was just accessed, emptied again: the two entries where an access puts it, its L1
-- index and the front of its set
unfoldable pub line_emptied : ℕ → List ℕ → List ℕ
line_emptied line table = set (set table (l1_index line) 0) (set_index (set_of line)) 0
