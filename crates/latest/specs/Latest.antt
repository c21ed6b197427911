-- Document 02, E6 and E9: how many ticks behind a window's end a switch has touched the kernel's
-- entry line at the latest. That none is later is proved, of every script and every run:
-- lateness/specs/Theorems.antt. Assumes nothing.
use Rattle.std.specs.Prelude.{ℕ, ◌+◌, ◌*◌, ◌-◌, min, cond}
use Rattle.plan.specs.declared.Plan.{Plan}
use Rattle.plan.specs.Limits.{dearest_op, touch_ticks}
use Rattle.script.specs.Limits.{most_ticks}
use Rattle.cache.specs.Access.{dirty_ticks}
use Rattle.cache.specs.Flush.{dirty_line_ticks, flush_ticks}
use Rattle.cache.specs.Lines.{ways_per_set}
use Rattle.latest.specs.Reach.{box_count, has_box, meets_kernel, own_indices, starts_run}

-- the ticks past a window's end of an op that runs over it, of both flushes, which find so many
-- valid lines in the kernel's sets and so many dirty lines in L1, and of the touch
unfoldable pub late_by : ℕ → ℕ → ℕ → ℕ
late_by overrun valid dirty =
    overrun + (flush_ticks + valid) + (flush_ticks + dirty_line_ticks * dirty) + touch_ticks

-- ---- the run's first window, which starts with L1 and the kernel's sets empty

-- Without a box, the dearest that can begin in a window's last tick is the longest compute. The
-- flushes then find the kernel's entry line, which a denied op brings in, and every index of the
-- domain's own lines dirty.
unfoldable pub latest_alone : ℕ → ℕ
latest_alone own = late_by (most_ticks - 1) 1 own

-- With a box, it is the window's first message: the entry line and the box's line both miss. Where
-- own lines have the kernel's indices, each of the two replaces a dirty own line: the entry line,
-- clean, one, and the box's line, dirty, another. So there is one dirty line fewer.
unfoldable pub latest_meeting : ℕ → ℕ
latest_meeting own = late_by (dearest_op - 1) 2 (own - 1)

-- Where they have not, nothing dirty is replaced, and the box's line is one dirty line more.
unfoldable pub latest_apart : ℕ → ℕ
latest_apart own = late_by (dearest_op - 2 * dirty_ticks - 1) 2 (own + 1)

-- the latest finish of that window
unfoldable pub latest_first : Plan → ℕ → ℕ
latest_first plan domain =
    let own = own_indices plan domain in
    cond (has_box plan domain)
    (cond (meets_kernel plan domain) (latest_meeting own) (latest_apart own))
    (latest_alone own)

-- ---- every other window, which starts with the kernel's entry line in both caches

-- the dirty lines that boxes can add to own ones: all boxes' lines have one L1 index, so one line
-- more, and none where own lines have that index too
unfoldable pub box_indices : Plan → ℕ → ℕ
box_indices plan domain = cond (has_box plan domain) (cond (meets_kernel plan domain) 0 1) 0

-- A message finds the entry line, so the dearest is the longest compute, with or without a box. The
-- flushes find the entry line and a line for each box, at most as many as their set has ways.
unfoldable pub latest_later : Plan → ℕ → ℕ
latest_later plan domain =
    late_by (most_ticks - 1) (1 + min ways_per_set (box_count plan domain))
    (own_indices plan domain + box_indices plan domain)

-- ---- the latest finish of a domain's windows

-- where the run begins with one of them, that one can finish latest
unfoldable pub latest_ticks : Plan → ℕ → ℕ
latest_ticks plan domain =
    cond (starts_run plan domain) (latest_first plan domain) (latest_later plan domain)
