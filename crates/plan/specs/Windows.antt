-- Document 01, "Window, switch, run" and "Two lists of calls": the windows of a run, their starts and the
-- run's total. Assumes nothing.
use Rattle.std.specs.Prelude.{ℕ, zero, suc, ◌+◌, ◌*◌, ◌%◌, get_or}
use Rattle.plan.specs.declared.Plan.{Plan}
use Rattle.plan.specs.Sums.{sum_to}

-- windows repeat in order: window k of the run is the declared window k mod their number
abbrev pub slot_of : Plan → ℕ → ℕ
slot_of plan window = window % plan.windows

-- whose window it is
unfoldable pub window_owner : Plan → ℕ → ℕ
window_owner plan window = get_or plan.owners (slot_of plan window) 0

-- how long it is
unfoldable pub window_length : Plan → ℕ → ℕ
window_length plan window = get_or plan.lengths (slot_of plan window) 0

-- the first window starts at tick 0, and each next one a length and a pad later
unfoldable pub window_start : Plan → ℕ → ℕ
window_start plan zero = 0
window_start plan (suc window) = window_start plan window + window_length plan window + plan.pad

-- a window's end: its start + its length
unfoldable pub window_end : Plan → ℕ → ℕ
window_end plan window = window_start plan window + window_length plan window

-- the number of windows of the whole run: the declared ones, *run* times
unfoldable pub windows_total : Plan → ℕ
windows_total plan = plan.run * plan.windows

-- a declared window's length with its pad
abbrev pub padded_length : Plan → ℕ → ℕ
padded_length plan slot = get_or plan.lengths slot 0 + plan.pad

-- the run's total of ticks: run × sum of (length + pad)
unfoldable pub ticks_total : Plan → ℕ
ticks_total plan = plan.run * sum_to (padded_length plan) plan.windows
