-- Document 01, "Window, switch, run", and document 02, E9: the switch. Assumes nothing.
use Rattle.std.specs.Prelude.{ℕ, ◌+◌, max, Bool, false, cond, List, leb}
use Rattle.plan.specs.declared.Plan.{Plan}
use Rattle.plan.specs.Windows.{window_end, windows_total}
use Rattle.cache.specs.Access.{AccessOutcome, access_of}
use Rattle.cache.specs.Flush.{flushed_cache, kernel_flush_ticks, kernel_flushed, l1_flush_ticks}
use Rattle.cache.specs.Flush.{line_emptied}
use Rattle.ops.specs.Ops.{kernel_entry_line}
use Rattle.state.specs.World.{World}

-- the clock once both flushes are done: raised to the window's end if lower, then the kernel's sets
-- are emptied, then L1
unfoldable pub flushed_clock : ℕ → ℕ → List ℕ → ℕ
flushed_clock clock end cache =
    max clock end + kernel_flush_ticks cache + l1_flush_ticks (kernel_flushed cache)

-- the pad: the clock waits until the pad is over, which is counted from the window's end
unfoldable pub padded_clock : ℕ → ℕ → ℕ → ℕ
padded_clock end pad clock = max clock (end + pad)

-- a window is the run's last: no other follows it
abbrev pub is_last : Plan → ℕ → Bool
is_last plan window = leb (windows_total plan) (window + 1)

-- what a switch leaves of the table that its touch left: the run's last empties the line again,
-- without cost
abbrev pub settled_cache : Bool → List ℕ → List ℕ
settled_cache last cache = cond last (line_emptied kernel_entry_line cache) cache

-- ---- the switch, over the access that a board makes

module _ (access : Bool → ℕ → List ℕ → AccessOutcome) where
  -- the touch of the return path, before the wait: a read access to the kernel's entry line, which
  -- stands for the shared data that a return needs
  abbrev pub return_touch_by : List ℕ → AccessOutcome
  return_touch_by cache = access false kernel_entry_line (flushed_cache cache)

  -- the clock once that is done
  unfoldable pub touched_clock_by : ℕ → ℕ → List ℕ → ℕ
  touched_clock_by clock end cache = flushed_clock clock end cache + (return_touch_by cache).ticks

  -- the cache table that a switch leaves, by whether it is the run's last
  unfoldable pub switched_cache_by : Bool → List ℕ → List ℕ
  switched_cache_by last cache = settled_cache last (return_touch_by cache).table

  -- both flushes, the touch, the next window, the pad. Scripts stay where they are; boxes and log
  -- are untouched.
  unfoldable pub switch_by : Plan → World → World
  switch_by plan world =
      let window = world.state.windows in
      let end = window_end plan window in
      record {
        state =
            record {
              windows = window + 1;
              clock =
                  padded_clock end plan.pad
                  (touched_clock_by world.state.clock end world.cache);
              positions = world.state.positions;
              records = world.state.records;
            };
        cache = switched_cache_by (is_last plan window) world.cache;
        boxes = world.boxes;
        log = world.log;
      }

-- ---- the switch of the machine

abbrev pub return_touch : List ℕ → AccessOutcome
return_touch = return_touch_by access_of

abbrev pub touched_clock : ℕ → ℕ → List ℕ → ℕ
touched_clock = touched_clock_by access_of

abbrev pub switched_cache : Bool → List ℕ → List ℕ
switched_cache = switched_cache_by access_of

abbrev pub switch_of : Plan → World → World
switch_of = switch_by access_of
