-- Document 02, E9: what L1 and the kernel's sets hold at the start of a window, the windows being
-- counted from 0. Assumes nothing.
use Rattle.std.specs.Prelude.{ℕ, ◌+◌, ◌≤◌, ◌<◌, Bool, true, cond, ◌&&◌, List, ◌≡◌, eqb, ltb, get_or, length}
use Rattle.plan.specs.declared.Plan.{Plan}
use Rattle.plan.specs.Limits.{touch_ticks}
use Rattle.plan.specs.Windows.{window_end, windows_total}
use Rattle.cache.specs.Flush.{flushed_cache}
use Rattle.cache.specs.Lines.{clean_entry, kernel_entries, kernel_index, l1_index, l1_length}
use Rattle.cache.specs.Lines.{table_length}
use Rattle.ops.specs.Ops.{kernel_entry_line}
use Rattle.state.specs.World.{World}
use Rattle.machine.specs.Fresh.{fresh_world}
use Rattle.machine.specs.Switch.{flushed_clock, is_last, padded_clock, return_touch}
use Rattle.machine.specs.Switch.{switch_of}

-- a switch has touched the kernel's entry line before a window, and has not emptied it again: the
-- window is neither the run's first nor past its last
unfoldable pub touched_before : Plan → ℕ → Bool
touched_before plan window = ltb 0 window && ltb window (windows_total plan)

-- the number of L1 at an index: the entry line, clean, at its own, and nothing elsewhere
unfoldable pub l1_at_start : Plan → ℕ → ℕ → ℕ
l1_at_start plan window index =
    cond (touched_before plan window && eqb index (l1_index kernel_entry_line))
    (clean_entry kernel_entry_line) 0

-- the number of the kernel's sets at an index, counted from the first of theirs: the entry line's
-- set is the first of them, and has that line in front
unfoldable pub kernel_at_start : Plan → ℕ → ℕ → ℕ
kernel_at_start plan window index =
    cond (touched_before plan window && eqb index 0) (clean_entry kernel_entry_line) 0

-- a world holds in L1 and the kernel's sets what its window starts with
pub record HoldsStart (plan : Plan) (world : World) : Type 0 where
  pub l1 :
      (index : ℕ) → index < l1_length
      → get_or world.cache index 0 ≡ l1_at_start plan world.state.windows index
  pub kernel :
      (index : ℕ) → index < kernel_entries
      → get_or world.cache (kernel_index + index) 0
      ≡ kernel_at_start plan world.state.windows index

-- ---- what is promised of every switch

-- of a switch that is lent any table of the right length
pub record SwitchLeaves (plan : Plan) (world : World) : Type 0 where
  -- its touch misses, always, and every switch counts the ticks, the run's last too
  pub touch : (return_touch world.cache).ticks ≡ touch_ticks
  pub clock :
      let end = window_end plan world.state.windows in
      (switch_of plan world).state.clock
      ≡ padded_clock end plan.pad
      (flushed_clock world.state.clock end world.cache + touch_ticks)
  -- L1 and the kernel's sets hold what the next window starts with, and the other sets what they
  -- held
  pub starts : HoldsStart plan (switch_of plan world)
  pub others :
      (index : ℕ) → l1_length ≤ index → index < kernel_index
      → get_or (switch_of plan world).cache index 0 ≡ get_or world.cache index 0
  -- the table is as long as it was, and the run's last leaves what the flushes left
  pub long : length (switch_of plan world).cache ≡ table_length
  pub last :
      is_last plan world.state.windows ≡ true
      → (switch_of plan world).cache ≡ flushed_cache world.cache

-- the run's first window starts with a fresh start, and every other with a switch
pub record WindowsStart : Type 0 where
  pub fresh : (plan : Plan) (log : List ℕ) → HoldsStart plan (fresh_world log)
  pub switched :
      (plan : Plan) (world : World) → length world.cache ≡ table_length → SwitchLeaves plan world
