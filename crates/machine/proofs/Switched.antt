-- What a switch leaves of the caches, and what its touch takes: both flushes have emptied L1 and the kernel's sets, so that
-- the touch misses and puts nothing out, on either board. Assumes nothing.
use Prim.Native.Nat.{ℕ, ◌+◌, ◌≤◌, ◌<◌}
use mathlib.Core.Bool.{Bool, true, false, cond, not, ◌&&◌}
use mathlib.Core.List.{List}
use mathlib.Core.Path.{◌≡◌, refl, sym, ap, ◌∙◌}
use native.Mathlib.Decide.{ℕ_discrete}
use native.Mathlib.Omega.{arith}
use lib.Dec.{eqb, ltb}
use lib.ListN.{get_or, get_or-replicate, length}
use borrow.Author.Tests.{eq-eqb, leb-false, leb-true, le-ltb, lt-ltb, ne_eqb}
use Rattle.plan.specs.declared.Plan.{Plan}
use Rattle.plan.specs.Limits.{touch_ticks}
use Rattle.plan.specs.Windows.{windows_total}
use Rattle.cache.specs.Access.{old_access_of}
use Rattle.cache.specs.Flush.{flushed_cache}
use Rattle.cache.specs.Lines.{clean_entry, kernel_entries, kernel_index, l1_index, l1_length, table_length, ways_per_set}
use Rattle.cache.proofs.Flushed.{flushed_kernel, flushed_l1, flushed_long, flushed_others}
use Rattle.cache.proofs.Missed.{free_ticks, missed_alike, missed_emptied, missed_entry, missed_front, missed_long, missed_others}
use Rattle.cache.proofs.Missed.{missed_ticks}
use Rattle.ops.specs.Ops.{kernel_entry_line}
use Rattle.state.specs.World.{World, fresh_state}
use Rattle.machine.specs.Fresh.{fresh_world}
use Rattle.machine.specs.Switch.{is_last, return_touch, return_touch_by, switch_by, switch_of, switched_cache, switched_cache_by, touched_clock_by}
use Rattle.machine.specs.WindowStart.{HoldsStart, WindowsStart, kernel_at_start, l1_at_start, touched_before}

-- the entry line's L1 index is empty, whatever the table
free : (cache : List ℕ) → get_or (flushed_cache cache) (l1_index kernel_entry_line) 0 ≡ 0
free cache = flushed_l1 cache (l1_index kernel_entry_line) (omega arith)

-- the touch takes no more than a miss
pub touch_most : (cache : List ℕ) → (return_touch cache).ticks ≤ touch_ticks
touch_most cache = free_ticks false kernel_entry_line (flushed_cache cache) (free cache)

-- and is the same on the old board
pub touch_alike : (cache : List ℕ) → return_touch_by old_access_of cache ≡ return_touch cache
touch_alike cache = sym (missed_alike false kernel_entry_line (flushed_cache cache) (free cache))

pub switch_alike : (plan : Plan) (world : World) → switch_by old_access_of plan world ≡ switch_of plan world
unfolding switch_by touched_clock_by switched_cache_by
switch_alike plan world = rw (touch_alike world.cache) refl

module _ (cache : List ℕ) (long : length cache ≡ table_length) where
  long_flushed : length (flushed_cache cache) ≡ table_length
  long_flushed = flushed_long cache long

  empty : (way : ℕ) → way < ways_per_set → get_or (flushed_cache cache) (kernel_index + way) 0 ≡ 0
  empty way below = flushed_kernel cache long (kernel_index + way) (omega arith) (omega arith)

  -- it misses always
  pub touch_ticks_lem : (return_touch cache).ticks ≡ touch_ticks
  touch_ticks_lem = missed_ticks false kernel_entry_line (flushed_cache cache) (free cache) long_flushed empty

  -- the run's last switch leaves what the flushes left
  pub switched_last : switched_cache true cache ≡ flushed_cache cache
  unfolding switched_cache_by
  switched_last = missed_emptied false kernel_entry_line (flushed_cache cache) (free cache) long_flushed empty

  pub switched_long : (last : Bool) → length (switched_cache last cache) ≡ table_length
  unfolding switched_cache_by
  switched_long true = ap length switched_last ∙ long_flushed
  switched_long false = missed_long false kernel_entry_line (flushed_cache cache) (free cache) long_flushed empty

  -- any other leaves the entry line as well, at its L1 index and in front of its set
  touched_others : (index : ℕ) → (index ≡ l1_index kernel_entry_line → ⊥) → (index ≡ kernel_index → ⊥)
      → get_or (switched_cache false cache) index 0 ≡ get_or (flushed_cache cache) index 0
  unfolding switched_cache_by
  touched_others = missed_others false kernel_entry_line (flushed_cache cache) (free cache) long_flushed empty

  touched_entry : get_or (switched_cache false cache) (l1_index kernel_entry_line) 0 ≡ clean_entry kernel_entry_line
  unfolding switched_cache_by
  touched_entry = missed_entry false kernel_entry_line (flushed_cache cache) (free cache) long_flushed empty

  touched_front : get_or (switched_cache false cache) kernel_index 0 ≡ clean_entry kernel_entry_line
  unfolding switched_cache_by
  touched_front = missed_front false kernel_entry_line (flushed_cache cache) (free cache) long_flushed empty

  -- ---- number by number

  pub switched_l1 : (last : Bool) (index : ℕ) → index < l1_length
      → get_or (switched_cache last cache) index 0
      ≡ cond (not last && eqb index (l1_index kernel_entry_line)) (clean_entry kernel_entry_line) 0
  switched_l1 true index below = ap (λ table. get_or table index 0) switched_last ∙ flushed_l1 cache index below
  switched_l1 false index below = go (ℕ_discrete index (l1_index kernel_entry_line))
    where
      go : Dec (index ≡ l1_index kernel_entry_line)
          → get_or (switched_cache false cache) index 0 ≡ cond (eqb index (l1_index kernel_entry_line)) (clean_entry kernel_entry_line) 0
      go (yes same) = rw (eq-eqb index (l1_index kernel_entry_line) same, same) touched_entry
      go (no differs) =
          rw (ne_eqb index (l1_index kernel_entry_line) differs)
          (touched_others index differs (λ same. omega arith) ∙ flushed_l1 cache index below)

  pub switched_kernel : (last : Bool) (index : ℕ) → index < kernel_entries
      → get_or (switched_cache last cache) (kernel_index + index) 0 ≡ cond (not last && eqb index 0) (clean_entry kernel_entry_line) 0
  switched_kernel true index below =
      ap (λ table. get_or table (kernel_index + index) 0) switched_last
      ∙ flushed_kernel cache long (kernel_index + index) (omega arith) (omega arith)
  switched_kernel false index below = go (ℕ_discrete index 0)
    where
      go : Dec (index ≡ 0)
          → get_or (switched_cache false cache) (kernel_index + index) 0 ≡ cond (eqb index 0) (clean_entry kernel_entry_line) 0
      go (yes same) = rw (eq-eqb index 0 same, same) touched_front
      go (no differs) =
          rw (ne_eqb index 0 differs)
          (touched_others (kernel_index + index) (λ same. omega arith) (λ same. omega arith)
          ∙ flushed_kernel cache long (kernel_index + index) (omega arith) (omega arith))

  -- the other sets are as they were
  pub switched_others : (last : Bool) (index : ℕ) → l1_length ≤ index → index < kernel_index
      → get_or (switched_cache last cache) index 0 ≡ get_or cache index 0
  switched_others true index past before =
      ap (λ table. get_or table index 0) switched_last ∙ flushed_others cache long index past before
  switched_others false index past before =
      touched_others index (λ same. omega arith) (λ same. omega arith) ∙ flushed_others cache long index past before

-- ---- at a window's start

-- after a switch it was touched, unless the run is over
touched_next : (plan : Plan) (window : ℕ) → touched_before plan (window + 1) ≡ not (is_last plan window)
unfolding touched_before
touched_next plan window = go (is_last plan window) refl
  where
    go : (last : Bool) → is_last plan window ≡ last
        → (ltb 0 (window + 1) && ltb (window + 1) (windows_total plan)) ≡ not last
    go true test = rw (lt-ltb 0 (window + 1) (omega arith), le-ltb (window + 1) (windows_total plan) (leb-true _ _ test)) refl
    go false test = rw (lt-ltb 0 (window + 1) (omega arith), lt-ltb (window + 1) (windows_total plan) (leb-false _ _ test)) refl

pub switch_holds : (plan : Plan) (world : World) → length world.cache ≡ table_length → HoldsStart plan (switch_of plan world)
unfolding switch_by l1_at_start kernel_at_start
switch_holds plan world long =
    record {
      l1 = λ index below.
          rw (touched_next plan world.state.windows) (switched_l1 world.cache long (is_last plan world.state.windows) index below);
      kernel = λ index below.
          rw (touched_next plan world.state.windows) (switched_kernel world.cache long (is_last plan world.state.windows) index below);
    }

pub fresh_holds : (plan : Plan) (log : List ℕ) → HoldsStart plan (fresh_world log)
unfolding fresh_world fresh_state l1_at_start kernel_at_start touched_before
fresh_holds plan log =
    record {
      l1 = λ index below. get_or-replicate table_length index 0 0 (omega arith);
      kernel = λ index below. get_or-replicate table_length (kernel_index + index) 0 0 (omega arith);
    }

pub windows_start : WindowsStart
unfolding switch_by touched_clock_by
windows_start =
    record {
      fresh = fresh_holds;
      switched = λ plan world long.
          record {
            touch = touch_ticks_lem world.cache long;
            clock = rw (touch_ticks_lem world.cache long) refl;
            starts = switch_holds plan world long;
            others = switched_others world.cache long (is_last plan world.state.windows);
            long = switched_long world.cache long (is_last plan world.state.windows);
            last = λ last. rw last (switched_last world.cache long);
          };
    }
