-- Document 02, E9: the touch of the return path, by the settled example. Assumes nothing.
use Rattle.std.specs.Prelude.{ℕ, ◌+◌, true, false, List, [], ◌∷◌, ◌++◌, ◌≡◌, replicate, set}
use Rattle.lists.specs.Part.{part}
use Rattle.cache.specs.declared.AccessKind.TheVariants.{Miss}
use Rattle.cache.specs.Lines.{clean_entry, dirty_entry, empty_table, kernel_entries, kernel_index}
use Rattle.cache.specs.Lines.{l1_length}
use Rattle.ops.specs.Ops.{empty_boxes}
use Rattle.state.specs.TableValidity.{tables_valid}
use Rattle.state.specs.World.{World, fresh_state}
use Rattle.machine.specs.Fresh.{fresh_world}
use Rattle.machine.specs.Steps.{steps}
use Rattle.machine.specs.Switch.{flushed_clock, return_touch, switch_of, touched_clock}
use Rattle.worked_example.specs.WorkedExample.{example_read}

-- the example's world after n steps, beside a log of ten records a domain
abbrev pub example_after : ℕ → World
example_after count =
    steps example_read.plan example_read.scripts 10 count (fresh_world (replicate 160 0))

-- the numbers of L1, and those of the kernel's sets
abbrev pub l1_of : World → List ℕ
l1_of world = part 0 l1_length world.cache

abbrev pub kernel_of : World → List ℕ
kernel_of world = part kernel_index kernel_entries world.cache

-- a table that has the entry line and a box's line in L1, dirty or not, and in the kernel's sets
abbrev pub message_table : ℕ → List ℕ
message_table entry =
    set (set (set (set empty_table 12 entry) 13 (dirty_entry 125)) kernel_index 61) (kernel_index + 4)
    126

-- the world of a fresh start but for its cache table, and for the number of windows completed
abbrev pub table_at : ℕ → List ℕ → World
table_at windows table =
    record {
      state =
          record {
            windows = windows;
            clock = fresh_state.clock;
            positions = fresh_state.positions;
            records = fresh_state.records;
          };
      cache = table;
      boxes = empty_boxes;
      log = [];
    }

pub record TouchExamples : Type 0 where
  -- the run's first window starts with L1 and the kernel's sets empty
  pub first :
      (l1_of (example_after 0) ≡ replicate 16 0) × (kernel_of (example_after 0) ≡ replicate 16 0)
  -- its second, after three ops and a switch, with line 60 in both and nothing else
  pub second :
      ((example_after 4).state.windows ≡ 1)
      × (l1_of (example_after 4) ≡ replicate 12 0 ++ (61 ∷ 0 ∷ 0 ∷ 0 ∷ []))
      × (kernel_of (example_after 4) ≡ 61 ∷ replicate 15 0)
  -- so the receive there finds it in L1: 5 ticks, 1 and 100
  pub found : (example_after 5).state.clock ≡ 776 + 106
  -- after the run's last switch both are empty
  pub ended :
      ((example_after 7).state.windows ≡ 2)
      × (l1_of (example_after 7) ≡ replicate 16 0)
      × (kernel_of (example_after 7) ≡ replicate 16 0)
  -- the touch misses whatever was there before the flushes, line 60 too
  pub missed :
      ((return_touch empty_table).ticks ≡ 100)
      × ((return_touch (message_table (clean_entry 60))).ticks ≡ 100)
      × ((return_touch (message_table (dirty_entry 60))).found ≡ Miss)
  -- the flushes of that table take 8 + 2 and 8 + 2 ticks, the touch 100 more, and the pad the rest
  pub clocks :
      (flushed_clock 90 80 (message_table 61) ≡ 110)
      × (touched_clock 90 80 (message_table 61) ≡ 210)
      × ((switch_of example_read.plan (table_at 0 (message_table 61))).state.clock ≡ 776)
  -- 13 allows line 60 as any line of the kernel's, and after the end none in L1
  pub allowed :
      (tables_valid example_read.plan (table_at 1 empty_table).state (message_table 61) empty_boxes
      ≡ true)
      × (tables_valid example_read.plan (table_at 2 empty_table).state (message_table 61) empty_boxes
      ≡ false)
