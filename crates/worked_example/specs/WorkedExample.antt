-- Document 01, "Settled numbers": the eleven entries that are marked to be proved, a field for
-- each, in the paper's order; the second as document 02's E2 changes it. Assumes nothing.
use Rattle.std.specs.Prelude.{ℕ, zero, suc, ◌-◌, false, List, [], ◌∷◌, ◌≡◌, replicate, set}
use Rattle.lists.specs.Part.{part}
use Rattle.plan.specs.Colours.{colours_of}
use Rattle.plan.specs.Windows.{window_end}
use Rattle.cache.specs.declared.AccessKind.{AccessKind}
use Rattle.cache.specs.declared.AccessKind.TheVariants.{Hit2, Miss}
use Rattle.cache.specs.Access.{access_of}
use Rattle.cache.specs.Flush.{l1_flush_ticks}
use Rattle.cache.specs.Lines.{clean_entry, colour_of, dirty_entry, empty_table}
use Rattle.cache.specs.Lines.{l1_index, l1_length, set_index, set_of, ways_per_set}
use Rattle.ops.specs.Ops.{box_line}
use Rattle.state.specs.World.{World, position_at}
use Rattle.machine.specs.Fresh.{fresh_world}
use Rattle.machine.specs.Steps.{step_of}
use Rattle.refusal.specs.declared.Code.{Code}
use Rattle.refusal.specs.Code.{code_of, code_with}
use Rattle.reader.specs.Draft.{no_ops}
use Rattle.reader.specs.Read.{ReadOutcome, read_of}
use Rattle.report.specs.Planrun.{planrun_of}
use Rattle.worked_example.specs.Example.{example_output, example_plan, plan_with_pad_line}

-- number and companion of reading a text
abbrev pub read_code : List ℕ → Code
read_code text = code_of (read_of text no_ops).verdict

-- a table whose L1 holds the lines 0 to count - 1, all dirty
unfoldable pub dirty_table : ℕ → List ℕ
dirty_table zero = empty_table
dirty_table (suc count) = set (dirty_table count) (l1_index count) (dirty_entry count)

-- the table after reads of some lines, one after the other
unfoldable pub table_after : List ℕ → List ℕ → List ℕ
table_after [] table = table
table_after (line ∷ lines) table = table_after lines (access_of false line table).table

-- what each of these reads finds
unfoldable pub found_by : List ℕ → List ℕ → List AccessKind
found_by [] table = []
found_by (line ∷ lines) table =
    let access = access_of false line table in access.found ∷ found_by lines access.table

-- five lines of set 0, which has four ways
abbrev pub five_lines : List ℕ
five_lines = 0 ∷ 64 ∷ 128 ∷ 192 ∷ 256 ∷ []

abbrev pub after_five : List ℕ
after_five = table_after five_lines empty_table

-- the example's plan and scripts, as they are read
abbrev pub example_read : ReadOutcome
example_read = read_of example_plan no_ops

-- the end of its first window, which is domain 0's
abbrev pub first_end : ℕ
first_end = window_end example_read.plan 0

-- its first window at a clock, before any op, with a log of ten records a domain
unfoldable pub first_window_at : ℕ → World
first_window_at clock =
    let fresh = fresh_world (replicate 160 0) in
    record {
      state =
          record {
            windows = 0;
            clock = clock;
            positions = fresh.state.positions;
            records = fresh.state.records;
          };
      cache = fresh.cache;
      boxes = fresh.boxes;
      log = fresh.log;
    }

-- the step that is taken at that clock
unfoldable pub step_at : ℕ → World
step_at clock = step_of example_read.plan example_read.scripts 10 (first_window_at clock)

pub record WorkedExample : Type 0 where
  -- 1: the run above, from the plan's text to the printed lines
  pub full_run : planrun_of example_plan ≡ example_output
  -- 2: share 33 gives no colour, 34 one, 300 five
  pub shares : (colours_of 33 ≡ 0) × (colours_of 34 ≡ 1) × (colours_of 300 ≡ 5)
  -- 3: line 100 has set 36, colour 9 and L1 index 4
  pub line_hundred : (set_of 100 ≡ 36) × (colour_of 100 ≡ 9) × (l1_index 100 ≡ 4)
  -- 4: the box from 0 to 1 has line 125, that from 7 to 6 line 4,029
  pub box_lines : (box_line 0 1 ≡ 125) × (box_line 7 6 ≡ 4_029)
  -- 5: a pad of 375 is refused, by 3 at its number; 376 is accepted
  pub pad_limit :
      (read_code (plan_with_pad_line "(pad 375)") ≡ code_with 3 5)
      × (read_code (plan_with_pad_line "(pad 376)") ≡ code_with 0 0)
  -- 6: flushing an empty L1 takes 8 ticks, one of sixteen dirty lines 40
  pub flushes : (l1_flush_ticks empty_table ≡ 8) × (l1_flush_ticks (dirty_table l1_length) ≡ 40)
  -- 7: reads of 0, 64, 128, 192, 256 from empty all miss, and leave set 0 as 256, 192, 128, 64
  pub five_reads :
      (found_by five_lines empty_table ≡ Miss ∷ Miss ∷ Miss ∷ Miss ∷ Miss ∷ [])
      × (part (set_index 0) ways_per_set after_five
      ≡ clean_entry 256 ∷ clean_entry 192 ∷ clean_entry 128 ∷ clean_entry 64 ∷ [])
  -- 8: then 64 is a hit2
  pub sixth_read : (access_of false 64 after_five).found ≡ Hit2
  -- 9: an op at end - 1 begins: the window is still the first, and an op of its script is done
  pub begins_before_end :
      ((step_at (first_end - 1)).state.windows ≡ 0)
      × (position_at (step_at (first_end - 1)).state 0 ≡ 1)
  -- 10: at the end none does: the step is a switch
  pub none_at_end :
      ((step_at first_end).state.windows ≡ 1) × (position_at (step_at first_end).state 0 ≡ 0)
  -- 11: the empty text gives 5, offset 0
  pub empty_text : read_code [] ≡ code_with 5 0
