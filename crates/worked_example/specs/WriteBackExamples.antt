-- Document 02, E7: examples on lent tables, which alone show it: what an access finds, takes, writes
-- back and leaves of a set; what ops write back; a step on this board and on the old one; and a
-- switch. Assumes nothing.
use Rattle.std.specs.Prelude.{ℕ, true, false, List, [], ◌∷◌, ◌≡◌, replicate, set, Option, Some, None}
use Rattle.lists.specs.Part.{part, splice}
use Rattle.cache.specs.declared.AccessKind.{AccessKind}
use Rattle.cache.specs.declared.AccessKind.TheVariants.{Hit1, Hit2, Miss}
use Rattle.cache.specs.Access.{AccessOutcome, access_of, old_access_of}
use Rattle.cache.specs.Lines.{clean_entry, dirty_entry, empty_table, kernel_entries, kernel_index}
use Rattle.cache.specs.Lines.{l1_index, l1_length, set_index, ways_per_set}
use Rattle.script.specs.declared.Op.{Op}
use Rattle.script.specs.declared.Op.TheVariants.{Read, Receive, Send}
use Rattle.script.specs.Stored.{stored_of}
use Rattle.ops.specs.Ops.{Effect, effect_of, empty_boxes}
use Rattle.state.specs.TableValidity.{tables_valid}
use Rattle.state.specs.World.{World, fresh_state}
use Rattle.machine.specs.Steps.{step_of}
use Rattle.machine.specs.Switch.{switch_of}
use Rattle.reachable.specs.OldBoard.{old_step_of}
use Rattle.worked_example.specs.WorkedExample.{example_read}

-- an empty table but for the L1 number of a line and the ways of a set
abbrev pub lent_table : ℕ → ℕ → ℕ → List ℕ → List ℕ
lent_table line entry number ways =
    set (splice (set_index number) ways_per_set ways empty_table) (l1_index line) entry

-- line 0 is dirty in L1, and not in its set: that is full, or has an empty way
abbrev pub full_ways : List ℕ
full_ways = clean_entry 64 ∷ clean_entry 128 ∷ clean_entry 192 ∷ clean_entry 256 ∷ []

abbrev pub roomy_ways : List ℕ
roomy_ways = clean_entry 64 ∷ clean_entry 128 ∷ clean_entry 192 ∷ 0 ∷ []

abbrev pub full_table : List ℕ
full_table = lent_table 0 (dirty_entry 0) 0 full_ways

abbrev pub roomy_table : List ℕ
roomy_table = lent_table 0 (dirty_entry 0) 0 roomy_ways

-- what an access answers, with the ways that it leaves of a set
pub record Answered : Type 0 where
  pub found : AccessKind
  pub ticks : ℕ
  pub back : Option ℕ
  pub ways : List ℕ

abbrev pub answered : ℕ → AccessOutcome → Answered
answered number outcome =
    record {
      found = outcome.found;
      ticks = outcome.ticks;
      back = outcome.back;
      ways = part (set_index number) ways_per_set outcome.table;
    }

-- those four in a row
abbrev pub answer : AccessKind → ℕ → Option ℕ → List ℕ → Answered
answer found ticks back ways = record { found = found; ticks = ticks; back = back; ways = ways }

-- lines 12 and 13, whose L1 indices are those of line 60 and of every box's line, are dirty in L1
abbrev pub both_table : List ℕ
both_table = set (set empty_table (l1_index 12) (dirty_entry 12)) (l1_index 13) (dirty_entry 13)

-- and so are lines 28 and 29, which are domain 1's
abbrev pub other_table : List ℕ
other_table = set (set empty_table (l1_index 28) (dirty_entry 28)) (l1_index 29) (dirty_entry 29)

-- what an op takes and writes back
pub record Cost : Type 0 where
  pub ticks : ℕ
  pub first : Option ℕ
  pub second : Option ℕ

abbrev pub cost : ℕ → Option ℕ → Option ℕ → Cost
cost ticks first second = record { ticks = ticks; first = first; second = second }

abbrev pub cost_of : Effect → Cost
cost_of effect = cost effect.ticks effect.first effect.second

-- an op of a domain of the example's plan
abbrev pub effect_at : ℕ → Op → List ℕ → Effect
effect_at domain op table = effect_of example_read.plan domain op table empty_boxes

-- the world of a fresh start but for its cache table
abbrev pub lent_world : List ℕ → World
lent_world table = record { state = fresh_state; cache = table; boxes = empty_boxes; log = replicate 160 0 }

-- a script store that begins with a read of line 256
abbrev pub read_first : List ℕ
read_first = stored_of (Read 256) ∷ []

-- a table in which L1 has a dirty line of set 0, which is full without it, and one of a box
abbrev pub switch_table : List ℕ
switch_table = set (set full_table (l1_index 125) (dirty_entry 125)) (set_index 61) (clean_entry 61)

pub record WriteBackExamples : Type 0 where
  -- line 0 goes in at the front of the full set and drops line 256, which is asked for: a miss
  pub dropped :
      answered 0 (access_of false 256 full_table)
      ≡ answer Miss 104 (Some 0)
      (clean_entry 256 ∷ clean_entry 0 ∷ clean_entry 64 ∷ clean_entry 128 ∷ [])
  -- on the old board line 256 is found
  pub dropped_on_the_old_board :
      answered 0 (old_access_of false 256 full_table)
      ≡ answer Hit2 14 (Some 0)
      (clean_entry 256 ∷ clean_entry 64 ∷ clean_entry 128 ∷ clean_entry 192 ∷ [])
  -- with an empty way nothing is dropped
  pub roomy :
      answered 0 (access_of false 64 roomy_table)
      ≡ answer Hit2 14 (Some 0)
      (clean_entry 64 ∷ clean_entry 0 ∷ clean_entry 128 ∷ clean_entry 192 ∷ [])
  -- a line that is in its set already, behind others, moves up
  pub behind :
      answered 0
      (access_of false 64
      (lent_table 0 (dirty_entry 0) 0
      (clean_entry 64 ∷ clean_entry 128 ∷ clean_entry 0 ∷ clean_entry 192 ∷ [])))
      ≡ answer Hit2 14 (Some 0)
      (clean_entry 64 ∷ clean_entry 0 ∷ clean_entry 128 ∷ clean_entry 192 ∷ [])
  -- a line of another set: one with room, a full one, and one that has the line last
  pub elsewhere :
      answered 16
      (access_of true 0 (lent_table 16 (dirty_entry 16) 16 (clean_entry 80 ∷ 0 ∷ 0 ∷ 0 ∷ [])))
      ≡ answer Miss 104 (Some 16) (clean_entry 16 ∷ clean_entry 80 ∷ 0 ∷ 0 ∷ [])
  pub elsewhere_full :
      answered 16
      (access_of false 0
      (lent_table 16 (dirty_entry 16) 16
      (clean_entry 80 ∷ clean_entry 144 ∷ clean_entry 208 ∷ clean_entry 272 ∷ [])))
      ≡ answer Miss 104 (Some 16)
      (clean_entry 16 ∷ clean_entry 80 ∷ clean_entry 144 ∷ clean_entry 208 ∷ [])
  pub elsewhere_last :
      answered 16
      (access_of false 0
      (lent_table 16 (dirty_entry 16) 16
      (clean_entry 80 ∷ clean_entry 144 ∷ clean_entry 208 ∷ clean_entry 16 ∷ [])))
      ≡ answer Miss 104 (Some 16)
      (clean_entry 16 ∷ clean_entry 80 ∷ clean_entry 144 ∷ clean_entry 208 ∷ [])
  -- a line of the kernel's, which moves up from behind line 61; and the highest line
  pub kernel :
      answered 61
      (access_of false 13
      (lent_table 125 (dirty_entry 125) 61 (clean_entry 61 ∷ clean_entry 125 ∷ 0 ∷ 0 ∷ [])))
      ≡ answer Miss 104 (Some 125) (clean_entry 125 ∷ clean_entry 61 ∷ 0 ∷ 0 ∷ [])
  pub highest :
      answered 63 (access_of false 15 (lent_table 4_095 (dirty_entry 4_095) 63 (0 ∷ 0 ∷ 0 ∷ 0 ∷ [])))
      ≡ answer Miss 104 (Some 4_095) (clean_entry 4_095 ∷ 0 ∷ 0 ∷ 0 ∷ [])
  -- a clean line is not written back, and a line that L1 holds replaces none
  pub clean :
      answered 0 (access_of false 256 (lent_table 0 (clean_entry 0) 0 full_ways))
      ≡ answer Hit2 10 None
      (clean_entry 256 ∷ clean_entry 64 ∷ clean_entry 128 ∷ clean_entry 192 ∷ [])
  pub held : answered 0 (access_of false 0 full_table) ≡ answer Hit1 1 None full_ways
  -- what a read writes back, and one that is barred
  pub reads :
      (cost_of (effect_at 0 (Read 256) full_table) ≡ cost 104 (Some 0) None)
      × (cost_of (effect_at 0 (Read 32) full_table) ≡ cost 5 None None)
      × ((effect_at 0 (Read 32) full_table).cache ≡ full_table)
  -- what a message writes back, where it is allowed and where it is denied
  pub messages :
      (cost_of (effect_at 0 (Send 1 77) both_table) ≡ cost 213 (Some 12) (Some 13))
      × (cost_of (effect_at 1 (Receive 0) other_table) ≡ cost 213 (Some 28) (Some 29))
      × (cost_of (effect_at 0 (Receive 1) both_table) ≡ cost 109 (Some 12) None)
  -- a step on each board, from a lent world
  pub steps :
      ((step_of example_read.plan read_first 10 (lent_world full_table)).state.clock ≡ 104)
      × ((old_step_of example_read.plan read_first 10 (lent_world full_table)).state.clock ≡ 14)
  -- a switch writes nothing back: the full set stays, and of what L1 and the kernel's sets held
  -- nothing does; they have the line that the switch touched
  pub switches :
      (part (set_index 0) ways_per_set
      (switch_of example_read.plan (lent_world switch_table)).cache
      ≡ full_ways)
      × (part kernel_index kernel_entries
      (switch_of example_read.plan (lent_world switch_table)).cache
      ≡ set (replicate kernel_entries 0) 0 (clean_entry 60))
      × (part 0 l1_length (switch_of example_read.plan (lent_world switch_table)).cache
      ≡ set (replicate l1_length 0) (l1_index 60) (clean_entry 60))
  -- such tables may be lent: none is damaged
  pub lent :
      (tables_valid example_read.plan fresh_state full_table empty_boxes ≡ true)
      × (tables_valid example_read.plan fresh_state switch_table empty_boxes ≡ true)
