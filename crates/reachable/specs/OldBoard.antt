-- Document 02, E7: what its write-back changes. On the old board, whose access is document 01's, a
-- dirty line that is replaced changes nothing in L2. It touches the return path too: its ops and its
-- switches make that access. It is defined here to say that no run from a fresh start shows which
-- of the two boards it ran on. Assumes nothing.
use Rattle.std.specs.Prelude.{ℕ, ◌≤◌, true, List, ◌≡◌, get_or, length}
use Rattle.plan.specs.declared.Plan.{Plan}
use Rattle.plan.specs.Validity.{plan_valid}
use Rattle.script.specs.declared.Op.{Op}
use Rattle.cache.specs.Access.{old_access_of}
use Rattle.cache.specs.Lines.{clean_entry, holds_line, l1_index, most_line, set_index, set_of}
use Rattle.records.specs.Records.{in_parts, part_records}
use Rattle.ops.specs.Ops.{Effect, effect_by}
use Rattle.state.specs.World.{World}
use Rattle.machine.specs.Fresh.{fresh_world, reached_world}
use Rattle.machine.specs.Steps.{RunEffect, run_by, run_of, step_by}

-- ---- the machine of the old board

-- an op of a domain
abbrev pub old_effect_of : Plan → ℕ → Op → List ℕ → List ℕ → Effect
old_effect_of = effect_by old_access_of

-- one step, and a run under a limit
abbrev pub old_step_of : Plan → List ℕ → ℕ → World → World
old_step_of plan scripts quota = step_by old_access_of (in_parts quota) plan scripts quota

abbrev pub old_run_of : Plan → List ℕ → ℕ → ℕ → World → RunEffect
old_run_of plan scripts quota = run_by old_access_of (in_parts quota) plan scripts quota

-- ---- what holds of the two

-- every line that L1 holds is the most recent of its set
abbrev pub InFront : List ℕ → Type 0
InFront cache =
    (line : ℕ) → line ≤ most_line
    → holds_line (get_or cache (l1_index line) 0) line ≡ true
    → get_or cache (set_index (set_of line)) 0 ≡ clean_entry line

-- so it is wherever a run comes to from a fresh start
abbrev pub LinesInFront : Type 0
LinesInFront =
    (plan : Plan) (scripts log : List ℕ) (count : ℕ) → plan_valid plan ≡ true
    → InFront (reached_world plan scripts log count).cache

-- and no run from a fresh start, under any limit, shows the board: it does as many steps on both,
-- and leaves the same state, cache table, boxes and log
abbrev pub NothingShown : Type 0
NothingShown =
    (plan : Plan) (scripts log : List ℕ) (limit : ℕ) → plan_valid plan ≡ true
    → run_of plan scripts (part_records plan (length log)) limit (fresh_world log)
    ≡ old_run_of plan scripts (part_records plan (length log)) limit (fresh_world log)
