-- Document 01, "Window, switch, run" and "Two lists of calls": where every run starts, and what it reaches. Assumes nothing.
use Rattle.std.specs.Prelude.{ℕ, List, length}
use Rattle.plan.specs.declared.Plan.{Plan}
use Rattle.cache.specs.Lines.{empty_table}
use Rattle.records.specs.Records.{part_records}
use Rattle.ops.specs.Ops.{empty_boxes}
use Rattle.state.specs.World.{World, fresh_state}
use Rattle.machine.specs.Steps.{steps}

-- the world after a fresh start: state, cache table and boxes are all zeros, and the log is as it was lent
unfoldable pub fresh_world : List ℕ → World
fresh_world log = record { state = fresh_state; cache = empty_table; boxes = empty_boxes; log = log }

-- the world after n steps from a fresh start, beside a log that is divided into the domains' parts
abbrev pub reached_world : Plan → List ℕ → List ℕ → ℕ → World
reached_world plan scripts log count = steps plan scripts (part_records plan (length log)) count (fresh_world log)
