-- Document 01, "The plan text", 13, and document 02, E7: a world that is lent and not refused for
-- its tables. Assumes nothing.
use Rattle.std.specs.Prelude.{ℕ, true, List, ◌≡◌, length}
use Rattle.plan.specs.declared.Plan.{Plan}
use Rattle.plan.specs.Validity.{plan_valid}
use Rattle.cache.specs.Lines.{table_length}
use Rattle.ops.specs.Ops.{boxes_length}
use Rattle.state.specs.TableValidity.{tables_valid}
use Rattle.state.specs.World.{World}
use Rattle.machine.specs.Steps.{steps}

-- cache table and boxes have their lengths (11) and are not damaged (13)
pub record TablesSound (plan : Plan) (world : World) : Type 0 where
  pub cache_long : length world.cache ≡ table_length
  pub boxes_long : length world.boxes ≡ boxes_length
  pub valid : tables_valid plan world.state world.cache world.boxes ≡ true

-- no number of steps damages them, from whatever world: a line that is written back goes into its
-- own set, once, and with no empty before it
abbrev pub LentStaysSound : Type 0
LentStaysSound =
    (plan : Plan) (scripts : List ℕ) (quota count : ℕ) (world : World) → plan_valid plan ≡ true
    → TablesSound plan world
    → TablesSound plan (steps plan scripts quota count world)
