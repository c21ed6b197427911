-- What passes the checks one by one is accepted. Assumes nothing.
use Rattle.std.specs.Prelude.{Ok}
use Prim.Native.Nat.{ℕ, ◌<◌}
use mathlib.Core.Bool.{true}
use mathlib.Core.List.{List}
use mathlib.Core.Path.{◌≡◌}
use lib.ListN.{length}
use borrow.Author.Tests.{eq-eqb, lt-ltb}
use Rattle.plan.specs.declared.Plan.{Plan}
use Rattle.plan.specs.Validity.{plan_valid}
use Rattle.script.specs.Limits.{scripts_length}
use Rattle.cache.specs.Lines.{table_length}
use Rattle.records.specs.Records.{part_records}
use Rattle.ops.specs.Ops.{boxes_length}
use Rattle.state.specs.declared.State.{State}
use Rattle.state.specs.TableValidity.{tables_valid}
use Rattle.state.specs.StateValidity.{state_valid}
use Rattle.state.specs.World.{World}
use Rattle.engine.specs.LogQuery.{log_status_of}
use Rattle.engine.specs.Checks.{lent_verdict, log_verdict, run_verdict}

-- what a step or a run takes
pub run_passes : (plan : Plan) (scripts : List ℕ) (world : World)
    → length scripts ≡ scripts_length
    → length world.cache ≡ table_length
    → length world.boxes ≡ boxes_length
    → plan_valid plan ≡ true
    → tables_valid plan world.state world.cache world.boxes ≡ true
    → state_valid plan (part_records plan (length world.log)) world.state ≡ true
    → run_verdict plan scripts world ≡ Ok tt
unfolding run_verdict lent_verdict
run_passes plan scripts world store cache boxes possible sound passes =
    rw (
      eq-eqb (length scripts) scripts_length store,
      eq-eqb (length world.cache) table_length cache,
      eq-eqb (length world.boxes) boxes_length boxes,
      possible,
      sound,
      passes,
      run_verdict,
      lent_verdict,
    )

-- what a query for a declared domain's log takes
pub log_query_passes : (plan : Plan) (state : State) (log : List ℕ) (domain : ℕ)
    → plan_valid plan ≡ true
    → state_valid plan (part_records plan (length log)) state ≡ true
    → domain < plan.domains
    → log_status_of plan state log domain ≡ Ok tt
unfolding log_status_of log_verdict
log_query_passes plan state log domain possible passes declared =
    rw (possible, passes, lt-ltb domain plan.domains declared, log_verdict)
