-- Document 02, E8: running with only one operator's log, and what it has to do with running.
-- Assumes nothing.
use Rattle.std.specs.Prelude.{ℕ, ◌<◌, List, ◌≡◌, length}
use Rattle.plan.specs.declared.Plan.{Plan}
use Rattle.records.specs.declared.Keep.TheVariants.{One}
use Rattle.records.specs.Records.{part_records}
use Rattle.state.specs.World.{World}
use Rattle.machine.specs.Keeping.{kept_world}
use Rattle.machine.specs.Steps.{run_keeping}
use Rattle.engine.specs.Checks.{kept_verdict}
use Rattle.engine.specs.Running.{RunOutcome, outcome_from, run_call_of}

-- running with a limit, where only one domain's records are stored, in a buffer as long as one
-- part, which holds `quota` records. The world's log is that buffer.
unfoldable pub kept_call_of : Plan → List ℕ → ℕ → ℕ → World → ℕ → RunOutcome
kept_call_of plan scripts domain quota world limit =
    outcome_from (kept_verdict plan scripts domain quota world) plan
    (run_keeping (One domain) plan scripts quota limit world) world

-- what a run answers and leaves, with one domain's part for the log
abbrev pub kept_outcome : ℕ → ℕ → RunOutcome → RunOutcome
kept_outcome quota domain run =
    record {
      verdict = run.verdict;
      steps = run.steps;
      ending = run.ending;
      world = kept_world quota domain run.world;
    }

-- handed the same as a run, with the number of records that the whole log's length gives and a
-- declared domain's part of that log for its buffer, it answers what the run answers, refused or
-- not: number, steps and ending; and it leaves what the run leaves: state, cache table, boxes, and
-- in its buffer that domain's part of the log. Of every plan, store and world, reachable or not.
abbrev pub KeptCallsAlike : Type 0
KeptCallsAlike =
    (plan : Plan) (scripts : List ℕ) (world : World) (limit domain quota : ℕ)
    → domain < plan.domains
    → quota ≡ part_records plan (length world.log)
    → kept_call_of plan scripts domain quota (kept_world quota domain world) limit
    ≡ kept_outcome quota domain (run_call_of plan scripts world limit)
