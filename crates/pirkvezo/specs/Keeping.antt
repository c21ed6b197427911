-- `pirkvezo_run_kept`: running with only one domain's log, document 02, E8, in numbers: what it
-- returns and leaves, for every input. Assumes nothing.
use Rattle.std.specs.Prelude.{ℕ, ◌<◌, List, ◌≡◌, length}
use Rattle.plan.specs.declared.Plan.{Plan}
use Rattle.records.specs.Records.{log_part, part_records}
use Rattle.state.specs.World.{World}
use Rattle.engine.specs.Keeping.{kept_call_of}
use Rattle.pirkvezo.specs.Numbers.{plan_of}
use Rattle.pirkvezo.specs.Running.{RunCall, host_run, host_run_by}

-- the log among the buffers is the one domain's
unfoldable pub host_run_kept :
    List ℕ → List ℕ → List ℕ → List ℕ → List ℕ → List ℕ → ℕ → ℕ → ℕ → List ℕ → RunCall
host_run_kept plan scripts state cache boxes kept domain part limit answer =
    host_run_by (λ (lent : Plan) (world : World). kept_call_of lent scripts domain part world limit)
    plan state cache boxes kept answer

-- a run's numbers, with one domain's part for the log
abbrev pub kept_numbers : ℕ → ℕ → RunCall → RunCall
kept_numbers part domain call =
    record {
      number = call.number;
      state = call.state;
      cache = call.cache;
      boxes = call.boxes;
      log = log_part part domain part call.log;
      answer = call.answer;
    }

-- handed the same arrays as `pirkvezo_run`, with the number of records that the whole log's length
-- gives and a declared domain's part of that log, it returns the same number, and leaves the same
-- state, cache table, boxes and answer, and that domain's part of the log. Of all numbers in the
-- arrays, refused or not.
abbrev pub KeptNumbersAlike : Type 0
KeptNumbersAlike =
    (plan scripts state cache boxes log : List ℕ) (domain part limit : ℕ) (answer : List ℕ)
    → domain < (plan_of plan).domains
    → part ≡ part_records (plan_of plan) (length log)
    → host_run_kept plan scripts state cache boxes (log_part part domain part log)
    domain part limit answer
    ≡ kept_numbers part domain (host_run plan scripts state cache boxes log limit answer)
