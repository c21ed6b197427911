-- Document 01, "Window, switch, run": a single step, and running with a number of steps as its limit. Assumes nothing.
use Rattle.std.specs.Prelude.{ℕ, Bool, cond, List, length, Ok, Err}
use Rattle.plan.specs.declared.Plan.{Plan}
use Rattle.records.specs.Records.{part_records}
use Rattle.state.specs.World.{World, ended_of}
use Rattle.machine.specs.Steps.{RunEffect, run_of}
use Rattle.engine.specs.declared.Ending.{Ending}
use Rattle.engine.specs.declared.Ending.TheVariants.{Stopped, Ended}
use Rattle.engine.specs.Checks.{run_verdict}
use Rattle.refusal.specs.Verdict.{Verdict}

-- what a run answers and leaves
pub record RunOutcome : Type 0 where
  pub verdict : Verdict
  pub steps : ℕ
  pub ending : Ending
  pub world : World

-- *ended*, or *stopped*: the limit was reached first
abbrev pub ending_of : Bool → Ending
ending_of ended = cond ended Ended Stopped

-- what a run answers that was not refused
unfoldable pub ran_from : Plan → RunEffect → RunOutcome
ran_from plan ran =
    record
    { verdict = Ok tt; steps = ran.done; ending = ending_of (ended_of plan ran.world.state); world = ran.world }

-- what any run answers, by its verdict: a refused one changes nothing, and does no step
abbrev pub outcome_from : Verdict → Plan → RunEffect → World → RunOutcome
outcome_from (Ok tt) plan ran world = ran_from plan ran
outcome_from (Err refusal) plan ran world =
    record { verdict = Err refusal; steps = 0; ending = Stopped; world = world }

-- a run with the whole log, whose length gives how many records a part holds
abbrev pub run_from : Verdict → Plan → List ℕ → World → ℕ → RunOutcome
run_from verdict plan scripts world limit =
    outcome_from verdict plan
    (run_of plan scripts (part_records plan (length world.log)) limit world) world

-- running with a limit
unfoldable pub run_call_of : Plan → List ℕ → World → ℕ → RunOutcome
run_call_of plan scripts world limit = run_from (run_verdict plan scripts world) plan scripts world limit

-- a single step is a run whose limit is one step
unfoldable pub step_call_of : Plan → List ℕ → World → RunOutcome
step_call_of plan scripts world = run_call_of plan scripts world 1

-- the number that stands for an ending: 0 for stopped, 1 for ended
abbrev pub ending_number : Ending → ℕ
ending_number Stopped = 0
ending_number Ended = 1
