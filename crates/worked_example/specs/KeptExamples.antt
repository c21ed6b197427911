-- Document 02, E8: examples of runs that keep only one domain's log, on the settled plan of
-- document 01. Assumes nothing.
use Rattle.std.specs.Prelude.{ℕ, ◌*◌, ◌^◌, [], ◌++◌, ◌≡◌, replicate, take, Ok, Err}
use Rattle.records.specs.declared.Observation.TheVariants.{Empty, Got, Hit1, Miss, Sent}
use Rattle.records.specs.Records.{record_bytes, record_size}
use Rattle.state.specs.World.{records_at}
use Rattle.machine.specs.Fresh.{fresh_world}
use Rattle.refusal.specs.declared.Refusal.TheVariants.{WrongDomain, WrongLength}
use Rattle.engine.specs.declared.Ending.TheVariants.{Ended}
use Rattle.engine.specs.Keeping.{kept_call_of}
use Rattle.engine.specs.Running.{RunOutcome}
use Rattle.worked_example.specs.WorkedExample.{example_read}

-- a run of the settled plan from a fresh start that keeps a domain's log, beside a buffer of some
-- bytes
abbrev pub kept_from : ℕ → ℕ → ℕ → ℕ → RunOutcome
kept_from domain quota bytes limit =
    kept_call_of example_read.plan example_read.scripts domain quota
    (fresh_world (replicate bytes 0)) limit

-- the same, beside a buffer of one part
abbrev pub kept_run : ℕ → ℕ → ℕ → RunOutcome
kept_run domain quota limit = kept_from domain quota (record_size * quota) limit

pub record KeptExamples : Type 0 where
  -- ten records a part: the run does its seven steps and ends, and the buffer holds domain 0's
  -- three records, or domain 1's two, as the settled output has them
  pub ends : ((kept_run 0 10 100).verdict ≡ Ok tt) × ((kept_run 0 10 100).ending ≡ Ended)
  pub steps : ((kept_run 0 10 100).steps ≡ 7) × ((kept_run 1 10 100).steps ≡ 7)
  pub first :
      take 24 (kept_run 0 10 100).world.log
      ≡ record_bytes (Miss 3) 100 ++ (record_bytes (Hit1 3) 101 ++ record_bytes (Sent 1) 306)
  pub second :
      take 16 (kept_run 1 10 100).world.log ≡ record_bytes (Got 77) 882 ++ record_bytes (Miss 100) 982
  -- a limit that stops it in domain 1's window, after domain 0's window and one op
  pub stopped :
      ((kept_run 1 10 5).steps ≡ 5)
      × (take 8 (kept_run 1 10 5).world.log ≡ record_bytes (Got 77) 882)
      × (records_at (kept_run 1 10 5).world.state 0 ≡ 3)
  -- one record a part: domain 0 is idle after its first op, though its records are not kept, so
  -- that its word is never sent, and domain 1 finds the box empty
  pub idle :
      ((kept_run 1 1 100).steps ≡ 4)
      × ((kept_run 1 1 100).world.log ≡ record_bytes (Empty 0) 882)
      × (records_at (kept_run 1 1 100).world.state 0 ≡ 1)
  -- no record a part: both are idle, and the buffer has no byte
  pub none : ((kept_run 0 0 100).steps ≡ 2) × ((kept_run 0 0 100).world.log ≡ [])
  -- a buffer of another length is 11, also where the part's bytes would be 0 in 64 bits
  pub lengths :
      ((kept_from 0 10 79 100).verdict ≡ Err WrongLength)
      × ((kept_from 0 9 80 100).verdict ≡ Err WrongLength)
      × ((kept_from 0 (2 ^ 61) 0 100).verdict ≡ Err WrongLength)
  -- domain 2 is not declared
  pub undeclared : (kept_run 2 10 100).verdict ≡ Err (WrongDomain 0)
