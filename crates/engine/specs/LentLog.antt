-- A run by the log that it is lent, document 01's whole one or document 02's, E8, of one domain:
-- one definition, for the code that does both. Assumes nothing.
use Rattle.std.specs.Prelude.{ℕ, ◌*◌, Bool, true, List, eqb, ltb, length, Ok}
use Rattle.plan.specs.declared.Plan.{Plan}
use Rattle.records.specs.declared.Keep.{Keep}
use Rattle.records.specs.declared.Keep.TheVariants.{Every, One}
use Rattle.records.specs.Records.{part_records, record_size}
use Rattle.state.specs.StateValidity.{state_valid}
use Rattle.state.specs.World.{World}
use Rattle.machine.specs.Steps.{run_keeping}
use Rattle.refusal.specs.declared.Refusal.TheVariants.{ImpossibleState, WrongDomain, WrongLength}
use Rattle.refusal.specs.Checks.{unless}
use Rattle.engine.specs.declared.LentLog.{LentLog}
use Rattle.engine.specs.declared.LentLog.TheVariants.{Part, Whole}
use Rattle.engine.specs.Checks.{lent_verdict}
use Rattle.engine.specs.Running.{RunOutcome, outcome_from}
use Rattle.refusal.specs.Verdict.{Verdict}

-- whose records it keeps
abbrev pub keep_of : LentLog → Keep
keep_of Whole = Every
keep_of (Part domain quota) = One domain

-- how many records each domain has room for, beside the lent bytes
abbrev pub quota_of : LentLog → Plan → ℕ → ℕ
quota_of Whole plan size = part_records plan size
quota_of (Part domain quota) plan size = quota

-- a whole log may have any length, a part has that of its records
abbrev pub log_fits : LentLog → ℕ → Bool
log_fits Whole size = true
log_fits (Part domain quota) size = eqb size (record_size * quota)

-- the domain whose part it is, is declared
abbrev pub domain_fits : LentLog → ℕ → Bool
domain_fits Whole domains = true
domain_fits (Part domain quota) domains = ltb domain domains

-- the verdict, and what the run answers
unfoldable pub lent_log_verdict : LentLog → Plan → List ℕ → World → Verdict
lent_log_verdict lent plan scripts world =
    unless (log_fits lent (length world.log)) WrongLength
    (lent_verdict plan scripts world.state world.cache world.boxes
    (unless (state_valid plan (quota_of lent plan (length world.log)) world.state)
    ImpossibleState
    (unless (domain_fits lent plan.domains) (WrongDomain 0) (Ok tt))))

unfoldable pub lent_call_of : LentLog → Plan → List ℕ → World → ℕ → RunOutcome
lent_call_of lent plan scripts world limit =
    outcome_from (lent_log_verdict lent plan scripts world) plan
    (run_keeping (keep_of lent) plan scripts (quota_of lent plan (length world.log)) limit world)
    world
