-- Document 01, "The plan text", and document 02, E8: the refusals of the entry points that work on
-- a plan value: lengths (11), plan validity (12), table validity (13), state validity (14), and
-- last a domain that is not declared (4), in this order, each where the call takes that thing.
-- Assumes nothing.
use Rattle.std.specs.Prelude.{ℕ, ◌*◌, Bool, ◌&&◌, List, eqb, ltb, length, Ok}
use Rattle.plan.specs.declared.Plan.{Plan}
use Rattle.plan.specs.Validity.{plan_valid}
use Rattle.script.specs.Limits.{scripts_length}
use Rattle.cache.specs.Lines.{table_length}
use Rattle.records.specs.Records.{part_records, record_size}
use Rattle.ops.specs.Ops.{boxes_length}
use Rattle.state.specs.declared.State.{State}
use Rattle.state.specs.TableValidity.{tables_valid}
use Rattle.state.specs.StateValidity.{state_valid}
use Rattle.state.specs.World.{World}
use Rattle.refusal.specs.declared.Refusal.TheVariants.{DamagedTable, ImpossiblePlan}
use Rattle.refusal.specs.declared.Refusal.TheVariants.{ImpossibleState, WrongDomain, WrongLength}
use Rattle.refusal.specs.Checks.{unless}
use Rattle.refusal.specs.Verdict.{Verdict}

-- 11: the cache table and the boxes have their lengths
abbrev pub tables_fit : List ℕ → List ℕ → Bool
tables_fit cache boxes = eqb (length cache) table_length && eqb (length boxes) boxes_length

-- a fresh start: 11 and 12. What state, cache table and boxes hold is not looked at, since it is
-- overwritten.
unfoldable pub fresh_verdict : Plan → List ℕ → List ℕ → Verdict
fresh_verdict plan cache boxes =
    unless (tables_fit cache boxes) WrongLength
    (unless (plan_valid plan) ImpossiblePlan (Ok tt))

-- what a step and a run are lent beside their log: 11, 12, 13; then the checks that follow
unfoldable pub lent_verdict : Plan → List ℕ → State → List ℕ → List ℕ → Verdict → Verdict
lent_verdict plan scripts state cache boxes next =
    unless (eqb (length scripts) scripts_length && tables_fit cache boxes) WrongLength
    (unless (plan_valid plan) ImpossiblePlan
    (unless (tables_valid plan state cache boxes) DamagedTable next))

-- a step and a run take everything: 11, 12, 13, 14
unfoldable pub run_verdict : Plan → List ℕ → World → Verdict
run_verdict plan scripts world =
    lent_verdict plan scripts world.state world.cache world.boxes
    (unless (state_valid plan (part_records plan (length world.log)) world.state)
    ImpossibleState (Ok tt))

-- a run that keeps one domain's log, where a part holds `quota` records: 11 also where the buffer
-- is not one part long; 12, 13; 14 against that number of records; and last 4 for a domain that is
-- not declared
unfoldable pub kept_verdict : Plan → List ℕ → ℕ → ℕ → World → Verdict
kept_verdict plan scripts domain quota world =
    unless (eqb (length world.log) (record_size * quota)) WrongLength
    (lent_verdict plan scripts world.state world.cache world.boxes
    (unless (state_valid plan quota world.state) ImpossibleState
    (unless (ltb domain plan.domains) (WrongDomain 0) (Ok tt))))

-- a log query takes plan, state, log and a domain: 12, 14, and last 4 for a domain that is not
-- declared
unfoldable pub log_verdict : Plan → State → List ℕ → ℕ → Verdict
log_verdict plan state log domain =
    unless (plan_valid plan) ImpossiblePlan
    (unless (state_valid plan (part_records plan (length log)) state) ImpossibleState
    (unless (ltb domain plan.domains) (WrongDomain 0) (Ok tt)))
