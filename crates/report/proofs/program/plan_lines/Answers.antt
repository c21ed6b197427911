-- `report::program::plan_lines` meets its contract. Assumes nothing.
use mathlib.Core.List.{List}
use mathlib.Core.Path.{◌≡◌, ◌∙◌, ap, sym}
use Prim.Native.Nat.{ℕ}
use Rattle.std.specs.Prelude.{Result, Ok, Err}
use Rattle.plan.specs.declared.Plan.{Plan}
use Rattle.refusal.specs.declared.Refusal.{Refusal}
use Rattle.reader.proofs.Accepted.{accepted_valid}
use Rattle.reader.specs.Draft.{no_ops}
use Rattle.reader.specs.Read.{ReadOutcome, read_of, read_result}
use Rattle.lists.proofs.Stores.{wrote_as}
use Rattle.report.proofs.Planned.{planned_ran, planned_refused}
use Rattle.report.proofs.program.plan_lines.Goals as goal

-- what a reading answered, of some kind, is the definition's
read_as : (text scripts store : List ℕ) {read kind : Result Plan Refusal} → read ≡ kind
    → read_result read scripts ≡ read_of text store → read_result kind scripts ≡ read_of text store
read_as text scripts store is did = ap (λ (answer : Result Plan Refusal). read_result answer scripts) (sym is) ∙ did

pub run_lines-requires : goal.run_lines-requires
run_lines-requires c =
    let read = read_as _ _ _ c.in-Ok.is c.read_plan.ensures in
    rw (ap (λ (outcome : ReadOutcome). outcome.plan) read)
    (accepted_valid _ _ (sym (ap (λ (outcome : ReadOutcome). outcome.verdict) read)))

pub returns-in-Err : goal.returns-in-Err
unfolding no_ops
returns-in-Err c =
    let read = read_as _ _ _ c.in-Err.is c.read_plan.ensures in
    let lines = planned_refused _ _ _ (ap (λ (outcome : ReadOutcome). outcome.verdict) read) c.from.ensures in
    wrote_as _ 0 lines c.write_refusal.ensures

pub returns-in-Ok : goal.returns-in-Ok
unfolding no_ops
returns-in-Ok c =
    let lines = planned_ran _ _ _ (read_as _ _ _ c.in-Ok.is c.read_plan.ensures) in
    wrote_as _ 0 lines c.run_lines.ensures
