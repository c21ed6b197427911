-- `pirkvezo::reading::pirkvezo_read_plan` meets its contract. Assumes nothing.
use mathlib.Core.Path.{ap, sym, ◌∙◌}
use Rattle.std.specs.Prelude.{Result, Ok, Err}
use Rattle.plan.specs.declared.Plan.{Plan}
use Rattle.reader.specs.Read.{read_result}
use Rattle.refusal.specs.declared.Refusal.{Refusal}
use Rattle.pirkvezo.specs.Numbers.{plan_numbers}
use Rattle.pirkvezo.proofs.Calls.{read_fit, read_lengths, read_unfit, told}
use Rattle.pirkvezo.proofs.reading.pirkvezo_read_plan.Goals as goal

pub returns-then-not-plan_fits : goal.returns-then-not-plan_fits
returns-then-not-plan_fits c =
    let start = c.args in
    read_unfit start.text.now start.scripts.now start.plan.now start.answer.now _ _ (sym c.plan_fits.ensures ∙ c.if-not-plan_fits.true)
    (told c.refuse_length.ensures)

pub store_plan-requires : goal.store_plan-requires
store_plan-requires c =
    let start = c.args in
    (read_lengths start.plan.now start.answer.now (sym c.plan_fits.ensures ∙ c.if-not-plan_fits.false)).0

pub store_plan-requires-in-Err : goal.store_plan-requires-in-Err
store_plan-requires-in-Err c =
    let start = c.args in
    (read_lengths start.plan.now start.answer.now (sym c.plan_fits.ensures ∙ c.if-not-plan_fits.false)).0

pub returns-in-Ok : goal.returns-in-Ok
returns-in-Ok c =
    let start = c.args in
    read_fit start.text.now start.scripts.now start.plan.now start.answer.now _ _ (read_result (Ok c.in-Ok.read) c.read_plan.new.scripts) _
    (sym c.plan_fits.ensures ∙ c.if-not-plan_fits.false)
    (ap (λ (read : Result Plan Refusal). read_result read c.read_plan.new.scripts) (sym c.in-Ok.is) ∙ c.read_plan.ensures)
    c.store_plan.ensures
    (told c.put_answer.ensures)

pub returns-in-Err : goal.returns-in-Err
returns-in-Err c =
    let start = c.args in
    read_fit start.text.now start.scripts.now start.plan.now start.answer.now _ _ (read_result (Err c.in-Err.refusal) c.read_plan.new.scripts) _
    (sym c.plan_fits.ensures ∙ c.if-not-plan_fits.false)
    (ap (λ (read : Result Plan Refusal). read_result read c.read_plan.new.scripts) (sym c.in-Err.is) ∙ c.read_plan.ensures)
    (c.store_plan-in-Err.ensures ∙ ap plan_numbers c.no_plan.ensures)
    (told c.refuse.ensures)
