-- `pirkvezo::bounding::pirkvezo_step_bound` meets its contract. Assumes nothing.
use mathlib.Core.Path.{ap, sym, ◌∙◌}
use Rattle.std.specs.Prelude.{Ok, Err}
use Rattle.bound.specs.Bound.{bound_answer}
use Rattle.pirkvezo.proofs.Bounds.{bound_fit, bound_unfit}
use Rattle.pirkvezo.proofs.Calls.{read_lengths, told}
use Rattle.pirkvezo.proofs.bounding.pirkvezo_step_bound.Goals as goal

pub returns-then-not-plan_fits : goal.returns-then-not-plan_fits
returns-then-not-plan_fits c =
    let start = c.args in
    bound_unfit start.plan.now start.scripts.now start.answer.now _ _ (sym c.plan_fits.ensures ∙ c.if-not-plan_fits.true)
    (told c.refuse_length.ensures)

pub load_plan-lent-requires : goal.load_plan-lent-requires
load_plan-lent-requires c =
    let start = c.args in
    (read_lengths start.plan.now start.answer.now (sym c.plan_fits.ensures ∙ c.if-not-plan_fits.false)).0

pub returns-in-Ok : goal.returns-in-Ok
returns-in-Ok c =
    let start = c.args in
    bound_fit start.plan.now start.scripts.now start.answer.now _ _ _ (bound_answer (Ok c.in-Ok.steps))
    (sym c.plan_fits.ensures ∙ c.if-not-plan_fits.false)
    c.load_plan-lent.ensures
    (ap bound_answer (sym c.in-Ok.is) ∙ c.step_bound.ensures)
    (told c.put_answer.ensures)

pub returns-in-Err : goal.returns-in-Err
returns-in-Err c =
    let start = c.args in
    bound_fit start.plan.now start.scripts.now start.answer.now _ _ _ (bound_answer (Err c.in-Err.refusal))
    (sym c.plan_fits.ensures ∙ c.if-not-plan_fits.false)
    c.load_plan-lent.ensures
    (ap bound_answer (sym c.in-Err.is) ∙ c.step_bound.ensures)
    (told c.refuse.ensures)
