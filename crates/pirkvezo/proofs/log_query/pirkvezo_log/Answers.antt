-- `pirkvezo::log_query::pirkvezo_log` meets its contract. Assumes nothing.
use mathlib.Core.Path.{ap, sym, ◌∙◌}
use Rattle.std.specs.Prelude.{Ok, Err}
use Rattle.pirkvezo.specs.LogQuery.{log_answer}
use Rattle.pirkvezo.proofs.Calls.{lengths, log_fit, log_unfit, told}
use Rattle.pirkvezo.proofs.log_query.pirkvezo_log.Goals as goal

pub returns-then-not-all_fit : goal.returns-then-not-all_fit
returns-then-not-all_fit c =
    let start = c.args in
    log_unfit start.plan.now start.state.now start.log.now start.domain start.answer.now _ _ (sym c.all_fit.ensures ∙ c.if-not-all_fit.true)
    (told c.refuse_length.ensures)

pub load_plan-lent-requires : goal.load_plan-lent-requires
load_plan-lent-requires c =
    let start = c.args in
    (lengths start.plan.now start.state.now start.answer.now (sym c.all_fit.ensures ∙ c.if-not-all_fit.false)).plan_is

pub load_state-held-requires : goal.load_state-held-requires
load_state-held-requires c =
    let start = c.args in
    (lengths start.plan.now start.state.now start.answer.now (sym c.all_fit.ensures ∙ c.if-not-all_fit.false)).state_is

pub returns-in-Ok : goal.returns-in-Ok
returns-in-Ok c =
    let start = c.args in
    log_fit start.plan.now start.state.now start.log.now start.domain start.answer.now _ _ _ _ (log_answer (Ok c.in-Ok.part))
    (sym c.all_fit.ensures ∙ c.if-not-all_fit.false)
    c.load_plan-lent.ensures
    c.load_state-held.ensures
    (ap log_answer (sym c.in-Ok.is) ∙ c.query_log.ensures)
    (told c.put_answer.ensures)

pub returns-in-Err : goal.returns-in-Err
returns-in-Err c =
    let start = c.args in
    log_fit start.plan.now start.state.now start.log.now start.domain start.answer.now _ _ _ _ (log_answer (Err c.in-Err.refusal))
    (sym c.all_fit.ensures ∙ c.if-not-all_fit.false)
    c.load_plan-lent.ensures
    c.load_state-held.ensures
    (ap log_answer (sym c.in-Err.is) ∙ c.query_log.ensures)
    (told c.refuse.ensures)
