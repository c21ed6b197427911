-- `pirkvezo::starting::pirkvezo_fresh_start` meets its contract. Assumes nothing.
use mathlib.Core.Path.{ap, sym, ◌∙◌}
use Rattle.std.specs.Prelude.{Result, Ok, Err}
use Rattle.engine.specs.Answers.{fresh_with}
use Rattle.refusal.specs.declared.Refusal.{Refusal}
use Rattle.state.specs.declared.State.{State}
use Rattle.pirkvezo.proofs.Calls.{fresh_fit, fresh_unfit, lengths, told}
use Rattle.pirkvezo.proofs.starting.pirkvezo_fresh_start.Goals as goal

pub returns-then-not-all_fit : goal.returns-then-not-all_fit
returns-then-not-all_fit c =
    let start = c.args in
    fresh_unfit start.plan.now start.state.now start.cache.now start.boxes.now start.answer.now _ _ (sym c.all_fit.ensures ∙ c.if-not-all_fit.true)
    (told c.refuse_length.ensures)

pub load_plan-lent-requires : goal.load_plan-lent-requires
load_plan-lent-requires c =
    let start = c.args in
    (lengths start.plan.now start.state.now start.answer.now (sym c.all_fit.ensures ∙ c.if-not-all_fit.false)).plan_is

pub load_state-before-requires : goal.load_state-before-requires
load_state-before-requires c =
    let start = c.args in
    (lengths start.plan.now start.state.now start.answer.now (sym c.all_fit.ensures ∙ c.if-not-all_fit.false)).state_is

pub store_state-requires : goal.store_state-requires
store_state-requires c =
    let start = c.args in
    (lengths start.plan.now start.state.now start.answer.now (sym c.all_fit.ensures ∙ c.if-not-all_fit.false)).state_is

pub store_state-requires-in-Err : goal.store_state-requires-in-Err
store_state-requires-in-Err c =
    let start = c.args in
    (lengths start.plan.now start.state.now start.answer.now (sym c.all_fit.ensures ∙ c.if-not-all_fit.false)).state_is

pub returns-in-Ok : goal.returns-in-Ok
returns-in-Ok c =
    let start = c.args in
    let asked = c.fresh_start in
    let before = c.load_state-before.result in
    fresh_fit start.plan.now start.state.now start.cache.now start.boxes.now start.answer.now _ _ _ before
    (fresh_with (Ok c.in-Ok.fresh) before asked.new.cache asked.new.boxes) _
    (sym c.all_fit.ensures ∙ c.if-not-all_fit.false)
    c.load_plan-lent.ensures
    c.load_state-before.ensures
    (ap (λ (started : Result State Refusal). fresh_with started before asked.new.cache asked.new.boxes) (sym c.in-Ok.is)
    ∙ asked.ensures before)
    c.store_state.ensures
    (told c.put_answer.ensures)

pub returns-in-Err : goal.returns-in-Err
returns-in-Err c =
    let start = c.args in
    let asked = c.fresh_start in
    let before = c.load_state-before.result in
    fresh_fit start.plan.now start.state.now start.cache.now start.boxes.now start.answer.now _ _ _ before
    (fresh_with (Err c.in-Err.refusal) before asked.new.cache asked.new.boxes) _
    (sym c.all_fit.ensures ∙ c.if-not-all_fit.false)
    c.load_plan-lent.ensures
    c.load_state-before.ensures
    (ap (λ (started : Result State Refusal). fresh_with started before asked.new.cache asked.new.boxes) (sym c.in-Err.is)
    ∙ asked.ensures before)
    c.store_state-in-Err.ensures
    (told c.refuse.ensures)
