-- `pirkvezo::running::run_numbers` meets its contract. Assumes nothing.
use mathlib.Core.Path.{ap, refl, sym, ◌∙◌}
use Rattle.std.specs.Prelude.{Result}
use Rattle.engine.specs.Answers.{run_with}
use Rattle.engine.specs.declared.Answer.{Answer}
use Rattle.refusal.specs.declared.Refusal.{Refusal}
use Rattle.engine.specs.LentLog.{lent_call_of}
use Rattle.pirkvezo.proofs.Judged.{lent_alike}
use Rattle.pirkvezo.proofs.Calls.{lengths, run_fit, run_unfit, told}
use Rattle.pirkvezo.proofs.running.run_numbers.Goals as goal

pub returns-then-not-all_fit : goal.returns-then-not-all_fit
returns-then-not-all_fit c =
    let start = c.args in
    run_unfit (λ handed world. lent_call_of start.lent handed start.scripts.now world start.limit)
    start.plan.now start.state.now start.cache.now start.boxes.now start.log.now
    start.answer.now _ _ (sym c.all_fit.ensures ∙ c.if-not-all_fit.true)
    (told c.refuse_length.ensures)

pub load_plan-handed-requires : goal.load_plan-handed-requires
load_plan-handed-requires c =
    let start = c.args in
    (lengths start.plan.now start.state.now start.answer.now (sym c.all_fit.ensures ∙ c.if-not-all_fit.false)).plan_is

pub load_state-held-requires : goal.load_state-held-requires
load_state-held-requires c =
    let start = c.args in
    (lengths start.plan.now start.state.now start.answer.now (sym c.all_fit.ensures ∙ c.if-not-all_fit.false)).state_is

pub store_state-requires : goal.store_state-requires
store_state-requires c =
    let start = c.args in
    (lengths start.plan.now start.state.now start.answer.now (sym c.all_fit.ensures ∙ c.if-not-all_fit.false)).state_is

pub returns-in-Ok : goal.returns-in-Ok
returns-in-Ok c =
    let start = c.args in
    let ran = c.run_lent-ran in
    run_fit (λ handed world. lent_call_of start.lent handed start.scripts.now world start.limit)
    start.plan.now start.state.now start.cache.now start.boxes.now start.log.now
    start.answer.now _ _ (λ world. lent_alike start.lent start.scripts.now world start.limit) _ _ _ _ _ _ _ _ _ _ _
    (sym c.all_fit.ensures ∙ c.if-not-all_fit.false)
    c.load_plan-handed.ensures
    c.load_state-held.ensures
    (ap (λ (done : Result Answer Refusal). run_with done ran.new.state ran.new.cache ran.new.boxes ran.new.log)
    (sym c.in-Ok.is) ∙ ran.ensures)
    c.ending_number-ended.ensures
    c.store_state.ensures
    (told c.put_answer.ensures)

pub returns-in-Err : goal.returns-in-Err
returns-in-Err c =
    let start = c.args in
    let ran = c.run_lent-ran in
    run_fit (λ handed world. lent_call_of start.lent handed start.scripts.now world start.limit)
    start.plan.now start.state.now start.cache.now start.boxes.now start.log.now
    start.answer.now _ _ (λ world. lent_alike start.lent start.scripts.now world start.limit) _ _ _ _ _ _ _ _ _ _ _
    (sym c.all_fit.ensures ∙ c.if-not-all_fit.false)
    c.load_plan-handed.ensures
    c.load_state-held.ensures
    (ap (λ (done : Result Answer Refusal). run_with done ran.new.state ran.new.cache ran.new.boxes ran.new.log)
    (sym c.in-Err.is) ∙ ran.ensures)
    refl
    c.store_state.ensures
    (told c.refuse.ensures)
