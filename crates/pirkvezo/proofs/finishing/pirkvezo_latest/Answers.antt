-- `pirkvezo::finishing::pirkvezo_latest` meets its contract. Assumes nothing.
use mathlib.Core.Path.{ap, sym, ◌∙◌}
use Prim.Native.Nat.{ℕ}
use Rattle.std.specs.Prelude.{Result, Ok, Err}
use Rattle.refusal.specs.declared.Refusal.{Refusal}
use Rattle.latest.specs.Answer.{latest_with}
use Rattle.pirkvezo.proofs.Calls.{read_lengths, told}
use Rattle.pirkvezo.proofs.Finishes.{latest_fit, latest_unfit}
use Rattle.pirkvezo.proofs.finishing.pirkvezo_latest.Goals as goal

pub returns-then-not-plan_fits : goal.returns-then-not-plan_fits
returns-then-not-plan_fits c =
    let start = c.args in
    latest_unfit start.plan.now start.domain start.script.now start.answer.now _ _ (sym c.plan_fits.ensures ∙ c.if-not-plan_fits.true)
    (told c.refuse_length.ensures)

pub load_plan-lent-requires : goal.load_plan-lent-requires
load_plan-lent-requires c =
    let start = c.args in
    (read_lengths start.plan.now start.answer.now (sym c.plan_fits.ensures ∙ c.if-not-plan_fits.false)).0

pub returns-in-Ok : goal.returns-in-Ok
returns-in-Ok c =
    let start = c.args in
    latest_fit start.plan.now start.domain start.script.now start.answer.now _ _ _ (latest_with (Ok c.in-Ok.ticks) c.latest.new.script)
    (sym c.plan_fits.ensures ∙ c.if-not-plan_fits.false)
    c.load_plan-lent.ensures
    (ap (λ (found : Result ℕ Refusal). latest_with found c.latest.new.script) (sym c.in-Ok.is) ∙ c.latest.ensures)
    (told c.put_answer.ensures)

pub returns-in-Err : goal.returns-in-Err
returns-in-Err c =
    let start = c.args in
    latest_fit start.plan.now start.domain start.script.now start.answer.now _ _ _ (latest_with (Err c.in-Err.refusal) c.latest.new.script)
    (sym c.plan_fits.ensures ∙ c.if-not-plan_fits.false)
    c.load_plan-lent.ensures
    (ap (λ (found : Result ℕ Refusal). latest_with found c.latest.new.script) (sym c.in-Err.is) ∙ c.latest.ensures)
    (told c.refuse.ensures)
