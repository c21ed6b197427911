-- `pirkvezo::writing::pirkvezo_write_plan` meets its contract. Assumes nothing.
use mathlib.Core.Path.{ap, sym, ◌∙◌}
use Prim.Native.Nat.{ℕ}
use Rattle.std.specs.Prelude.{Result, Ok, Err}
use Rattle.refusal.specs.declared.Refusal.{Refusal}
use Rattle.writer.specs.Write.{write_result}
use Rattle.pirkvezo.proofs.Calls.{read_lengths, told}
use Rattle.pirkvezo.proofs.Writes.{write_fit, write_unfit}
use Rattle.pirkvezo.proofs.writing.pirkvezo_write_plan.Goals as goal

pub returns-then-not-plan_fits : goal.returns-then-not-plan_fits
returns-then-not-plan_fits c =
    let start = c.args in
    write_unfit start.plan.now start.scripts.now start.out.now start.answer.now _ _ (sym c.plan_fits.ensures ∙ c.if-not-plan_fits.true)
    (told c.refuse_length.ensures)

pub load_plan-lent-requires : goal.load_plan-lent-requires
load_plan-lent-requires c =
    let start = c.args in
    (read_lengths start.plan.now start.answer.now (sym c.plan_fits.ensures ∙ c.if-not-plan_fits.false)).0

pub returns-in-Ok : goal.returns-in-Ok
returns-in-Ok c =
    let start = c.args in
    write_fit start.plan.now start.scripts.now start.out.now start.answer.now _ _ _ (Ok tt) c.in-Ok.bytes _
    (sym c.plan_fits.ensures ∙ c.if-not-plan_fits.false)
    c.load_plan-lent.ensures
    (ap (λ (written : Result ℕ Refusal). write_result written c.write_plan.new.out) (sym c.in-Ok.is) ∙ c.write_plan.ensures)
    (told c.put_answer.ensures)

pub returns-in-Err : goal.returns-in-Err
returns-in-Err c =
    let start = c.args in
    write_fit start.plan.now start.scripts.now start.out.now start.answer.now _ _ _ (Err c.in-Err.refusal) 0 _
    (sym c.plan_fits.ensures ∙ c.if-not-plan_fits.false)
    c.load_plan-lent.ensures
    (ap (λ (written : Result ℕ Refusal). write_result written c.write_plan.new.out) (sym c.in-Err.is) ∙ c.write_plan.ensures)
    (told c.refuse.ensures)
