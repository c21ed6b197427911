-- `reader::walk::walk` meets its contract. Assumes nothing.
use native.Mathlib.Omega.{arith}
use Prim.Native.Nat.{ℕ}
use mathlib.Core.Path.{◌≡◌, ◌∙◌, ap, refl, sym}
use Rattle.std.specs.Prelude.{Result, Ok, Err}
use Rattle.forms.specs.declared.Form.{Form}
use Rattle.refusal.specs.declared.Refusal.{Refusal}
use Rattle.refusal.specs.Verdict.{Verdict}
use Rattle.reader.specs.DraftParts.{form_verdict}
use Rattle.reader.proofs.DraftParts.{line_verdict, plan_with_line}
use Rattle.reader.specs.Draft.{no_draft}
use Rattle.reader.proofs.GoodDraft.{draft_first}
use Rattle.reader.proofs.Walking.{lines_end, lines_first}
use Rattle.reader.proofs.Walking.{op_next, op_reach, op_refused, op_within}
use Rattle.reader.proofs.Walking.{other_domain, other_next, other_reach, other_refused}
use Rattle.reader.proofs.Walking.{other_window, other_within}
use Rattle.reader.proofs.walk.walk.Goals as goal

pub loop-at-init : goal.loop-at-init
loop-at-init c =
    rw c.no_draft-first.ensures (lines_first _ no_draft _ draft_first)

pub take_op_line-taken-requires : goal.take_op_line-taken-requires
take_op_line-taken-requires c =
    c.loop-at.invariant.good.domains.most

pub returns-in-Err : goal.returns-in-Err
returns-in-Err c =
    let left = c.loop-at.invariant in
    rw (c.draft_result.ensures _)
    (op_refused left c.loop-at-test.true c.head_at-head.ensures
    c.in-Op.is (c.take_op_line-taken.ensures _ _)
    c.in-Err.is)

pub overflow_add-at : goal.overflow_add-at
overflow_add-at c =
    let left = c.loop-at.invariant in
    omega (
      arith,
      op_within left c.loop-at-test.true c.head_at-head.ensures
          c.in-Op.is (c.take_op_line-taken.ensures _ _)
          c.in-Ok.is,
    )

pub loop-at-smaller-in-Op : goal.loop-at-smaller-in-Op
loop-at-smaller-in-Op c =
    let left = c.loop-at.invariant in
    let below = c.loop-at-test.true in
    omega (
      arith,
      below,
      op_reach left below c.head_at-head.ensures c.in-Op.is
          (c.take_op_line-taken.ensures _ _) c.in-Ok.is,
    )

pub loop-at-preserved-in-Op : goal.loop-at-preserved-in-Op
loop-at-preserved-in-Op c =
    let left = c.loop-at.invariant in
    op_next left c.loop-at-test.true c.head_at-head.ensures c.in-Op.is
    (c.take_op_line-taken.ensures _ _) c.in-Ok.is

-- the line says what it was found to say
line_is : (bracket pad run windows : ℕ) {form : Result Form Refusal} {kind : Form} {verdict : Verdict} → form ≡ Ok kind
    → verdict ≡ form_verdict kind bracket pad run windows → verdict ≡ line_verdict form bracket pad run windows
line_is bracket pad run windows is found =
    found ∙ ap (λ (form : Result Form Refusal). line_verdict form bracket pad run windows) (sym is)

line_is_refused : (bracket pad run windows : ℕ) {form : Result Form Refusal} {why : Refusal} → form ≡ Err why
    → Err why ≡ line_verdict form bracket pad run windows
line_is_refused bracket pad run windows is =
    sym (ap (λ (form : Result Form Refusal). line_verdict form bracket pad run windows) is)

pub returns-in-Err-form : goal.returns-in-Err-form
returns-in-Err-form c =
    let left = c.loop-at.invariant in
    rw (c.draft_result-in-Err-form.ensures _)
    (other_refused left c.loop-at-test.true c.head_at-head.ensures
    c.in-Plain.is c.line_of-line.ensures
    (line_is_refused c.line_of-line.result.bracket c.loop-at.plan.pad c.loop-at.plan.run c.loop-at.plan.windows c.in-Err-form.is) refl)

pub returns-in-Err-verdict : goal.returns-in-Err-verdict
returns-in-Err-verdict c =
    let left = c.loop-at.invariant in
    rw (c.draft_result-in-Err-verdict.ensures _, ← c.in-Err-verdict.is)
    (other_refused left c.loop-at-test.true c.head_at-head.ensures
    c.in-Plain.is c.line_of-line.ensures (line_is _ _ _ _ c.in-Ok-form.is c.form_verdict-verdict.ensures)
    c.in-Err-verdict.is)

pub plan_with_form-plan-requires : goal.plan_with_form-plan-requires
plan_with_form-plan-requires c =
    let left = c.loop-at.invariant in
    let below = c.loop-at-test.true in (
      λ line is. other_domain left below c.head_at-head.ensures c.in-Plain.is
          c.line_of-line.ensures line (c.in-Ok-form.is ∙ ap Ok is),
      λ line is. other_window left below c.head_at-head.ensures c.in-Plain.is
          c.line_of-line.ensures (line_is _ _ _ _ c.in-Ok-form.is c.form_verdict-verdict.ensures)
          c.in_default.is line (c.in-Ok-form.is ∙ ap Ok is),
    )

pub overflow_add-at-in-loop-at : goal.overflow_add-at-in-loop-at
overflow_add-at-in-loop-at c =
    let left = c.loop-at.invariant in
    omega (
      arith,
      other_within left c.loop-at-test.true c.head_at-head.ensures
          c.in-Plain.is c.line_of-line.ensures,
    )

pub loop-at-smaller : goal.loop-at-smaller
loop-at-smaller c =
    let left = c.loop-at.invariant in
    let below = c.loop-at-test.true in
    omega (
      arith,
      below,
      other_reach left below c.head_at-head.ensures c.in-Plain.is
          c.line_of-line.ensures (line_is _ _ _ _ c.in-Ok-form.is c.form_verdict-verdict.ensures)
          c.in_default.is,
    )

pub loop-at-preserved : goal.loop-at-preserved
loop-at-preserved c =
    let left = c.loop-at.invariant in
    rw (c.plan_with_form-plan.ensures ∙ ap (plan_with_line c.loop-at.plan) (sym c.in-Ok-form.is))
    (other_next left c.loop-at-test.true c.head_at-head.ensures
    c.in-Plain.is c.line_of-line.ensures (line_is _ _ _ _ c.in-Ok-form.is c.form_verdict-verdict.ensures)
    c.in_default.is)

pub returns : goal.returns
returns c =
    c.draft_result-2.ensures _
    ∙ lines_end c.loop-at.invariant c.loop-at-test.false
