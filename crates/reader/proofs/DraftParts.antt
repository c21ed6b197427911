-- A line that is taken up on the parts of a draft, an op line apart from the others: it is taken up
-- as the line that it is. Assumes nothing.
use Rattle.std.specs.Prelude.{Result, Ok, Err}
use Prim.Native.Nat.{ℕ, ◌<◌}
use mathlib.Core.Bool.{Bool, true, false, cond}
use mathlib.Core.List.{List}
use mathlib.Core.Path.{◌≡◌, refl, sym, subst, ap, ◌∙◌}
use lib.Dec.{eqb, leb}
use borrow.Author.Tests.{leb-false}
use Rattle.forms.specs.declared.Form.{Form}
use Rattle.forms.specs.declared.Form.TheVariants.{Blank, Pad, Run, Domain, Window}
use Rattle.forms.specs.declared.Form.TheVariants.{Op as Script}
use Rattle.forms.specs.declared.OpLine.{OpLine}
use Rattle.line.proofs.Plain.{IsPlain}
use Rattle.line.specs.declared.Line.{Line}
use Rattle.line.specs.Heads.{op_line_of, op_line_with}
use Rattle.refusal.proofs.Passed.{not_refused}
use Rattle.plan.specs.declared.Plan.{Plan}
use Rattle.plan.specs.Limits.{most_windows}
use Rattle.refusal.specs.declared.Refusal.{Refusal}
use Rattle.refusal.specs.declared.Refusal.TheVariants.{RepeatedOrMissing, TooMany}
use Rattle.syntax.specs.Tokens.{then}
use Rattle.reader.specs.declared.Draft.{Draft}
use Rattle.reader.specs.Draft.{outcome_of, refused, taken, with_plan}
use Rattle.reader.specs.Draft.{take_domain, take_form, take_line, take_op, take_pad, take_run}
use Rattle.reader.specs.Draft.{take_window}
use Rattle.reader.specs.DraftParts.{TakenOp, draft_with, form_verdict, outcome_with}
use Rattle.reader.specs.DraftParts.{passed_verdict, plan_with_form}
use Rattle.refusal.specs.Verdict.{Verdict, refused_with}

-- ---- a line other than an op

-- what is held against a line, by its form or its refusal, and a plan with what it adds to it
abbrev pub line_verdict : Result Form Refusal → ℕ → ℕ → ℕ → ℕ → Verdict
line_verdict (Ok form) bracket pad run windows = form_verdict form bracket pad run windows
line_verdict (Err refusal) bracket pad run windows = Err refusal

abbrev pub plan_with_line : Plan → Result Form Refusal → Plan
plan_with_line plan (Ok form) = plan_with_form plan form
plan_with_line plan (Err refusal) = plan

module _ (bracket : ℕ) (draft : Draft) (marked store : List ℕ) where
  -- where nothing more is named, the draft is the one before with another plan
  with_plan_lem : (plan : Plan) → marked ≡ draft.named
      → outcome_with (Ok tt) (draft_with plan draft.counts marked) store
      ≡ outcome_of (taken (with_plan draft plan)) store
  with_plan_lem plan =
      ap (λ (named : List ℕ). outcome_with (Ok tt) (draft_with plan draft.counts named) store)

  -- a test that accepts a form, and what is taken up if it does
  by_test_lem : (accepts : Bool) (plan : Plan) (why : Refusal) → marked ≡ draft.named
      → cond {A = Verdict} accepts (Ok tt) (Err why) ≡ Ok tt
      → outcome_with (Ok tt) (draft_with plan draft.counts marked) store
      ≡ outcome_of (cond accepts (taken (with_plan draft plan)) (refused why draft)) store
  by_test_lem true plan why same e = with_plan_lem plan same
  by_test_lem false plan why same e = absurd (not_refused why e)

  -- a test that refuses a form
  but_test : (refuses : Bool) (plan : Plan) (why : Refusal) → marked ≡ draft.named
      → cond {A = Verdict} refuses (Err why) (Ok tt) ≡ Ok tt
      → outcome_with (Ok tt) (draft_with plan draft.counts marked) store
      ≡ outcome_of (cond refuses (refused why draft) (taken (with_plan draft plan))) store
  but_test true plan why same e = absurd (not_refused why e)
  but_test false plan why same e = with_plan_lem plan same

  abbrev judged : Result Form Refusal → Verdict
  judged form =
      line_verdict form bracket draft.plan.pad draft.plan.run draft.plan.windows

  pub plain_taken : (form : Result Form Refusal) → IsPlain draft.named marked form → judged form ≡ Ok tt
      → outcome_with (Ok tt)
      (draft_with (plan_with_line draft.plan form) draft.counts marked) store
      ≡ take_form form bracket marked draft store
  unfolding take_pad take_run take_domain take_window
  plain_taken (Ok Blank) same e = with_plan_lem draft.plan same
  plain_taken (Ok (Pad ticks)) same e =
      by_test_lem (eqb draft.plan.pad 0) _ (RepeatedOrMissing bracket) same e
  plain_taken (Ok (Run times)) same e =
      by_test_lem (eqb draft.plan.run 0) _ (RepeatedOrMissing bracket) same e
  plain_taken (Ok (Domain line)) same e = refl
  plain_taken (Ok (Window line)) same e =
      but_test (leb most_windows draft.plan.windows) _ (TooMany bracket) same e
  plain_taken (Ok (Script line)) same e = absurd same
  plain_taken (Err refusal) same e = absurd (not_refused refusal e)

  -- the same refusal leaves the same
  as_refused : (why : Refusal) {other : Refusal} → refused_with other ≡ Err why
      → outcome_with (Err why) draft store ≡ outcome_of (refused other draft) store
  as_refused why e = ap (λ (verdict : Verdict). outcome_with verdict draft store) (sym e)

  not_by_test : (accepts : Bool) (plan : Plan) (why other : Refusal)
      → cond {A = Verdict} accepts (Ok tt) (Err other) ≡ Err why
      → outcome_with (Err why) draft store
      ≡ outcome_of (cond accepts (taken (with_plan draft plan)) (refused other draft)) store
  not_by_test true plan why other e = absurd (not_refused why (sym e))
  not_by_test false plan why other e = as_refused why e

  not_but_test : (refuses : Bool) (plan : Plan) (why other : Refusal)
      → cond {A = Verdict} refuses (Err other) (Ok tt) ≡ Err why
      → outcome_with (Err why) draft store
      ≡ outcome_of (cond refuses (refused other draft) (taken (with_plan draft plan))) store
  not_but_test true plan why other e = as_refused why e
  not_but_test false plan why other e = absurd (not_refused why (sym e))

  pub plain_refused : (form : Result Form Refusal) → IsPlain draft.named marked form → {why : Refusal}
      → judged form ≡ Err why
      → outcome_with (Err why) draft store ≡ take_form form bracket marked draft store
  unfolding take_pad take_run take_window
  plain_refused (Ok Blank) same {why} e = absurd (not_refused why (sym e))
  plain_refused (Ok (Pad ticks)) same {why} e =
      not_by_test (eqb draft.plan.pad 0) _ why (RepeatedOrMissing bracket) e
  plain_refused (Ok (Run times)) same {why} e =
      not_by_test (eqb draft.plan.run 0) _ why (RepeatedOrMissing bracket) e
  plain_refused (Ok (Domain line)) same {why} e = absurd (not_refused why (sym e))
  plain_refused (Ok (Window line)) same {why} e =
      not_but_test (leb most_windows draft.plan.windows) _ why (TooMany bracket) e
  plain_refused (Ok (Script line)) same {why} e = absurd same
  plain_refused (Err refusal) same {why} e = as_refused why e

-- a window that is accepted has room
pub window_room : (windows bracket : ℕ)
    → cond {A = Verdict} (leb most_windows windows) (Err (TooMany bracket)) (Ok tt) ≡ Ok tt
    → windows < most_windows
window_room windows bracket e = go (leb most_windows windows) refl e
  where
    go : (full : Bool) → leb most_windows windows ≡ full
        → cond {A = Verdict} full (Err (TooMany bracket)) (Ok tt) ≡ Ok tt → windows < most_windows
    go true is e = absurd (not_refused (TooMany bracket) e)
    go false is e = leb-false _ _ is

-- ---- an op line

to_end : (here end : ℕ) → ◌≡◌ {A = Result ℕ Refusal} (Ok here) (Ok end) → here ≡ end
to_end here end same = ap (λ (passed : Result ℕ Refusal). then passed (λ _. here) (λ at. at)) same

module _ (text : List ℕ) (declared bracket inside : ℕ) {parse : Result (OpLine × ℕ) Refusal}
    (read : (bracket : ℕ) (named : List ℕ)
    → op_line_with bracket named parse ≡ op_line_of text declared named bracket inside) where
  -- what is shown of the line as it was read holds of the line
  as_read : (P : Line → Type 0) (named : List ℕ) (kind : Result (OpLine × ℕ) Refusal) → parse ≡ kind
      → P (op_line_with bracket named kind) → P (op_line_of text declared named bracket inside)
  as_read P named kind known =
      subst P (ap (op_line_with bracket named) (sym known) ∙ read bracket named)

  pub not_read : {why : Refusal} → parse ≡ Err why
      → (named : List ℕ) (draft : Draft) (store : List ℕ)
      → TakenOp (Err why) (op_line_of text declared named bracket inside) draft store draft
      store
  unfolding take_line
  not_read {why} known named draft store =
      as_read (λ line. TakenOp (Err why) line draft store draft store) named _ known
      (record { came = refl; ends = λ end same. absurd (not_refused why (ap passed_verdict same)) })

  module _ {line : OpLine} {end : ℕ} (known : parse ≡ Ok (line, end)) {verdict : Verdict}
      (named : List ℕ) (draft : Draft) (store : List ℕ) (next : Draft) (filled : List ℕ)
      (came : outcome_with verdict next filled ≡ take_op line bracket draft store) where
    pub op_taken : verdict ≡ Ok tt
        → TakenOp (Ok end) (op_line_of text declared named bracket inside) draft store next filled
    unfolding take_line
    op_taken accepted =
        as_read (λ line. TakenOp (Ok end) line draft store next filled) named _ known
        (record {
          came = ap (λ (v : Verdict). outcome_with v next filled) (sym accepted) ∙ came;
          ends = to_end end;
        })

    pub op_not_taken : {why : Refusal} → verdict ≡ Err why
        → TakenOp (Err why) (op_line_of text declared named bracket inside) draft store next
        filled
    unfolding take_line
    op_not_taken {why} refused =
        as_read (λ line. TakenOp (Err why) line draft store next filled) named _ known
        (record {
          came = ap (λ (v : Verdict). outcome_with v next filled) (sym refused) ∙ came;
          ends = λ end same. absurd (not_refused why (ap passed_verdict same));
        })
