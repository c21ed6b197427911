-- Document 01, "The plan text": what a good line adds to the plan and the scripts; at a line's end 5 and
-- 10. A refused line adds nothing. Assumes nothing.
use Rattle.std.specs.Prelude.{ℕ, ◌+◌, ◌*◌, cond, List, eqb, leb, get_or, replicate, set, Ok, Err, Result}
use Rattle.forms.specs.declared.DomainLine.{DomainLine}
use Rattle.forms.specs.declared.Form.{Form}
use Rattle.forms.specs.declared.Form.TheVariants.{Blank, Pad, Run, Domain, Window, Op}
use Rattle.forms.specs.declared.OpLine.{OpLine}
use Rattle.forms.specs.declared.WindowLine.{WindowLine}
use Rattle.line.specs.declared.Line.{Line}
use Rattle.plan.specs.declared.Plan.{Plan}
use Rattle.plan.specs.Limits.{most_domains, most_windows}
use Rattle.plan.specs.Parts.{with_domain, with_pad, with_run, with_window}
use Rattle.plan.specs.Zeros.{no_plan}
use Rattle.refusal.specs.declared.Refusal.{Refusal}
use Rattle.refusal.specs.declared.Refusal.TheVariants.{RepeatedOrMissing, TooMany}
use Rattle.script.specs.Limits.{most_ops, scripts_length}
use Rattle.script.specs.Stored.{stored_of}
use Rattle.reader.specs.declared.Draft.{Draft}
use Rattle.reader.specs.declared.DraftResult.{DraftResult}
use Rattle.refusal.specs.Verdict.{Verdict}

-- before the first line
unfoldable pub no_draft : Draft
no_draft = record { plan = no_plan; counts = replicate most_domains 0; named = replicate most_domains 0 }

-- a store that holds no op
unfoldable pub no_ops : List ℕ
no_ops = replicate scripts_length 0

-- a draft with another plan
abbrev pub with_plan : Draft → Plan → Draft
with_plan draft plan = record { plan = plan; counts = draft.counts; named = draft.named }

-- ---- outcomes

-- a line is taken up, and this is the draft with it
abbrev pub taken : Draft → DraftResult
taken draft = record { verdict = Ok tt; draft = draft }

-- a line is refused, and the draft is as it was before
abbrev pub refused : Refusal → Draft → DraftResult
refused refusal draft = record { verdict = Err refusal; draft = draft }

-- what lines come to: on refusal draft and store are those before the refused line
pub record DraftOutcome : Type 0 where
  pub verdict : Verdict
  pub draft : Draft
  pub store : List ℕ

-- a result with the store beside it
abbrev pub outcome_of : DraftResult → List ℕ → DraftOutcome
outcome_of result store = record { verdict = result.verdict; draft = result.draft; store = store }

-- ---- what each form adds, or 5 or 10 with the line's bracket

-- a second pad gives 5; its limits keep it above 0, so 0 is none yet
unfoldable pub take_pad : ℕ → ℕ → Draft → DraftResult
take_pad ticks bracket draft =
    cond (eqb draft.plan.pad 0)
    (taken (with_plan draft (with_pad draft.plan ticks)))
    (refused (RepeatedOrMissing bracket) draft)

-- the same of a run
unfoldable pub take_run : ℕ → ℕ → Draft → DraftResult
take_run times bracket draft =
    cond (eqb draft.plan.run 0)
    (taken (with_plan draft (with_run draft.plan times)))
    (refused (RepeatedOrMissing bracket) draft)

-- a domain line always fits: its number was the next one
unfoldable pub take_domain : DomainLine → List ℕ → Draft → DraftResult
take_domain line named draft =
    let plan = with_domain draft.plan line.share line.rights in
    taken (record { plan = plan; counts = draft.counts; named = named })

-- a window past the most gives 10
unfoldable pub take_window : WindowLine → ℕ → Draft → DraftResult
take_window line bracket draft =
    cond (leb most_windows draft.plan.windows) (refused (TooMany bracket) draft)
    (taken (with_plan draft (with_window draft.plan line.owner line.length)))

-- an op past the most of its domain gives 10; the others stand in the domain's part of the store, in the
-- order read
unfoldable pub take_op : OpLine → ℕ → Draft → List ℕ → DraftOutcome
take_op line bracket draft store =
    let index = get_or draft.counts line.domain 0 in
    let counts = set draft.counts line.domain (index + 1) in
    cond (leb most_ops index) (outcome_of (refused (TooMany bracket) draft) store)
    (outcome_of (taken (record { plan = draft.plan; counts = counts; named = draft.named }))
    (set store (most_ops * line.domain + index) (stored_of line.op)))

-- a form is taken up by its kind; a line without a token adds nothing, and only an op writes to the store
abbrev pub take_form : Result Form Refusal → ℕ → List ℕ → Draft → List ℕ → DraftOutcome
take_form (Ok Blank) bracket named draft store = outcome_of (taken draft) store
take_form (Ok (Pad ticks)) bracket named draft store = outcome_of (take_pad ticks bracket draft) store
take_form (Ok (Run times)) bracket named draft store = outcome_of (take_run times bracket draft) store
take_form (Ok (Domain line)) bracket named draft store = outcome_of (take_domain line named draft) store
take_form (Ok (Window line)) bracket named draft store = outcome_of (take_window line bracket draft) store
take_form (Ok (Op line)) bracket named draft store = take_op line bracket draft store
take_form (Err refusal) bracket named draft store = outcome_of (refused refusal draft) store

-- a line is taken up by its form
unfoldable pub take_line : Line → Draft → List ℕ → DraftOutcome
take_line line draft store = take_form line.form line.bracket line.named draft store
