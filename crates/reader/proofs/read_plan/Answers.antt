-- `reader::read_plan` meets its contract. Assumes nothing.
use mathlib.Core.Path.{sym, ◌∙◌}
use Rattle.plan.specs.Bounds.{SharesBounded, TicksBounded}
use Rattle.reader.specs.Draft.{no_ops}
use Rattle.std.proofs.lemmas.Result.{err_from_is_err_and}
use Rattle.reader.proofs.GoodDraft.{GoodDraft, lengths_most, shares_most}
use Rattle.reader.proofs.LastChecks.{passes}
use Rattle.reader.proofs.WholeText.{read_accepted, read_refused, read_too_long, read_unfit, read_wrong_length, walked_good}
use Rattle.reader.specs.declared.Draft.{Draft}
use Rattle.reader.proofs.read_plan.Goals as goal

-- a good draft has what the checks ask for
shares_bounded : (draft : Draft) → GoodDraft draft → SharesBounded draft.plan
shares_bounded draft good = (good.domains.most, λ domain _. shares_most good domain)

ticks_bounded : (draft : Draft) → GoodDraft draft → TicksBounded draft.plan
ticks_bounded draft good = (good.run_most, good.windows.most, good.pad_most, λ slot _. lengths_most good slot)

pub returns-then-scripts-ne-SCRIPTS_LENGTH : goal.returns-then-scripts-ne-SCRIPTS_LENGTH
returns-then-scripts-ne-SCRIPTS_LENGTH c = read_wrong_length _ _ c.if-scripts-ne-SCRIPTS_LENGTH.true

pub returns-then-text-gt-MOST_TEXT_BYTES : goal.returns-then-text-gt-MOST_TEXT_BYTES
returns-then-text-gt-MOST_TEXT_BYTES c =
    read_too_long _ _ c.if-scripts-ne-SCRIPTS_LENGTH.false c.if-text-gt-MOST_TEXT_BYTES.true

pub returns-in_err-walked : goal.returns-in_err-walked
unfolding no_ops
returns-in_err-walked c =
    let told = err_from_is_err_and c.from_residual.result c.from_residual.ensures.1 in
    rw (told.1, told.2)
    (read_refused c.args.text.now c.args.scripts.now c.if-scripts-ne-SCRIPTS_LENGTH.false c.if-text-gt-MOST_TEXT_BYTES.false
    c.walk-walked.result _ c.walk-walked.ensures _ c.in_err-walked.was)

pub final_verdict-requires : goal.final_verdict-requires
unfolding no_ops
final_verdict-requires c =
    let walked = walked_good c.args.text.now c.walk-walked.result c.walk-walked.new.store c.walk-walked.ensures in
    (shares_bounded c.walk-walked.result.draft walked.0, ticks_bounded c.walk-walked.result.draft walked.0)

pub returns-in_err-final_verdict : goal.returns-in_err-final_verdict
unfolding no_ops
returns-in_err-final_verdict c =
    let told = err_from_is_err_and c.from_residual-in_err-final_verdict.result c.from_residual-in_err-final_verdict.ensures.1 in
    rw (told.1, told.2)
    (read_unfit c.args.text.now c.args.scripts.now c.if-scripts-ne-SCRIPTS_LENGTH.false c.if-text-gt-MOST_TEXT_BYTES.false
    c.walk-walked.result _ c.walk-walked.ensures c.in_ok-walked.was
    _ c.final_verdict.ensures _ c.in_err-final_verdict.was)

pub plan_with_masks-requires : goal.plan_with_masks-requires
unfolding no_ops
plan_with_masks-requires c =
    let walked = walked_good c.args.text.now c.walk-walked.result c.walk-walked.new.store c.walk-walked.ensures in
    let passed = sym c.final_verdict.ensures ∙ c.in_ok-final_verdict.was in
    (shares_bounded c.walk-walked.result.draft walked.0, (passes _ c.walk-walked.result.draft passed).colours)

pub returns : goal.returns
unfolding no_ops
returns c =
    rw (c.plan_with_masks.ensures, c.copy_from_slice.ensures.after)
    (read_accepted c.args.text.now c.args.scripts.now c.if-scripts-ne-SCRIPTS_LENGTH.false c.if-text-gt-MOST_TEXT_BYTES.false
    c.walk-walked.result _ c.walk-walked.ensures c.in_ok-walked.was
    _ c.final_verdict.ensures c.in_ok-final_verdict.was)
