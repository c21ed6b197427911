-- The walk over the lines of a text: from one line to the next, to a refusal, and to the end. Assumes nothing.
use Rattle.std.specs.Prelude.{Result, Ok, Err}
use Prim.Native.Nat.{ℕ, zero, suc, ◌+◌, ◌≤◌, ◌<◌}
use native.Mathlib.Omega.{arith}
use mathlib.Core.Bool.{Bool, true, false}
use mathlib.Core.List.{List}
use mathlib.Core.Path.{◌≡◌, refl, sym, subst, ap, ◌∙◌}
use lib.Dec.{ltb}
use lib.ListN.{length}
use borrow.Author.Tests.{le-ltb, lt-ltb, ltb-true}
use Rattle.forms.proofs.GoodForm.{GoodForm}
use Rattle.forms.specs.declared.Form.{Form}
use Rattle.forms.specs.declared.Form.TheVariants.{Blank, Pad, Run, Domain, Window, Op as Script}
use Rattle.forms.specs.declared.DomainLine.{DomainLine}
use Rattle.forms.specs.declared.WindowLine.{WindowLine}
use Rattle.line.proofs.GoodLine.{GoodLine, line_good}
use Rattle.line.proofs.Heads.{line_by_head}
use Rattle.line.proofs.Plain.{IsPlain, PlainLine, plain_line}
use Rattle.line.specs.declared.Head.{Head}
use Rattle.line.specs.declared.Head.TheVariants.{Op, Plain}
use Rattle.line.specs.declared.Line.{Line}
use Rattle.line.specs.declared.PlainHead.{PlainHead}
use Rattle.line.specs.Heads.{head_at, head_line, line_of, op_line_of}
use Rattle.refusal.proofs.Passed.{not_refused}
use Rattle.refusal.specs.declared.Refusal.{Refusal}
use Rattle.plan.specs.Limits.{most_domains, most_windows}
use Rattle.script.specs.Limits.{scripts_length}
use Rattle.reader.proofs.DraftParts.{plain_refused, plain_taken, window_room}
use Rattle.reader.proofs.GoodDraft.{GoodDraft, GoodOutcome, draft_first, line_taken}
use Rattle.reader.specs.declared.Draft.{Draft}
use Rattle.reader.specs.declared.DraftResult.{DraftResult}
use Rattle.reader.specs.Draft.{DraftOutcome, no_draft, no_ops, outcome_of, take_form, take_line, taken}
use Rattle.reader.specs.DraftParts.{TakenOp, draft_with, outcome_with}
use Rattle.reader.specs.DraftParts.{passed_verdict}
use Rattle.reader.specs.Read.{draft_line, lines_of, walk_from}
use Rattle.refusal.specs.Verdict.{Verdict}
use Rattle.reader.proofs.DraftParts.{line_verdict, plan_with_line}

-- ---- a line that is taken up

next_good : (text : List ℕ) (at : ℕ) (draft : Draft) → GoodDraft draft → at < length text
    → GoodLine text draft.plan.domains draft.named at (draft_line text at draft)
next_good text at draft so_far below =
    line_good text draft.plan.domains draft.named at so_far.domains.named_size (omega arith)

-- it reaches at least as far as it began
taken_reaches : (form : Result Form Refusal) (declared bracket at end : ℕ) (named marked : List ℕ) (draft : Draft) (store : List ℕ)
    → GoodForm declared named marked at end form → (take_form form bracket marked draft store).verdict ≡ Ok tt → at ≤ end
taken_reaches (Ok Blank) declared bracket at end named marked draft store h e = h
taken_reaches (Ok (Pad ticks)) declared bracket at end named marked draft store h e = h.2
taken_reaches (Ok (Run times)) declared bracket at end named marked draft store h e = h.2
taken_reaches (Ok (Domain line)) declared bracket at end named marked draft store h e = h.4
taken_reaches (Ok (Window line)) declared bracket at end named marked draft store h e = h.3
taken_reaches (Ok (Script line)) declared bracket at end named marked draft store h e = h.1
taken_reaches (Err refusal) declared bracket at end named marked draft store h e = absurd (not_refused refusal e)

-- ---- the walk

-- after a line: the walk goes on behind it, or ends with its refusal
abbrev pub after_line : List ℕ → ℕ → Line → DraftOutcome → DraftOutcome
after_line text lines line outcome =
    elim outcome.verdict as (λ _. DraftOutcome) [
      | Ok tt ↦ walk_from lines text (line.end + 1) outcome.draft outcome.store
      | Err refusal ↦ outcome
    ]

pub walk_line : (lines : ℕ) (text : List ℕ) (at : ℕ) (draft : Draft) (store : List ℕ) (line : Line) (outcome : DraftOutcome)
    → at < length text → line ≡ draft_line text at draft → outcome ≡ take_line line draft store
    → walk_from (suc lines) text at draft store ≡ after_line text lines line outcome
unfolding walk_from
walk_line lines text at draft store line outcome below is came =
    rw (walk_from, lt-ltb at (length text) below)
    (ap (λ (l : Line). after_line text lines l (take_line l draft store)) (sym is) ∙ ap (after_line text lines line) (sym came))

module _ (text : List ℕ) (lines : ℕ) (line : Line) (draft : Draft) (store : List ℕ) where
  after_accepted : (verdict : Verdict) → verdict ≡ Ok tt
      → walk_from lines text (line.end + 1) draft store
      ≡ after_line text lines line (record { verdict = verdict; draft = draft; store = store })
  after_accepted (Ok tt) known = refl
  after_accepted (Err why) known = absurd (not_refused why known)

  after_refused : (verdict : Verdict) (why : Refusal) → verdict ≡ Err why
      → record { verdict = verdict; draft = draft; store = store }
      ≡ after_line text lines line (record { verdict = verdict; draft = draft; store = store })
  after_refused (Ok tt) why known = absurd (not_refused why (sym known))
  after_refused (Err other) why known = refl

-- what the whole walk comes to is good
walk_good : (lines : ℕ) (text : List ℕ) (at : ℕ) (draft : Draft) (store : List ℕ) → GoodDraft draft
    → GoodOutcome (length store) (walk_from lines text at draft store)
unfolding walk_from
walk_good zero text at draft store good = (good, refl)
walk_good (suc lines) text at draft store good =
    by_end (ltb at (length text)) refl (walk_good lines text ((draft_line text at draft).end + 1))
  where
    Again : Type 0
    Again = (next : Draft) (filled : List ℕ) → GoodDraft next
        → GoodOutcome (length filled) (walk_from lines text ((draft_line text at draft).end + 1) next filled)

    by_line : (verdict : Verdict) (next : Draft) (filled : List ℕ) → GoodDraft next × (length filled ≡ length store) → Again
        → GoodOutcome (length store)
        (after_line text lines (draft_line text at draft) (record { verdict = verdict; draft = next; store = filled }))
    by_line (Ok tt) next filled here again = rw (← here.1) (again next filled here.0)
    by_line (Err refusal) next filled here again = here

    by_end : (test : Bool) → ltb at (length text) ≡ test → Again
        → GoodOutcome (length store)
        (elim test as (λ _. DraftOutcome) [
          | true ↦ after_line text lines (draft_line text at draft) (take_line (draft_line text at draft) draft store)
          | false ↦ outcome_of (taken draft) store
        ])
    by_end true e again =
        let here = line_taken draft store good text at (draft_line text at draft) (next_good text at draft good (ltb-true _ _ e)) in
        by_line (take_line (draft_line text at draft) draft store).verdict _ _ here again
    by_end false e again = (good, refl)

pub lines_good : (text : List ℕ) → GoodOutcome scripts_length (lines_of text)
unfolding no_ops
lines_good text = walk_good (length text) text 0 no_draft no_ops draft_first

-- what is left of the lines gives the whole, and enough turns are left to end it
pub record LinesLeft (text : List ℕ) (at : ℕ) (draft : Draft) (store : List ℕ) (whole : DraftOutcome) : Type 0 where
  pub lines : ℕ
  pub enough : length text ≤ at + lines
  pub same : walk_from lines text at draft store ≡ whole
  pub good : GoodDraft draft

pub lines_first : (text : List ℕ) (draft : Draft) (store : List ℕ) → GoodDraft draft
    → LinesLeft text 0 draft store (walk_from (length text) text 0 draft store)
lines_first text draft store good = record { lines = length text; enough = omega arith; same = refl; good = good }

module _ {text : List ℕ} {at : ℕ} {draft : Draft} {store : List ℕ} {whole : DraftOutcome}
    (left : LinesLeft text at draft store whole) where
  pub lines_end : length text ≤ at → outcome_of (taken draft) store ≡ whole
  unfolding walk_from
  lines_end past = go left.lines left.same
    where
      go : (lines : ℕ) → walk_from lines text at draft store ≡ whole
          → outcome_of (taken draft) store ≡ whole
      go zero same = same
      go (suc lines) same = rw (walk_from, le-ltb at (length text) past) at same

  -- ---- a turn, by what its line is known to be

  module _ (below : at < length text) {line : Line} (is : line ≡ draft_line text at draft) where
    good_line : GoodLine text draft.plan.domains draft.named at line
    good_line = rw is (next_good text at draft left.good below)

    turn_within : line.end ≤ length text
    turn_within = good_line.within

    turn_domain : (domain : DomainLine) → line.form ≡ Ok (Domain domain)
        → draft.plan.domains < most_domains
    turn_domain domain known =
        let Good = GoodForm draft.plan.domains draft.named line.named at line.end in
        let form = subst Good known good_line.form in
        omega (arith, form.0)

    -- ---- and by what it came to

    module _ (result : DraftResult) (filled : List ℕ)
        (came : outcome_of result filled ≡ take_line line draft store) where
      turned : (lines : ℕ)
          → walk_from (suc lines) text at draft store
          ≡ after_line text lines line (outcome_of result filled)
      turned lines =
          walk_line lines text at draft store line (outcome_of result filled) below is came

      enough_left : (lines : ℕ) → length text ≤ at + lines
          → walk_from lines text at draft store ≡ whole
          → (fewer : ℕ) × (lines ≡ suc fewer)
          × (walk_from (suc fewer) text at draft store ≡ whole)
      enough_left zero enough same = absurd (omega arith)
      enough_left (suc lines) enough same = (lines, refl, same)

      turn_refused : (why : Refusal) → result.verdict ≡ Err why
          → outcome_of result filled ≡ whole
      turn_refused why known =
          let more = enough_left left.lines left.enough left.same in
          after_refused text more.0 line result.draft filled result.verdict why known
          ∙ sym (turned more.0)
          ∙ more.2

      turn_reach : result.verdict ≡ Ok tt → at ≤ line.end
      unfolding take_line
      turn_reach known =
          taken_reaches line.form _ line.bracket at line.end draft.named line.named
          draft store good_line.form
          (ap (λ (outcome : DraftOutcome). outcome.verdict) (sym came) ∙ known)

      turn_next : result.verdict ≡ Ok tt
          → LinesLeft text (line.end + 1) result.draft filled whole
      turn_next known =
          let more = enough_left left.lines left.enough left.same in
          record {
            lines = more.0;
            enough = omega (arith, turn_reach known, left.enough, more.1);
            same =
                after_accepted text more.0 line result.draft filled result.verdict known
                ∙ sym (turned more.0)
                ∙ more.2;
            good =
                (subst (GoodOutcome (length store)) (sym came)
                (line_taken draft store left.good text at line good_line)).0;
          }

  -- ---- the same of a line that is read by its beginning

  module _ (below : at < length text) {head : Head} (begins : head ≡ head_at text at) where
    headed : head_line text draft.plan.domains draft.named head ≡ draft_line text at draft
    headed =
        ap (head_line text draft.plan.domains draft.named) begins
        ∙ sym (line_by_head text draft.plan.domains draft.named at)

    -- ---- and is no op line

    module _ {plain : PlainHead} (opens : head ≡ Plain plain) {line : Line}
        (of : line ≡ line_of text draft.plan.domains draft.named plain) where
      is_plain_line : line ≡ draft_line text at draft
      is_plain_line =
          of ∙ ap (head_line text draft.plan.domains draft.named) (sym opens) ∙ headed

      pub other_within : line.end ≤ length text
      other_within = turn_within below is_plain_line

      pub other_domain : (domain : DomainLine) → line.form ≡ Ok (Domain domain)
          → draft.plan.domains < most_domains
      other_domain = turn_domain below is_plain_line

      abbrev pub judged : Result Form Refusal → Verdict
      judged form =
          line_verdict form line.bracket draft.plan.pad draft.plan.run
          draft.plan.windows

      module _ {verdict : Verdict} (found : verdict ≡ judged line.form) where
        is_plain : IsPlain draft.named line.named line.form
        is_plain =
            (subst (PlainLine draft.named) (sym of)
            (plain_line text draft.plan.domains draft.named plain)).form

        pub other_refused : {why : Refusal} → verdict ≡ Err why
            → outcome_with verdict draft store ≡ whole
        unfolding take_line
        other_refused {why} known =
            turn_refused below is_plain_line (record { verdict = verdict; draft = draft }) store
            (ap (λ (v : Verdict). outcome_with v draft store) known
            ∙ plain_refused line.bracket draft line.named store line.form is_plain
            (sym found ∙ known))
            why known

        module _ (known : verdict ≡ Ok tt) where
          pub other_window : (window : WindowLine) → line.form ≡ Ok (Window window)
              → draft.plan.windows < most_windows
          other_window window is-window =
              window_room draft.plan.windows line.bracket
              (ap judged (sym is-window) ∙ sym found ∙ known)

          abbrev next : Draft
          next =
              draft_with (plan_with_line draft.plan line.form) draft.counts line.named

          abbrev plain_result : DraftResult
          plain_result = record { verdict = verdict; draft = next }

          came : outcome_of plain_result store ≡ take_line line draft store
          unfolding take_line
          came =
              ap (λ (v : Verdict). outcome_with v next store) known
              ∙ plain_taken line.bracket draft line.named store line.form is_plain
              (sym found ∙ known)

          pub other_reach : at ≤ line.end
          other_reach = turn_reach below is_plain_line plain_result store came known

          pub other_next : LinesLeft text (line.end + 1) next store whole
          other_next = turn_next below is_plain_line plain_result store came known

    -- ---- and is an op line

    module _ {bracket inside : ℕ} (opens : head ≡ Op bracket inside) {passed : Result ℕ Refusal}
        {next : Draft} {filled : List ℕ}
        (taken : TakenOp passed
        (op_line_of text draft.plan.domains draft.named bracket inside) draft store next
        filled) where
      abbrev line : Line
      line = op_line_of text draft.plan.domains draft.named bracket inside

      is_op_line : line ≡ draft_line text at draft
      is_op_line = ap (head_line text draft.plan.domains draft.named) (sym opens) ∙ headed

      abbrev op_result : DraftResult
      op_result = record { verdict = passed_verdict passed; draft = next }

      pub op_refused : {why : Refusal} → passed ≡ Err why
          → outcome_with (Err why) next filled ≡ whole
      op_refused {why} known =
          ap (λ (to : Result ℕ Refusal). outcome_with (passed_verdict to) next filled) (sym known)
          ∙ turn_refused below is_op_line op_result filled taken.came why (ap passed_verdict known)

      module _ {end : ℕ} (known : passed ≡ Ok end) where
        pub op_within : end ≤ length text
        op_within = omega (arith, turn_within below is_op_line, taken.ends end known)

        pub op_reach : at ≤ end
        op_reach =
            let reach = turn_reach below is_op_line op_result filled taken.came in
            omega (arith, reach (ap passed_verdict known), taken.ends end known)

        pub op_next : LinesLeft text (end + 1) next filled whole
        op_next =
            subst (λ (last : ℕ). LinesLeft text (last + 1) next filled whole)
            (taken.ends end known)
            (turn_next below is_op_line op_result filled taken.came (ap passed_verdict known))
