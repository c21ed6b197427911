-- Document 01, "The plan text": the five forms past their words, number by number, within the
-- limits of crates plan and script. `at` is the offset that is reached, and `declared` the number of
-- domains declared above. Assumes nothing.
use Rattle.std.specs.Prelude.{ℕ, cond, List, eqb, ltb, Result, Ok, Err}
use Rattle.lists.specs.Ascii.{bytes_of}
use Rattle.plan.specs.Limits.{least_length, least_pad, least_run, least_share}
use Rattle.plan.specs.Limits.{most_length, most_pad, most_run, most_share}
use Rattle.refusal.specs.declared.Refusal.{Refusal}
use Rattle.refusal.specs.declared.Refusal.TheVariants.{WrongDomain}
use Rattle.script.specs.Limits.{last_domain}
use Rattle.syntax.specs.declared.RecipientList.{RecipientList}
use Rattle.syntax.specs.Brackets.{bracketed_number, bracketed_op, pass_head}
use Rattle.syntax.specs.Ops.{then_op}
use Rattle.syntax.specs.Recipients.{recipients_at}
use Rattle.syntax.specs.Tokens.{take_number, then, then_number, numeral_with}
use Rattle.forms.specs.declared.Form.{Form}
use Rattle.forms.specs.declared.Form.TheVariants.{Pad, Run, Domain, Window, Op as Script}
use Rattle.forms.specs.declared.DomainParse.{DomainParse}
use Rattle.syntax.specs.declared.Numeral.{Numeral}

-- going on from a form, or handing the refusal on
abbrev pub then_form : {A : Type 0} → Result (Form × ℕ) Refusal → (Refusal → A) → (Form → ℕ → A) → A
then_form (Ok (form, end)) refused go = go form end
then_form (Err refusal) refused go = refused refusal

-- ---- (pad 376) and (run 1)

-- the number of a pad
unfoldable pub pad_form : List ℕ → ℕ → Result (Form × ℕ) Refusal
pad_form text at =
    then_number (take_number text least_pad most_pad at) Err λ ticks start end.
    Ok ((Pad ticks), end)

-- the number of a run
unfoldable pub run_form : List ℕ → ℕ → Result (Form × ℕ) Refusal
run_form text at =
    then_number (take_number text least_run most_run at) Err λ times start end.
    Ok ((Run times), end)

-- ---- (window 0 (length 400)) and (op 0 (read 3))

-- the number of a domain that is declared above, else 4
unfoldable pub declared_domain : List ℕ → ℕ → ℕ → Result Numeral Refusal
declared_domain text declared at =
    then_number (take_number text 0 last_domain at) Err λ domain start end.
    cond (ltb domain declared) (Ok (numeral_with domain start end)) (Err (WrongDomain start))

-- a window's domain and its length
unfoldable pub window_form : List ℕ → ℕ → ℕ → Result (Form × ℕ) Refusal
window_form text declared at =
    then_number (declared_domain text declared at) Err λ owner start end.
    then_number (bracketed_number text (bytes_of "length") least_length most_length end) Err
    λ ticks first closed.
    Ok ((Window (record { owner = owner; length = ticks })), closed)

-- a domain and the op that its script goes on with
unfoldable pub op_form : List ℕ → ℕ → ℕ → Result (Form × ℕ) Refusal
op_form text declared at =
    then_number (declared_domain text declared at) Err λ domain start end.
    then_op (bracketed_op text end) Err λ op closed.
    Ok ((Script (record { domain = domain; op = op })), closed)

-- ---- (domain 0 (share 400) (may 1))

-- `named`, which this form alone changes, holds a number for each domain: 0 while the text names it
-- nowhere as a recipient, else one more than the offset where it does first
abbrev pub refused_domain : List ℕ → Refusal → DomainParse
refused_domain named refusal = record { parse = Err refusal; named = named }

-- the number due next, else 4
unfoldable pub next_domain : List ℕ → ℕ → ℕ → Result Numeral Refusal
next_domain text declared at =
    then_number (take_number text 0 last_domain at) Err λ domain start end.
    cond (eqb domain declared) (Ok (numeral_with domain start end)) (Err (WrongDomain start))

-- a share with the list of recipients that follows it
unfoldable pub listed_domain : ℕ → RecipientList → DomainParse
listed_domain share list =
    then list.passed (refused_domain list.named) λ end.
    record {
      parse = Ok ((Domain (record { share = share; rights = list.rights })), end);
      named = list.named;
    }

-- the recipients, after the share
unfoldable pub may_form : List ℕ → ℕ → List ℕ → ℕ → ℕ → DomainParse
may_form text own named share at =
    then (pass_head text (bytes_of "may") at) (refused_domain named) λ worded.
    listed_domain share (recipients_at text own named worded)

-- a domain's number, its share and its recipients
unfoldable pub domain_form : List ℕ → ℕ → List ℕ → ℕ → DomainParse
domain_form text declared named at =
    then_number (next_domain text declared at) (refused_domain named) λ own start end.
    then_number (bracketed_number text (bytes_of "share") least_share most_share end)
    (refused_domain named) λ share first closed.
    may_form text own named share closed
