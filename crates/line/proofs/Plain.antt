-- What the line of a beginning that opens no op is known to be: no op, and one that leaves what is
-- named as it was, unless it is a domain line or refused. Assumes nothing.
use Rattle.std.specs.Prelude.{Result, Ok, Err}
use Prim.Native.Nat.{ℕ}
use mathlib.Core.List.{List}
use mathlib.Core.Path.{◌≡◌, refl}
use Rattle.lists.specs.Ascii.{bytes_of}
use Rattle.forms.specs.declared.DomainParse.{DomainParse}
use Rattle.forms.specs.declared.Form.{Form}
use Rattle.forms.specs.declared.Form.TheVariants.{Blank, Pad, Run, Domain, Window}
use Rattle.forms.specs.declared.Form.TheVariants.{Op as Script}
use Rattle.forms.specs.Forms.{declared_domain, domain_form, listed_domain, may_form, next_domain}
use Rattle.forms.specs.Forms.{pad_form, run_form, window_form}
use Rattle.plan.specs.Limits.{least_length, least_pad, least_run, least_share}
use Rattle.plan.specs.Limits.{most_length, most_pad, most_run, most_share}
use Rattle.refusal.specs.declared.Refusal.{Refusal}
use Rattle.syntax.specs.declared.RecipientList.{RecipientList}
use Rattle.syntax.specs.Brackets.{bracketed_number, pass_head}
use Rattle.syntax.specs.Recipients.{recipients_at}
use Rattle.syntax.specs.Tokens.{pass_close, pass_line_end, take_number, then, then_number}
use Rattle.line.specs.declared.Line.{Line}
use Rattle.line.specs.declared.PlainHead.{PlainHead}
use Rattle.line.specs.declared.PlainHead.TheVariants.{Blank as NoToken, Pad as PadHead}
use Rattle.line.specs.declared.PlainHead.TheVariants.{Run as RunHead, Domain as DomainHead}
use Rattle.line.specs.declared.PlainHead.TheVariants.{Window as WindowHead}
use Rattle.line.specs.declared.PlainHead.TheVariants.{Refused as RefusedHead}
use Rattle.line.specs.Heads.{line_of}
use Rattle.line.specs.Lines.{closed_line, noted_line}
use Rattle.syntax.specs.declared.Numeral.{Numeral}

-- `named` before the form, and `marked` after it
abbrev pub IsPlain : List ℕ → List ℕ → Result Form Refusal → Type 0
IsPlain named marked (Ok Blank) = marked ≡ named
IsPlain named marked (Ok (Pad ticks)) = marked ≡ named
IsPlain named marked (Ok (Run times)) = marked ≡ named
IsPlain named marked (Ok (Domain line)) = Unit {0}
IsPlain named marked (Ok (Window line)) = marked ≡ named
IsPlain named marked (Ok (Script line)) = ⊥
IsPlain named marked (Err refusal) = Unit {0}

abbrev IsPlainParse : List ℕ → List ℕ → Result (Form × ℕ) Refusal → Type 0
IsPlainParse named marked (Ok (form, end)) = IsPlain named marked (Ok form)
IsPlainParse named marked (Err refusal) = Unit {0}

record PlainForm (named marked : List ℕ) (parse : Result (Form × ℕ) Refusal) : Type 0 where
  form : IsPlainParse named marked parse

record PlainDomain (named : List ℕ) (domain : DomainParse) : Type 0 where
  parse : PlainForm named domain.named domain.parse

pub record PlainLine (named : List ℕ) (line : Line) : Type 0 where
  pub form : IsPlain named line.named line.form

-- ---- whatever was taken

after_token : {A : Type 0} (P : A → Type 0) (passed : Result ℕ Refusal) (refused : Refusal → A)
    (go : ℕ → A) → ((refusal : Refusal) → P (refused refusal)) → ((end : ℕ) → P (go end))
    → P (then passed refused go)
after_token P (Ok end) refused go f g = g end
after_token P (Err refusal) refused go f g = f refusal

after_number : {A : Type 0} (P : A → Type 0) (taken : Result Numeral Refusal) (refused : Refusal → A)
    (go : ℕ → ℕ → ℕ → A) → ((refusal : Refusal) → P (refused refusal))
    → ((value start end : ℕ) → P (go value start end)) → P (then_number taken refused go)
after_number P (Ok numeral) refused go f g = g numeral.value numeral.start numeral.end
after_number P (Err refusal) refused go f g = f refusal

module _ (text : List ℕ) (declared : ℕ) (named : List ℕ) where
  none : (refusal : Refusal) → PlainForm named named (Err refusal)
  none refusal = record { form = tt }

  pad_plain : (at : ℕ) → PlainForm named named (pad_form text at)
  unfolding pad_form
  pad_plain at =
      after_number (PlainForm named named) (take_number text least_pad most_pad at) _ _ none
      λ ticks start end. record { form = refl }

  run_plain : (at : ℕ) → PlainForm named named (run_form text at)
  unfolding run_form
  run_plain at =
      after_number (PlainForm named named) (take_number text least_run most_run at) _ _ none
      λ times start end. record { form = refl }

  window_plain : (at : ℕ) → PlainForm named named (window_form text declared at)
  unfolding window_form
  window_plain at =
      after_number (PlainForm named named) (declared_domain text declared at) _ _ none
      λ owner start end.
      after_number (PlainForm named named)
      (bracketed_number text (bytes_of "length") least_length most_length end) _ _ none
      λ ticks first closed. record { form = refl }

  no_domain : (refusal : Refusal)
      → PlainDomain named (record { parse = Err refusal; named = named })
  no_domain refusal = record { parse = none refusal }

  listed_plain : (share : ℕ) (list : RecipientList) → PlainDomain named (listed_domain share list)
  unfolding listed_domain
  listed_plain share list =
      after_token (PlainDomain named) list.passed _ _
      (λ refusal. record { parse = record { form = tt } })
      (λ end. record { parse = record { form = tt } })

  domain_plain : (at : ℕ) → PlainDomain named (domain_form text declared named at)
  unfolding domain_form may_form
  domain_plain at =
      after_number (PlainDomain named) (next_domain text declared at) _ _ no_domain
      λ own start end.
      after_number (PlainDomain named)
      (bracketed_number text (bytes_of "share") least_share most_share end) _ _ no_domain
      λ share first closed.
      after_token (PlainDomain named) (pass_head text (bytes_of "may") closed) _ _ no_domain
      λ worded.
      listed_plain share (recipients_at text own named worded)

  closed_plain : (bracket : ℕ) (marked : List ℕ) (parse : Result (Form × ℕ) Refusal)
      → PlainForm named marked parse → PlainLine named (closed_line text bracket marked parse)
  unfolding closed_line
  closed_plain bracket marked (Err refusal) h = record { form = tt }
  closed_plain bracket marked (Ok (form, end)) h =
      after_token (PlainLine named) (pass_close text end) _ _ (λ refusal. record { form = tt })
      λ closed.
      after_token (PlainLine named) (pass_line_end text closed) _ _ (λ refusal. record { form = tt })
      λ ended. record { form = h.form }

  pub plain_line : (head : PlainHead) → PlainLine named (line_of text declared named head)
  unfolding noted_line
  plain_line (NoToken end) = record { form = refl }
  plain_line (PadHead bracket inside) = closed_plain bracket named _ (pad_plain inside)
  plain_line (RunHead bracket inside) = closed_plain bracket named _ (run_plain inside)
  plain_line (DomainHead bracket inside) = closed_plain bracket _ _ (domain_plain inside).parse
  plain_line (WindowHead bracket inside) = closed_plain bracket named _ (window_plain inside)
  plain_line (RefusedHead bracket refusal) = record { form = tt }
