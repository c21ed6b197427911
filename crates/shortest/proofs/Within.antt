-- The numbers of an op that a line gives are within their limits. Assumes nothing.
use Rattle.std.specs.Prelude.{Result, Ok, Err}
use Prim.Native.Nat.{ℕ, ◌≤◌}
use mathlib.Core.List.{List}
use Rattle.forms.specs.declared.Form.{Form}
use Rattle.forms.specs.declared.Form.TheVariants.{Blank, Pad, Run, Domain, Window, Op as Script}
use Rattle.forms.specs.Forms.{declared_domain, op_form}
use Rattle.line.specs.declared.Head.{Head}
use Rattle.line.specs.declared.Head.TheVariants.{Op as OpHead, Plain}
use Rattle.line.specs.declared.Line.{Line}
use Rattle.line.specs.Heads.{head_at, head_line, line_of}
use Rattle.line.specs.Lines.{closed_line, line_at}
use Rattle.line.proofs.Heads.{line_by_head}
use Rattle.line.proofs.Plain.{IsPlain, plain_line}
use Rattle.refusal.specs.declared.Refusal.{Refusal}
use Rattle.script.specs.declared.Op.{Op}
use Rattle.script.specs.declared.Op.TheVariants.{Read, Write, Send, Receive, Compute}
use Rattle.script.specs.Limits.{OpWithinLimits, last_domain, least_ticks, most_number, most_ticks, most_word}
use Rattle.syntax.specs.Brackets.{bracketed_op}
use Rattle.syntax.specs.Ops.{number_op, op_at, op_keywords, send_op, then_op}
use Rattle.syntax.specs.Tokens.{then_number, numeral_with}
use Rattle.syntax.proofs.Advance.{then_close, then_line_end, then_number_lem, then_open}
use Rattle.syntax.proofs.ByKeyword.{one_of_holds}
use Rattle.syntax.specs.declared.Numeral.{Numeral}

-- ---- an op

abbrev OfOp : Result (Op × ℕ) Refusal → Type 0
OfOp (Ok (op, end)) = OpWithinLimits op
OfOp (Err refusal) = Unit {0}

record WithinOp (taken : Result (Op × ℕ) Refusal) : Type 0 where
  limits : OfOp taken

no_op : (refusal : Refusal) → WithinOp (Err refusal)
no_op refusal = record { limits = tt }

number_within_lem :
    (text : List ℕ) (low high at : ℕ) (op : ℕ → Op)
    → ((value : ℕ) → low ≤ value → value ≤ high → OpWithinLimits (op value))
    → WithinOp (number_op text low high op at)
unfolding number_op
number_within_lem text low high at op fits =
    then_number_lem WithinOp text low high at _ _ no_op λ value start end least most _. record { limits = fits value least most }

op_within : (text : List ℕ) (at : ℕ) → WithinOp (op_at text at)
unfolding op_at op_keywords send_op OpWithinLimits
op_within text at =
    one_of_holds WithinOp (op_keywords text) text at Err no_op (
      λ here _. number_within_lem text 0 most_number here Read λ line _ most. most,
      (
        λ here _. number_within_lem text 0 most_number here Write λ line _ most. most,
        (
          λ here _.
              then_number_lem WithinOp text 0 last_domain here _ _ no_op λ recipient start end _ known _.
              number_within_lem text 0 most_word end (Send recipient) λ word _ most. (known, most),
          (
            λ here _. number_within_lem text 0 last_domain here Receive λ sender _ most. most,
            (λ here _. number_within_lem text least_ticks most_ticks here Compute λ ticks least most. (least, most), tt),
          ),
        ),
      ),
    )

by_op :
    {A : Type 0} (P : A → Type 0) (taken : Result (Op × ℕ) Refusal) (refused : Refusal → A) (go : Op → ℕ → A)
    → WithinOp taken
    → ((refusal : Refusal) → P (refused refusal))
    → ((op : Op) (end : ℕ) → OpWithinLimits op → P (go op end))
    → P (then_op taken refused go)
by_op P (Ok (op, end)) refused go within none goes = goes op end within.limits
by_op P (Err refusal) refused go within none goes = none refusal

bracketed_within : (text : List ℕ) (at : ℕ) → WithinOp (bracketed_op text at)
unfolding bracketed_op
bracketed_within text at =
    then_open WithinOp text at _ _ no_op λ opened _ _.
    by_op WithinOp (op_at text opened) _ _ (op_within text opened) no_op λ op end within.
    then_close WithinOp text end _ _ no_op λ closed _ _. record { limits = within }

-- ---- a form, and the line that it stands in

-- what is known of a form where it is an op
abbrev pub OpFits : Result Form Refusal → Type 0
OpFits (Ok Blank) = Unit {0}
OpFits (Ok (Pad ticks)) = Unit {0}
OpFits (Ok (Run times)) = Unit {0}
OpFits (Ok (Domain line)) = Unit {0}
OpFits (Ok (Window line)) = Unit {0}
OpFits (Ok (Script line)) = OpWithinLimits line.op
OpFits (Err refusal) = Unit {0}

abbrev OfForm : Result (Form × ℕ) Refusal → Type 0
OfForm (Ok (form, end)) = OpFits (Ok form)
OfForm (Err refusal) = Unit {0}

record WithinForm (parse : Result (Form × ℕ) Refusal) : Type 0 where
  limits : OfForm parse

record WithinLine (line : Line) : Type 0 where
  limits : OpFits line.form

form_within : (text : List ℕ) (declared at : ℕ) → WithinForm (op_form text declared at)
unfolding op_form
form_within text declared at = go (declared_domain text declared at)
  where
    go :
        (taken : Result Numeral Refusal)
        → WithinForm (then_number taken Err λ domain start end.
        then_op (bracketed_op text end) Err λ op closed. Ok ((Script (record { domain = domain; op = op })), closed))
    go (Ok numeral) =
        by_op WithinForm (bracketed_op text numeral.end) _ _ (bracketed_within text numeral.end) (λ _. record { limits = tt }) λ op closed within.
        record { limits = within }
    go (Err refusal) = record { limits = tt }

-- a form other than an op has nothing to keep
plain_fits : (named marked : List ℕ) (form : Result Form Refusal) → IsPlain named marked form → OpFits form
plain_fits named marked (Ok Blank) plain = tt
plain_fits named marked (Ok (Pad ticks)) plain = tt
plain_fits named marked (Ok (Run times)) plain = tt
plain_fits named marked (Ok (Domain line)) plain = tt
plain_fits named marked (Ok (Window line)) plain = tt
plain_fits named marked (Ok (Script line)) plain = absurd plain
plain_fits named marked (Err refusal) plain = tt

module _ (text : List ℕ) (declared : ℕ) (named : List ℕ) where
  closed_within : (bracket : ℕ) (parse : Result (Form × ℕ) Refusal) → WithinForm parse → WithinLine (closed_line text bracket named parse)
  unfolding closed_line
  closed_within bracket (Err refusal) within = record { limits = tt }
  closed_within bracket (Ok (form, end)) within =
      then_close WithinLine text end _ _ (λ _. record { limits = tt }) λ closed _ inside.
      then_line_end WithinLine text closed _ _ inside (λ _. record { limits = tt }) λ ended _ _. record { limits = within.limits }

  head_within : (head : Head) → WithinLine (head_line text declared named head)
  head_within (OpHead bracket inside) = closed_within bracket _ (form_within text declared inside)
  head_within (Plain plain) =
      let line = line_of text declared named plain in
      record { limits = plain_fits named line.named line.form (plain_line text declared named plain).form }

  -- an op that a line gives is within its limits
  pub line_within : (at : ℕ) → OpFits (line_at text declared named at).form
  line_within at = rw (line_by_head text declared named at) (head_within (head_at text at)).limits
