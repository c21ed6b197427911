-- A line read by its beginning is the line; its closing bracket and its end are passed one after
-- the other; and an op form is an op. Assumes nothing.
use Rattle.std.specs.Prelude.{Result, Ok, Err}
use Prim.Native.Nat.{ℕ, ◌+◌}
use mathlib.Core.Bool.{Bool, true, false, cond}
use mathlib.Core.List.{List}
use mathlib.Core.Path.{◌≡◌, refl, sym, subst, ◌∙◌}
use lib.Dec.{eqb}
use Rattle.forms.specs.declared.Form.{Form}
use Rattle.forms.specs.declared.Form.TheVariants.{Blank, Pad, Run, Domain, Window}
use Rattle.forms.specs.declared.Form.TheVariants.{Op as Script}
use Rattle.forms.specs.declared.OpLine.{OpLine}
use Rattle.forms.specs.Forms.{declared_domain, domain_form, op_form, pad_form, run_form, window_form}
use Rattle.lexer.specs.declared.Token.{Token}
use Rattle.lexer.specs.Tokens.{line_end_kind, open_kind, token_at, token_kind, token_start}
use Rattle.refusal.specs.declared.Refusal.{Refusal}
use Rattle.refusal.specs.declared.Refusal.TheVariants.{BrokenShape}
use Rattle.syntax.proofs.ByKeyword.{by_keyword}
use Rattle.syntax.specs.declared.FormWord.{FormWord}
use Rattle.syntax.specs.declared.FormWord.TheVariants.{Pad as PadWord, Run as RunWord, Domain as DomainWord}
use Rattle.syntax.specs.declared.FormWord.TheVariants.{Window as WindowWord, Op as OpWord}
use Rattle.syntax.specs.Brackets.{bracketed_op}
use Rattle.syntax.specs.Ops.{then_op}
use Rattle.syntax.specs.Keywords.{form_words, keyword_at}
use Rattle.syntax.specs.Tokens.{pass_close, pass_line_end, then, then_number}
use Rattle.line.specs.declared.Head.TheVariants.{Plain}
use Rattle.line.specs.declared.Line.{Line}
use Rattle.line.specs.declared.PlainHead.TheVariants.{Blank as NoToken, Refused}
use Rattle.line.specs.Heads.{closed_end, form_head, head_at, head_line, word_head}
use Rattle.line.specs.Lines.{closed_line, form_keywords, form_line, line_at, line_with, noted_line, refused_line}
use Rattle.syntax.specs.declared.Numeral.{Numeral}
use Rattle.script.specs.declared.Op.{Op}

-- ---- the beginning

module _ (text : List ℕ) (declared : ℕ) (named : List ℕ) where
  form_by_head : (bracket : ℕ)
      → form_line text declared named bracket ≡ head_line text declared named (form_head text bracket)
  unfolding form_line form_keywords form_head
  form_by_head bracket = go (keyword_at form_words text (bracket + 1)) refl
    where
      -- what follows a form's word
      follow : FormWord → ℕ → Line
      follow PadWord at = closed_line text bracket named (pad_form text at)
      follow RunWord at = closed_line text bracket named (run_form text at)
      follow DomainWord at = noted_line text bracket (domain_form text declared named at)
      follow WindowWord at = closed_line text bracket named (window_form text declared at)
      follow OpWord at = closed_line text bracket named (op_form text declared at)

      go : (keyword : Result (FormWord × ℕ) Refusal) → keyword_at form_words text (bracket + 1) ≡ keyword
          → form_line text declared named bracket
          ≡ head_line text declared named (word_head bracket keyword)
      go (Ok (PadWord, inside)) is = sym (by_keyword (refused_line bracket named) follow form_words _ _ refl is refl)
      go (Ok (RunWord, inside)) is = sym (by_keyword (refused_line bracket named) follow form_words _ _ refl is refl)
      go (Ok (DomainWord, inside)) is = sym (by_keyword (refused_line bracket named) follow form_words _ _ refl is refl)
      go (Ok (WindowWord, inside)) is = sym (by_keyword (refused_line bracket named) follow form_words _ _ refl is refl)
      go (Ok (OpWord, inside)) is = sym (by_keyword (refused_line bracket named) follow form_words _ _ refl is refl)
      go (Err refusal) is = sym (by_keyword (refused_line bracket named) follow form_words _ _ refl is refl)

  -- the line at an offset is the line of its beginning
  pub line_by_head : (at : ℕ)
      → line_at text declared named at ≡ head_line text declared named (head_at text at)
  unfolding line_at head_at
  line_by_head at = go (eqb (token_kind token) line_end_kind) (eqb (token_kind token) open_kind)
    where
      token : Token
      token = token_at text at

      refused : Line
      refused = refused_line (token_start token) named (BrokenShape (token_start token))

      go : (ends opens : Bool)
          → cond ends (line_with (token_start token) named Blank (token_start token))
          (cond opens (form_line text declared named (token_start token)) refused)
          ≡ head_line text declared named
          (cond ends (Plain (NoToken (token_start token)))
          (cond opens (form_head text (token_start token))
          (Plain (Refused (token_start token) (BrokenShape (token_start token))))))
      go true opens = refl
      go false true = form_by_head (token_start token)
      go false false = refl

-- ---- the end

pub closed_then : {A : Type 0} (text : List ℕ) (at : ℕ) (refused : Refusal → A) (go : ℕ → A)
    → then (pass_close text at) refused (λ closed. then (pass_line_end text closed) refused go)
    ≡ then (closed_end text at) refused go
unfolding closed_end
closed_then {A} text at refused go = by_close (pass_close text at)
  where
    by_close : (closing : Result ℕ Refusal)
        → then closing refused (λ closed. then (pass_line_end text closed) refused go)
        ≡ then (then closing Err (λ closed. pass_line_end text closed)) refused go
    by_close (Ok closed) = refl
    by_close (Err refusal) = refl

-- ---- an op form

abbrev IsOp : Form → Type 0
IsOp Blank = ⊥
IsOp (Pad ticks) = ⊥
IsOp (Run times) = ⊥
IsOp (Domain line) = ⊥
IsOp (Window line) = ⊥
IsOp (Script line) = Unit {0}

abbrev IsOpParse : Result (Form × ℕ) Refusal → Type 0
IsOpParse (Ok (form, end)) = IsOp form
IsOpParse (Err refusal) = Unit {0}

op_form_is : (text : List ℕ) (declared at : ℕ) → IsOpParse (op_form text declared at)
unfolding op_form
op_form_is text declared at = by_domain (declared_domain text declared at)
  where
    by_op : (domain : ℕ) (taken : Result (Op × ℕ) Refusal)
        → IsOpParse (then_op taken Err λ op closed.
        Ok ((Script (record { domain = domain; op = op })), closed))
    by_op domain (Ok (op, closed)) = tt
    by_op domain (Err refusal) = tt

    by_domain : (numbered : Result Numeral Refusal)
        → IsOpParse (then_number numbered Err λ domain start end.
        then_op (bracketed_op text end) Err λ op closed.
        Ok ((Script (record { domain = domain; op = op })), closed))
    by_domain (Ok numeral) = by_op numeral.value (bracketed_op text numeral.end)
    by_domain (Err refusal) = tt

other_form : (form : Form) → ((line : OpLine) → form ≡ Script line → ⊥) → IsOp form → ⊥
other_form Blank other h = h
other_form (Pad ticks) other h = h
other_form (Run times) other h = h
other_form (Domain line) other h = h
other_form (Window line) other h = h
other_form (Script line) other h = other line refl

-- what the branch of a `let .. else` knows of a form, that it is not an op, is not so of an op form
pub no_other : (text : List ℕ) (declared at : ℕ) {parse : Result (Form × ℕ) Refusal} {form : Form} {end : ℕ}
    → parse ≡ op_form text declared at → parse ≡ Ok (form, end)
    → ((line : OpLine) → form ≡ Script line → ⊥) → ⊥
no_other text declared at {parse} {form} read known other =
    other_form form other (subst IsOpParse (sym read ∙ known) (op_form_is text declared at))
