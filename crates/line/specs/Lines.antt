-- Document 01, "The plan text": one form a line; lines without a token allowed. `named` is as in
-- the domain form of crate forms. Assumes nothing.
use Rattle.std.specs.Prelude.{ℕ, ◌+◌, cond, List, [], ◌∷◌, eqb, Result, Ok, Err}
use Rattle.forms.specs.declared.DomainParse.{DomainParse}
use Rattle.forms.specs.declared.Form.{Form}
use Rattle.forms.specs.declared.Form.TheVariants.{Blank}
use Rattle.forms.specs.Forms.{domain_form, op_form, pad_form, run_form, then_form, window_form}
use Rattle.refusal.specs.declared.Refusal.{Refusal}
use Rattle.syntax.specs.Keywords.{Keyword, on, one_of}
use Rattle.syntax.specs.Tokens.{due, pass_close, pass_line_end, then}
use Rattle.lexer.specs.declared.Token.{Token}
use Rattle.lexer.specs.Tokens.{line_end_kind, open_kind, token_at, token_kind, token_start}
use Rattle.line.specs.declared.Line.{Line}

-- a refused line; on refusal its end is unspecified, and 0 stands there
abbrev pub refused_line : ℕ → List ℕ → Refusal → Line
refused_line bracket named refusal =
    record { form = Err refusal; bracket = bracket; end = 0; named = named }

-- a line that was taken, with the offset of its end
abbrev pub line_with : ℕ → List ℕ → Form → ℕ → Line
line_with bracket named form end =
    record { form = Ok form; bracket = bracket; end = end; named = named }

-- a form, its closing bracket and the line's end
unfoldable pub closed_line : List ℕ → ℕ → List ℕ → Result (Form × ℕ) Refusal → Line
closed_line text bracket named parse =
    then_form parse (refused_line bracket named) λ form end.
    then (pass_close text end) (refused_line bracket named) λ closed.
    then (pass_line_end text closed) (refused_line bracket named) λ ended.
    line_with bracket named form ended

-- the same of a domain form, with the recipients that it notes
unfoldable pub noted_line : List ℕ → ℕ → DomainParse → Line
noted_line text bracket domain = closed_line text bracket domain.named domain.parse

-- the five forms by their words
unfoldable pub form_keywords : List ℕ → ℕ → List ℕ → ℕ → List (Keyword Line)
form_keywords text declared named bracket =
    on "pad" (λ at. closed_line text bracket named (pad_form text at))
    ∷ on "run" (λ at. closed_line text bracket named (run_form text at))
    ∷ on "domain" (λ at. noted_line text bracket (domain_form text declared named at))
    ∷ on "window" (λ at. closed_line text bracket named (window_form text declared at))
    ∷ on "op" (λ at. closed_line text bracket named (op_form text declared at))
    ∷ []

-- a line past its opening bracket, by the word that stands there
unfoldable pub form_line : List ℕ → ℕ → List ℕ → ℕ → Line
form_line text declared named bracket =
    one_of (form_keywords text declared named bracket) text (bracket + 1) (refused_line bracket named)

-- a line by its first token: without one it says nothing, and else an opening bracket is due
abbrev pub token_line : List ℕ → ℕ → List ℕ → Token → Line
token_line text declared named token =
    cond (eqb (token_kind token) line_end_kind)
    (line_with (token_start token) named Blank (token_start token))
    (due open_kind token (refused_line (token_start token) named) λ bracket inside.
    form_line text declared named bracket)

-- the line that begins at an offset
unfoldable pub line_at : List ℕ → ℕ → List ℕ → ℕ → Line
line_at text declared named at = token_line text declared named (token_at text at)
