-- The beginning of a line and the rest of it, as the code reads them apart. They say nothing of
-- their own: by `line_by_head` of proofs/Heads they give the line that `line_at` of Lines is.
-- Assumes nothing.
use Rattle.std.specs.Prelude.{ℕ, ◌+◌, cond, List, eqb, Result, Ok, Err}
use Rattle.forms.specs.declared.Form.TheVariants.{Blank, Op as Script}
use Rattle.forms.specs.Forms.{domain_form, op_form, pad_form, run_form, window_form}
use Rattle.syntax.specs.declared.FormWord.{FormWord}
use Rattle.syntax.specs.declared.FormWord.TheVariants.{Pad as PadWord, Run as RunWord, Domain as DomainWord}
use Rattle.syntax.specs.declared.FormWord.TheVariants.{Window as WindowWord, Op as OpWord}
use Rattle.syntax.specs.Keywords.{form_words, keyword_at}
use Rattle.syntax.specs.Tokens.{due, pass_close, pass_line_end, then}
use Rattle.lexer.specs.declared.Token.{Token}
use Rattle.lexer.specs.Tokens.{line_end_kind, open_kind, token_at, token_kind, token_start}
use Rattle.line.specs.declared.Head.{Head}
use Rattle.line.specs.declared.Head.TheVariants.{Op, Plain}
use Rattle.line.specs.declared.Line.{Line}
use Rattle.line.specs.declared.PlainHead.{PlainHead}
use Rattle.line.specs.declared.PlainHead.TheVariants.{Blank as NoToken, Refused}
use Rattle.line.specs.declared.PlainHead.TheVariants.{Pad, Run, Domain, Window}
use Rattle.line.specs.Lines.{closed_line, line_with, noted_line, refused_line}
use Rattle.forms.specs.declared.OpLine.{OpLine}
use Rattle.refusal.specs.declared.Refusal.{Refusal}

-- ---- the beginning of a line

-- by the word that was found past the bracket
abbrev pub word_head : ℕ → Result (FormWord × ℕ) Refusal → Head
word_head bracket (Ok (PadWord, inside)) = Plain (Pad bracket inside)
word_head bracket (Ok (RunWord, inside)) = Plain (Run bracket inside)
word_head bracket (Ok (DomainWord, inside)) = Plain (Domain bracket inside)
word_head bracket (Ok (WindowWord, inside)) = Plain (Window bracket inside)
word_head bracket (Ok (OpWord, inside)) = Op bracket inside
word_head bracket (Err refusal) = Plain (Refused bracket refusal)

-- past an opening bracket
unfoldable pub form_head : List ℕ → ℕ → Head
form_head text bracket = word_head bracket (keyword_at form_words text (bracket + 1))

-- by the line's first token
abbrev pub token_head : List ℕ → Token → Head
token_head text token =
    cond (eqb (token_kind token) line_end_kind) (Plain (NoToken (token_start token)))
    (due open_kind token (λ refusal. Plain (Refused (token_start token) refusal)) λ bracket inside.
    form_head text bracket)

-- of the line that begins at an offset
unfoldable pub head_at : List ℕ → ℕ → Head
head_at text at = token_head text (token_at text at)

-- ---- the rest of a line

-- a form's closing bracket and the line's end
unfoldable pub closed_end : List ℕ → ℕ → Result ℕ Refusal
closed_end text at = then (pass_close text at) Err λ closed. pass_line_end text closed

-- the line of a beginning that opens no op
abbrev pub line_of : List ℕ → ℕ → List ℕ → PlainHead → Line
line_of text declared named (NoToken end) = line_with end named Blank end
line_of text declared named (Pad bracket inside) =
    closed_line text bracket named (pad_form text inside)
line_of text declared named (Run bracket inside) =
    closed_line text bracket named (run_form text inside)
line_of text declared named (Domain bracket inside) =
    noted_line text bracket (domain_form text declared named inside)
line_of text declared named (Window bracket inside) =
    closed_line text bracket named (window_form text declared inside)
line_of text declared named (Refused bracket refusal) = refused_line bracket named refusal

-- the op line with an opening bracket, past its word
abbrev pub op_line_of : List ℕ → ℕ → List ℕ → ℕ → ℕ → Line
op_line_of text declared named bracket inside =
    closed_line text bracket named (op_form text declared inside)

-- the line that a beginning opens
abbrev pub head_line : List ℕ → ℕ → List ℕ → Head → Line
head_line text declared named (Op bracket inside) = op_line_of text declared named bracket inside
head_line text declared named (Plain head) = line_of text declared named head

-- an op line that was read apart, with its bracket and what is named
abbrev pub op_line_with : ℕ → List ℕ → Result (OpLine × ℕ) Refusal → Line
op_line_with bracket named (Ok (line, end)) = line_with bracket named (Script line) end
op_line_with bracket named (Err refusal) = refused_line bracket named refusal
