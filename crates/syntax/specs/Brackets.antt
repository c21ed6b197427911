-- Document 01, "The plan text": what stands in brackets of its own within a form. The offset handed
-- on is past the closing bracket. Assumes nothing.
use Rattle.std.specs.Prelude.{ℕ, List, Result, Ok, Err}
use Rattle.syntax.specs.Ops.{op_at, then_op}
use Rattle.syntax.specs.Tokens.{pass_close, pass_open, pass_word, take_number, then, then_number, numeral_with}
use Rattle.syntax.specs.declared.Numeral.{Numeral}
use Rattle.script.specs.declared.Op.{Op}
use Rattle.refusal.specs.declared.Refusal.{Refusal}

-- an opening bracket and this word, as in `(may`
unfoldable pub pass_head : List ℕ → List ℕ → ℕ → Result ℕ Refusal
pass_head text word at = then (pass_open text at) Err λ opened. pass_word text word opened

-- a word and a number, as in `(share 400)`
unfoldable pub bracketed_number : List ℕ → List ℕ → ℕ → ℕ → ℕ → Result Numeral Refusal
bracketed_number text word low high at =
    then (pass_head text word at) Err λ worded.
    then_number (take_number text low high worded) Err λ value start end.
    then (pass_close text end) Err λ closed.
    Ok (numeral_with value start closed)

-- an op, as in `(read 3)`
unfoldable pub bracketed_op : List ℕ → ℕ → Result (Op × ℕ) Refusal
bracketed_op text at =
    then (pass_open text at) Err λ opened.
    then_op (op_at text opened) Err λ op end.
    then (pass_close text end) Err λ closed.
    Ok (op, closed)
