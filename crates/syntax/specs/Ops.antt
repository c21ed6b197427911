-- Document 01, "The plan text": an op's word and the numbers after it; their limits, of "What an op
-- costs", are crate script's. Assumes nothing.
use Rattle.std.specs.Prelude.{ℕ, List, [], ◌∷◌, Result, Ok, Err}
use Rattle.refusal.specs.declared.Refusal.{Refusal}
use Rattle.script.specs.declared.Op.{Op}
use Rattle.script.specs.declared.Op.TheVariants.{Read, Write, Send, Receive, Compute}
use Rattle.script.specs.Limits.{last_domain, least_ticks, most_number, most_ticks, most_word}
use Rattle.syntax.specs.Keywords.{Keyword, on, one_of}
use Rattle.syntax.specs.Tokens.{take_number, then_number}

-- an op of one number
unfoldable pub number_op : List ℕ → ℕ → ℕ → (ℕ → Op) → ℕ → Result (Op × ℕ) Refusal
number_op text low high op at =
    then_number (take_number text low high at) Err λ value start end.
    Ok ((op value), end)

-- a send: its recipient, which needn't be declared, and its word
unfoldable pub send_op : List ℕ → ℕ → Result (Op × ℕ) Refusal
send_op text at =
    then_number (take_number text 0 last_domain at) Err λ recipient start end.
    number_op text 0 most_word (Send recipient) end

-- the five ops by their words. The sender of a receive needn't be declared.
unfoldable pub op_keywords : List ℕ → List (Keyword (Result (Op × ℕ) Refusal))
op_keywords text =
    on "read" (number_op text 0 most_number Read)
    ∷ on "write" (number_op text 0 most_number Write)
    ∷ on "send" (send_op text)
    ∷ on "receive" (number_op text 0 last_domain Receive)
    ∷ on "compute" (number_op text least_ticks most_ticks Compute)
    ∷ []

-- an op's word and its numbers
unfoldable pub op_at : List ℕ → ℕ → Result (Op × ℕ) Refusal
op_at text at = one_of (op_keywords text) text at Err

-- going on from an op, or handing the refusal on
abbrev pub then_op : {A : Type 0} → Result (Op × ℕ) Refusal → (Refusal → A) → (Op → ℕ → A) → A
then_op (Ok (op, end)) refused go = go op end
then_op (Err refusal) refused go = refused refusal
