-- The four numbers of an answer: document 01's returned number and companion ("The plan text"), and
-- two of the call's own; and the check of the lengths of what a host lends. Assumes nothing.
use Rattle.std.specs.Prelude.{ℕ, Bool, cond, ◌&&◌, List, [], ◌∷◌, eqb, get_or, length, Err}
use Rattle.refusal.specs.declared.Code.{Code}
use Rattle.refusal.specs.declared.Refusal.TheVariants.{WrongLength}
use Rattle.refusal.specs.Code.{code_of}
use Rattle.pirkvezo.specs.Numbers.{plan_length, state_length}
use Rattle.refusal.specs.Verdict.{Verdict}

-- how many numbers an answer is
abbrev pub answer_length : ℕ
answer_length = 4

-- what a call returns: the refusal's number, 0 where nothing is refused
abbrev pub verdict_number : Verdict → ℕ
verdict_number verdict = (code_of verdict).number

-- the number, its companion, and two numbers of the call's own
abbrev pub answer_numbers : Code → ℕ → ℕ → List ℕ
answer_numbers code third fourth = code.number ∷ code.companion ∷ third ∷ fourth ∷ []

-- the two of its own in an answer array
abbrev pub third_of : List ℕ → ℕ
third_of answer = get_or answer 2 0

abbrev pub fourth_of : List ℕ → ℕ
fourth_of answer = get_or answer 3 0

-- the answer after the call; one of another length stays as it is
unfoldable pub answer_of : Verdict → ℕ → ℕ → List ℕ → List ℕ
answer_of verdict third fourth answer =
    cond (eqb (length answer) answer_length) (answer_numbers (code_of verdict) third fourth) answer

-- 11: a lent array of another length
abbrev pub wrong_length : Verdict
wrong_length = Err WrongLength

-- the lengths that reading, writing and asking for a step bound or a latest finish ask for, before
-- all else
abbrev pub plan_fits : List ℕ → List ℕ → Bool
plan_fits plan answer = eqb (length plan) plan_length && eqb (length answer) answer_length

-- and those that a fresh start, a step, a run and a log query ask for
abbrev pub all_fit : List ℕ → List ℕ → List ℕ → Bool
all_fit plan state answer =
    eqb (length plan) plan_length && (eqb (length state) state_length && eqb (length answer) answer_length)
