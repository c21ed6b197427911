-- An op that is taken is no shorter than its canonical spelling. Assumes nothing.
use Rattle.std.specs.Prelude.{Result, Ok, Err}
use Prim.Native.Nat.{ℕ, ◌+◌, ◌≤◌, ◌<◌}
use native.Mathlib.Omega.{arith}
use mathlib.Core.List.{List}
use lib.ListN.{length, length-append}
use Rattle.lists.specs.Ascii.{bytes_of}
use Rattle.refusal.specs.declared.Refusal.{Refusal}
use Rattle.script.specs.declared.Op.{Op}
use Rattle.script.specs.declared.Op.TheVariants.{Read, Write, Send, Receive, Compute}
use Rattle.script.specs.Limits.{last_domain, least_ticks, most_number, most_ticks, most_word}
use Rattle.syntax.specs.Brackets.{bracketed_op}
use Rattle.syntax.specs.Ops.{number_op, op_at, op_keywords, send_op, then_op}
use Rattle.writer.specs.Lines.{op_text}
use Rattle.shortest.proofs.Due.{Spaced, one_of_holds, then_close, then_number_lem, then_open}
use Rattle.shortest.proofs.Runs.{RunOver}

-- what holds of an op and the offset that is reached, where there is one
abbrev OfOp : (Op → ℕ → Type 0) → Result (Op × ℕ) Refusal → Type 0
OfOp Fact (Ok (op, end)) = Fact op end
OfOp Fact (Err refusal) = Unit {0}

record TakesOp (Fact : Op → ℕ → Type 0) (taken : Result (Op × ℕ) Refusal) : Type 0 where
  takes : OfOp Fact taken

by_op :
    {A : Type 0} (P : A → Type 0) (Fact : Op → ℕ → Type 0) (taken : Result (Op × ℕ) Refusal) (refused : Refusal → A) (go : Op → ℕ → A)
    → TakesOp Fact taken
    → ((refusal : Refusal) → P (refused refusal))
    → ((op : Op) (end : ℕ) → Fact op end → P (go op end))
    → P (then_op taken refused go)
by_op P Fact (Ok (op, end)) refused go fact none goes = goes op end fact.takes
by_op P Fact (Err refusal) refused go fact none goes = none refusal

-- the word and the numbers of an op whose bracket stands at an offset
abbrev Words : ℕ → Op → ℕ → Type 0
Words bracket op end = bracket + length (op_text op) ≤ end

module _ (text : List ℕ) (bracket : ℕ) where
  no_op : (refusal : Refusal) → TakesOp (Words bracket) (Err refusal)
  no_op refusal = record { takes = tt }

  number_covers :
      (low high at : ℕ) (op : ℕ → Op)
      → RunOver text at
      → ((value end : ℕ) → Spaced text at value end → Words bracket (op value) end)
      → TakesOp (Words bracket) (number_op text low high op at)
  unfolding number_op
  number_covers low high at op before long =
      then_number_lem (TakesOp (Words bracket)) text low high at _ _ before no_op λ value start end spaced. record { takes = long value end spaced }

  op_covers : (at : ℕ) → bracket < at → TakesOp (Words bracket) (op_at text at)
  unfolding op_at op_keywords send_op op_text bytes_of
  op_covers at past =
      one_of_holds (TakesOp (Words bracket)) text at Err no_op (op_keywords text) (
        λ here worded. number_covers 0 most_number here Read worded.over λ line end spaced. omega arith,
        (
          λ here worded. number_covers 0 most_number here Write worded.over λ line end spaced. omega arith,
          (
            λ here worded.
                then_number_lem (TakesOp (Words bracket)) text 0 last_domain here _ _ worded.over no_op λ recipient start next apart.
                number_covers 0 most_word next (Send recipient) apart.over λ word end spaced. simp length-append (omega arith),
            (
              λ here worded. number_covers 0 last_domain here Receive worded.over λ sender end spaced. omega arith,
              (λ here worded. number_covers least_ticks most_ticks here Compute worded.over λ ticks end spaced. omega arith, tt),
            ),
          ),
        ),
      )

-- with both its brackets
bracketed_covers : (text : List ℕ) (at : ℕ) → TakesOp (λ op end. at + length (op_text op) < end) (bracketed_op text at)
unfolding bracketed_op
bracketed_covers text at =
    let P = TakesOp λ op end. at + length (op_text op) < end in
    let none : (refusal : Refusal) → P (Err refusal) = λ _. record { takes = tt } in
    then_open P text at _ _ none λ opened past.
    by_op P (Words at) (op_at text opened) _ _ (op_covers text at opened past) none λ op end long.
    then_close P text end _ _ none λ closed further.
    record { takes = omega arith }

pub then_op_lem :
    {A : Type 0} (P : A → Type 0) (text : List ℕ) (at : ℕ) (refused : Refusal → A) (go : Op → ℕ → A)
    → ((refusal : Refusal) → P (refused refusal))
    → ((op : Op) (end : ℕ) → at + length (op_text op) < end → P (go op end))
    → P (then_op (bracketed_op text at) refused go)
then_op_lem P text at refused go = by_op P (λ op end. at + length (op_text op) < end) (bracketed_op text at) refused go (bracketed_covers text at)
