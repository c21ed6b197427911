-- How far an op goes on in the text: its word, its numbers and its brackets end at or past the offset that it is read from. Assumes nothing.
use Rattle.std.specs.Prelude.{Result, Ok, Err}
use Prim.Native.Nat.{ℕ, ◌≤◌}
use native.Mathlib.Omega.{arith}
use mathlib.Core.List.{List}
use Rattle.refusal.specs.declared.Refusal.{Refusal}
use Rattle.script.specs.declared.Op.{Op}
use Rattle.script.specs.declared.Op.TheVariants.{Read, Write, Send, Receive, Compute}
use Rattle.script.specs.Limits.{last_domain, least_ticks, most_number, most_ticks, most_word}
use Rattle.syntax.proofs.Advance.{then_close, then_number_lem, then_open}
use Rattle.syntax.proofs.ByKeyword.{one_of_holds}
use Rattle.syntax.specs.Brackets.{bracketed_op}
use Rattle.syntax.specs.Ops.{number_op, op_at, op_keywords, send_op, then_op}

abbrev Ends : ℕ → Result (Op × ℕ) Refusal → Type 0
Ends at (Ok (op, end)) = at ≤ end
Ends at (Err refusal) = Unit {0}

record PastOp (at : ℕ) (taken : Result (Op × ℕ) Refusal) : Type 0 where
  ends : Ends at taken

none : (at : ℕ) (refusal : Refusal) → PastOp at (Err refusal)
none at refusal = record { ends = tt }

number_op_past : (text : List ℕ) (low high at here : ℕ) (op : ℕ → Op) → at ≤ here → PastOp at (number_op text low high op here)
unfolding number_op
number_op_past text low high at here op past =
    then_number_lem (PastOp at) text low high here _ _ (none at) λ value start end _ _ on. record { ends = omega arith }

op_past : (text : List ℕ) (first at : ℕ) → first ≤ at → PastOp first (op_at text at)
unfolding op_at op_keywords send_op
op_past text first at from =
    one_of_holds (PastOp first) (op_keywords text) text at Err (none first) (
      λ here past. number_op_past text 0 most_number first here Read (omega arith),
      (
        λ here past. number_op_past text 0 most_number first here Write (omega arith),
        (
          λ here past.
              then_number_lem (PastOp first) text 0 last_domain here _ _ (none first) λ recipient start end _ _ on.
              number_op_past text 0 most_word first end (Send recipient) (omega arith),
          (
            λ here past. number_op_past text 0 last_domain first here Receive (omega arith),
            (λ here past. number_op_past text least_ticks most_ticks first here Compute (omega arith), tt),
          ),
        ),
      ),
    )

by_op : {A : Type 0} (P : A → Type 0) (at : ℕ) (taken : Result (Op × ℕ) Refusal) (refused : Refusal → A) (go : Op → ℕ → A) → Ends at taken
    → ((refusal : Refusal) → P (refused refusal)) → ((op : Op) (end : ℕ) → at ≤ end → P (go op end)) → P (then_op taken refused go)
by_op P at (Ok (op, end)) refused go h f g = g op end h
by_op P at (Err refusal) refused go h f g = f refusal

bracketed_op_past : (text : List ℕ) (at : ℕ) → PastOp at (bracketed_op text at)
unfolding bracketed_op
bracketed_op_past text at =
    let P = PastOp at in
    then_open P text at _ _ (none at) λ opened o _.
    by_op P at (op_at text opened) _ _ (op_past text at opened o).ends (none at) λ op end n.
    then_close P text end _ _ (none at) λ closed c _. record { ends = omega arith }

-- going on from an op in its brackets, or handing the refusal on
pub then_op_lem : {A : Type 0} (P : A → Type 0) (text : List ℕ) (at : ℕ) (refused : Refusal → A) (go : Op → ℕ → A)
    → ((refusal : Refusal) → P (refused refusal)) → ((op : Op) (end : ℕ) → at ≤ end → P (go op end))
    → P (then_op (bracketed_op text at) refused go)
then_op_lem P text at refused go = by_op P at (bracketed_op text at) refused go (bracketed_op_past text at).ends
