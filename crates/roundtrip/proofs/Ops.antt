-- The written line of an op is read as that op, in the script of the domain that it names. Assumes nothing.
use Rattle.std.specs.Prelude.{Result, Ok, Err}
use Prim.Native.Nat.{ℕ, ◌+◌, ◌≤◌, ◌<◌}
use native.Mathlib.Omega.{arith}
use mathlib.Core.Bool.{true}
use mathlib.Core.List.{List, ◌∷◌, ◌++◌, append_assoc}
use mathlib.Core.Path.{◌≡◌, refl, ap, ◌∙◌}
use lib.ListN.{drop, length}
use Rattle.forms.specs.declared.Form.TheVariants.{Op as Script}
use Rattle.forms.specs.Forms.{op_form}
use Rattle.line.specs.Lines.{form_keywords, line_at}
use Rattle.lists.specs.Ascii.{bytes_of}
use Rattle.plan.specs.Limits.{most_domains}
use Rattle.refusal.specs.declared.Refusal.{Refusal}
use Rattle.script.specs.declared.Op.{Op}
use Rattle.script.specs.declared.Op.TheVariants.{Read, Write, Send, Receive, Compute}
use Rattle.script.specs.Limits.{OpWithinLimits, last_domain, least_ticks, most_number, most_ticks, most_word}
use Rattle.syntax.specs.Brackets.{bracketed_op}
use Rattle.syntax.specs.Ops.{number_op, op_at, op_keywords, send_op, then_op}
use Rattle.syntax.specs.Tokens.{same_bytes}
use Rattle.lexer.specs.Bytes.{ends_run, is_letter}
use Rattle.lexer.specs.Decimal.{decimal_of}
use Rattle.lexer.specs.Scan.{all_bytes}
use Rattle.lexer.proofs.Scanned.{left_past, stops_at}
use Rattle.writer.specs.Canonical.{followed}
use Rattle.writer.specs.Lines.{op_line, op_text}
use Rattle.roundtrip.proofs.Due.{close_goes, number_takes, open_goes, then_goes, then_takes}
use Rattle.roundtrip.proofs.Forms.{declared_takes}
use Rattle.roundtrip.proofs.Lines.{Reads, Within, closed_reads, line_reads, one_of_selected, selected}

-- an op was due, and this one was there
record TakesOp (text rest : List ℕ) (op : Op) (taken : Result (Op × ℕ) Refusal) : Type 0 where
  end : ℕ
  is : taken ≡ Ok (op, end)
  left : drop end text ≡ rest

then_takes_op :
    {A : Type 0} {text rest : List ℕ} {op : Op} {taken : Result (Op × ℕ) Refusal} (due : TakesOp text rest op taken) (refused : Refusal → A) (go : Op → ℕ → A)
    → then_op taken refused go ≡ go op due.end
then_takes_op due refused go = ap (λ (taken : Result (Op × ℕ) Refusal). then_op taken refused go) due.is

-- ---- the numbers, past the word

number_takes_op :
    (text : List ℕ) (at low high : ℕ) (op : ℕ → Op) (number : ℕ) (rest : List ℕ)
    → drop at text ≡ 32 ∷ (decimal_of number ++ rest)
    → low ≤ number
    → number ≤ high
    → high < 10_000_000_000
    → stops_at ends_run rest ≡ true
    → TakesOp text rest (op number) (number_op text low high op at)
unfolding number_op
number_takes_op text at low high op number rest left least most small ends =
    let taken = number_takes text at low high number rest left least most small ends in
    record { end = taken.end; is = then_takes taken Err _; left = taken.left }

send_takes_op :
    (text : List ℕ) (at recipient word : ℕ) (rest : List ℕ)
    → drop at text ≡ 32 ∷ (decimal_of recipient ++ 32 ∷ (decimal_of word ++ rest))
    → recipient ≤ last_domain
    → word ≤ most_word
    → stops_at ends_run rest ≡ true
    → TakesOp text rest (Send recipient word) (send_op text at)
unfolding send_op
send_takes_op text at recipient word rest left low small ends =
    let first = number_takes text at 0 last_domain recipient _ left (omega arith) low (omega arith) refl in
    let second = number_takes_op text first.end 0 most_word (Send recipient) word rest first.left (omega arith) small (omega arith) ends in
    record { end = second.end; is = then_takes first Err _ ∙ second.is; left = second.left }

-- ---- the op in its brackets

module _ (text : List ℕ) (at : ℕ) (rest : List ℕ) where
  -- by the word that opens it
  worded_op :
      (word inner : List ℕ) (op : Op)
      → drop at text ≡ 40 ∷ word ++ inner
      → 0 < length word
      → all_bytes is_letter word ≡ true
      → stops_at ends_run inner ≡ true
      → ((start : ℕ)
      → drop (start + length word) text ≡ inner
      → TakesOp text (41 ∷ rest) op (selected (op_keywords text) word start (start + length word) Err))
      → TakesOp text rest op (bracketed_op text at)
  unfolding bracketed_op op_at
  worded_op word inner op left some letters ends follow =
      let opened = open_goes text at (word ++ inner) left in
      let start = opened.end in
      let taken = follow start (left_past text start word inner opened.left) in
      let worded = one_of_selected text start word inner Err opened.left (op_keywords text) some letters ends in
      let closed = close_goes text taken.end rest taken.left in
      let found : TakesOp text (41 ∷ rest) op (op_at text start) = record { end = taken.end; is = worded ∙ taken.is; left = taken.left } in
      record {
        end = closed.end;
        is = then_goes opened Err _ ∙ then_takes_op found Err _ ∙ then_goes closed Err _;
        left = closed.left;
      }

  op_bracketed : (op : Op) → OpWithinLimits op → drop at text ≡ op_text op ++ 41 ∷ rest → TakesOp text rest op (bracketed_op text at)
  unfolding op_text OpWithinLimits bytes_of all_bytes same_bytes op_keywords selected
  op_bracketed (Read line) within left =
      worded_op (bytes_of "read") (32 ∷ (decimal_of line ++ 41 ∷ rest)) (Read line) (left ∙ simp append_assoc) (omega arith) refl refl λ start past.
      number_takes_op text _ 0 most_number Read line (41 ∷ rest) past (omega arith) within (omega arith) refl
  op_bracketed (Write line) within left =
      worded_op (bytes_of "write") (32 ∷ (decimal_of line ++ 41 ∷ rest)) (Write line) (left ∙ simp append_assoc) (omega arith) refl refl λ start past.
      number_takes_op text _ 0 most_number Write line (41 ∷ rest) past (omega arith) within (omega arith) refl
  op_bracketed (Send recipient word) within left =
      worded_op (bytes_of "send") (32 ∷ (decimal_of recipient ++ 32 ∷ (decimal_of word ++ 41 ∷ rest))) (Send recipient word) (left ∙ simp append_assoc)
      (omega arith) refl refl λ start past.
      send_takes_op text _ recipient word (41 ∷ rest) past within.0 within.1 refl
  op_bracketed (Receive sender) within left =
      worded_op (bytes_of "receive") (32 ∷ (decimal_of sender ++ 41 ∷ rest)) (Receive sender) (left ∙ simp append_assoc) (omega arith) refl refl λ start past.
      number_takes_op text _ 0 last_domain Receive sender (41 ∷ rest) past (omega arith) within (omega arith) refl
  op_bracketed (Compute ticks) within left =
      worded_op (bytes_of "compute") (32 ∷ (decimal_of ticks ++ 41 ∷ rest)) (Compute ticks) (left ∙ simp append_assoc) (omega arith) refl refl λ start past.
      number_takes_op text _ least_ticks most_ticks Compute ticks (41 ∷ rest) past within.0 within.1 (omega arith) refl

-- an op begins with the bracket that opens it, so the number before it ends there
op_ends : (op : Op) (rest : List ℕ) → stops_at ends_run (op_text op ++ rest) ≡ true
unfolding op_text bytes_of
op_ends (Read line) rest = refl
op_ends (Write line) rest = refl
op_ends (Send recipient word) rest = refl
op_ends (Receive sender) rest = refl
op_ends (Compute ticks) rest = refl

op_within :
    (text : List ℕ) (at declared domain : ℕ) (op : Op) (rest : List ℕ)
    → declared ≤ most_domains
    → domain < declared
    → OpWithinLimits op
    → drop at text ≡ 32 ∷ (decimal_of domain ++ (op_text op ++ 41 ∷ rest))
    → Within text rest (Script (record { domain = domain; op = op })) (op_form text declared at)
unfolding op_form
op_within text at declared domain op rest few below within left =
    let numbered = declared_takes text at declared domain _ few below left (op_ends op (41 ∷ rest)) in
    let taken = op_bracketed text numbered.end rest op within numbered.left in
    record { end = taken.end; is = then_takes numbered Err _ ∙ then_takes_op taken Err _; left = taken.left }

-- ---- the line

pub op_reads :
    (text : List ℕ) (at declared : ℕ) (named : List ℕ) (more : List (List ℕ)) (domain : ℕ) (op : Op)
    → declared ≤ most_domains
    → domain < declared
    → OpWithinLimits op
    → drop at text ≡ op_line domain op ++ followed more
    → Reads text (followed more) (Script (record { domain = domain; op = op })) named (line_at text declared named at)
unfolding op_line bytes_of all_bytes same_bytes form_keywords selected
op_reads text at declared named more domain op few below within left =
    let rest : List ℕ = 32 ∷ (decimal_of domain ++ (op_text op ++ 41 ∷ 41 ∷ followed more)) in
    let shape : drop at text ≡ 40 ∷ bytes_of "op" ++ rest = left ∙ simp append_assoc in
    let form = Script (record { domain = domain; op = op }) in
    line_reads text at declared named (bytes_of "op") rest form named more shape (omega arith) refl refl λ past.
    closed_reads text at named form _ more (op_within text _ declared domain op (41 ∷ followed more) few below within past)
