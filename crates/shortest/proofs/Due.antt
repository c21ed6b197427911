-- How far taking what is due goes on in the text: a bracket a byte, a word its letters, and a number after a word or another number a space and the
-- digits of its decimal form. Assumes nothing.
use Rattle.std.specs.Prelude.{Result, Ok, Err}
use Prim.Native.Nat.{ℕ, ◌+◌, ◌-◌, ◌≤◌, ◌<◌}
use native.Mathlib.Omega.{arith}
use mathlib.Core.Bool.{true, cond, true≢false, ◌&&◌}
use mathlib.Core.List.{List, [], ◌∷◌}
use mathlib.Core.Path.{◌≡◌, sym, ◌∙◌}
use lib.Dec.{eqb, leb}
use lib.ListN.{length}
use borrow.Author.Tests.{eqb-true}
use Rattle.lists.specs.Part.{part}
use Rattle.lists.proofs.Parts.{part_limit}
use Rattle.refusal.specs.declared.Refusal.{Refusal}
use Rattle.refusal.specs.declared.Refusal.TheVariants.{BrokenShape, NumberOutOfLimits}
use Rattle.syntax.specs.Brackets.{bracketed_number, pass_head}
use Rattle.syntax.specs.Keywords.{Keyword, follows, one_of}
use Rattle.syntax.specs.Tokens.{due, is_word, pass_close, pass_line_end, pass_open, pass_word, take_number, then, then_number, numeral_with}
use Rattle.syntax.proofs.Choices.{choice_holds, same_or_not}
use Rattle.syntax.proofs.Words.{same_lengths}
use Rattle.lexer.specs.Decimal.{decimal_of}
use Rattle.lexer.specs.Tokens.{close_kind, line_end_kind, long_number_kind, number_kind, open_kind, token_at, token_end, token_kind, token_start, token_value, word_kind}
use Rattle.lexer.proofs.Reached.{cond_holds, token_bounds}
use Rattle.shortest.proofs.Runs.{RunOver}
use Rattle.shortest.proofs.Tokens.{bracket_long, token_spans}
use Rattle.syntax.specs.declared.Numeral.{Numeral}

-- ---- by the next token

module _
    {A : Type 0} (P : A → Type 0) (text : List ℕ) (at : ℕ) (refused : Refusal → A) (go : ℕ → ℕ → A)
    (none : (refusal : Refusal) → P (refused refusal)) where
  due_kind :
      (kind : ℕ)
      → (token_kind (token_at text at) ≡ kind → P (go (token_start (token_at text at)) (token_end (token_at text at))))
      → P (due kind (token_at text at) refused go)
  due_kind kind goes =
      let token = token_at text at in
      cond_holds P (eqb (token_kind token) kind) (go (token_start token) (token_end token)) (refused (BrokenShape (token_start token)))
      (λ same. goes (eqb-true (token_kind token) kind same))
      (λ _. none (BrokenShape (token_start token)))

  pub due_bracket :
      (kind : ℕ)
      → 0 < kind
      → kind < word_kind
      → ((start end : ℕ) → at ≤ start → start < end → P (go start end))
      → P (due kind (token_at text at) refused go)
  due_bracket kind some few goes =
      let token = token_at text at in
      due_kind kind λ is.
      goes (token_start token) (token_end token) (token_bounds text at).least (bracket_long token (omega arith) (omega arith))

  due_word :
      ((start end : ℕ) → at ≤ start → start ≤ end → RunOver text end → P (go start end))
      → P (due word_kind (token_at text at) refused go)
  due_word goes =
      let token = token_at text at in
      let bounds = token_bounds text at in
      due_kind word_kind λ is. goes (token_start token) (token_end token) bounds.least bounds.order ((token_spans text at).over (omega arith))

-- ---- a bracket, a line's end

-- a fact of the offset that is reached, where what was due was there
abbrev OfToken : (ℕ → Type 0) → Result ℕ Refusal → Type 0
OfToken Fact (Ok end) = Fact end
OfToken Fact (Err refusal) = Unit {0}

record Reaches (Fact : ℕ → Type 0) (passed : Result ℕ Refusal) : Type 0 where
  reaches : OfToken Fact passed

by_passed :
    {A : Type 0} (P : A → Type 0) (Fact : ℕ → Type 0) (passed : Result ℕ Refusal) (refused : Refusal → A) (go : ℕ → A)
    → OfToken Fact passed
    → ((refusal : Refusal) → P (refused refusal))
    → ((end : ℕ) → Fact end → P (go end))
    → P (then passed refused go)
by_passed P Fact (Ok end) refused go fact none goes = goes end fact
by_passed P Fact (Err refusal) refused go fact none goes = none refusal

module _ (text : List ℕ) (at : ℕ) where
  bracket_reaches : (kind : ℕ) → 0 < kind → kind < word_kind → Reaches (λ end. at < end) (due kind (token_at text at) Err λ start end. Ok end)
  bracket_reaches kind some few =
      due_bracket (Reaches λ end. at < end) text at Err (λ start end. Ok end) (λ _. record { reaches = tt }) kind some few
      λ start end past long. record { reaches = omega arith }

  open_reaches : Reaches (λ end. at < end) (pass_open text at)
  unfolding pass_open
  open_reaches = bracket_reaches open_kind (omega arith) (omega arith)

  close_reaches : Reaches (λ end. at < end) (pass_close text at)
  unfolding pass_close
  close_reaches = bracket_reaches close_kind (omega arith) (omega arith)

  line_end_reaches : Reaches (λ end. at ≤ end) (pass_line_end text at)
  unfolding pass_line_end
  line_end_reaches =
      let bounds = token_bounds text at in
      due_kind (Reaches λ end. at ≤ end) text at Err (λ start end. Ok end) (λ _. record { reaches = tt }) line_end_kind
      λ is. record { reaches = omega (arith, bounds.least, bounds.order) }

module _
    {A : Type 0} (P : A → Type 0) (text : List ℕ) (at : ℕ) (refused : Refusal → A) (go : ℕ → A)
    (none : (refusal : Refusal) → P (refused refusal)) where
  pub then_open : ((end : ℕ) → at < end → P (go end)) → P (then (pass_open text at) refused go)
  then_open = by_passed P (λ end. at < end) (pass_open text at) refused go (open_reaches text at).reaches none

  pub then_close : ((end : ℕ) → at < end → P (go end)) → P (then (pass_close text at) refused go)
  then_close = by_passed P (λ end. at < end) (pass_close text at) refused go (close_reaches text at).reaches none

  pub then_line_end : ((end : ℕ) → at ≤ end → P (go end)) → P (then (pass_line_end text at) refused go)
  then_line_end = by_passed P (λ end. at ≤ end) (pass_line_end text at) refused go (line_end_reaches text at).reaches none

-- ---- a word

-- what stands from one offset up to another is as long as the word that it is
word_long : (text word : List ℕ) (start end : ℕ) → start ≤ end → is_word text start end word ≡ true → start + length word ≤ end
unfolding is_word
word_long text word start end order is =
    let bytes = part start (end - start) text in
    let long = part_limit start (end - start) text in
    same_or_not (length bytes) (length word) (λ same. omega arith)
    (λ differ. absurd (true≢false (sym is ∙ same_lengths bytes word differ)))

-- a word of this length was read from an offset
pub record Worded (text : List ℕ) (at letters end : ℕ) : Type 0 where
  pub long : at + letters ≤ end
  pub over : RunOver text end

word_reaches : (text word : List ℕ) (at : ℕ) → Reaches (Worded text at (length word)) (pass_word text word at)
unfolding pass_word
word_reaches text word at =
    let P = Reaches (Worded text at (length word)) in
    due_word P text at Err (λ start end. cond (is_word text start end word) (Ok end) (Err (BrokenShape start))) (λ _. record { reaches = tt })
    λ start end past order over.
    cond_holds P (is_word text start end word) (Ok end) (Err (BrokenShape start))
    (λ is. record { reaches = record { long = omega (arith, word_long text word start end order is); over = over } })
    (λ _. record { reaches = tt })

-- with a bracket before it
head_reaches : (text word : List ℕ) (at : ℕ) → Reaches (Worded text at (1 + length word)) (pass_head text word at)
unfolding pass_head
head_reaches text word at =
    let P = Reaches (Worded text at (1 + length word)) in
    then_open P text at Err (pass_word text word) (λ _. record { reaches = tt }) λ opened past.
    further (pass_word text word opened) (omega arith) (word_reaches text word opened).reaches
  where
    further :
        {opened : ℕ} (passed : Result ℕ Refusal)
        → at < opened
        → OfToken (Worded text opened (length word)) passed
        → Reaches (Worded text at (1 + length word)) passed
    further (Ok end) past worded = record { reaches = record { long = omega arith; over = worded.over } }
    further (Err refusal) past worded = record { reaches = tt }

pub then_head :
    {A : Type 0} (P : A → Type 0) (text word : List ℕ) (at : ℕ) (refused : Refusal → A) (go : ℕ → A)
    → ((refusal : Refusal) → P (refused refusal))
    → ((end : ℕ) → Worded text at (1 + length word) end → P (go end))
    → P (then (pass_head text word at) refused go)
then_head P text word at refused go =
    by_passed P (Worded text at (1 + length word)) (pass_head text word at) refused go (head_reaches text word at).reaches

-- ---- one of a few words

-- what follows each keyword, which is read from an offset
abbrev EachWorded : {A : Type 0} → (A → Type 0) → List ℕ → ℕ → List (Keyword A) → Type 0
EachWorded P text at [] = Unit {0}
EachWorded P text at (keyword ∷ others) =
    ((end : ℕ) → Worded text at (length keyword.word) end → P (keyword.follow end)) × EachWorded P text at others

module _ {A : Type 0} (P : A → Type 0) (text : List ℕ) (at : ℕ) (refused : Refusal → A) (none : (refusal : Refusal) → P (refused refusal)) where
  follows_holds :
      (keywords : List (Keyword A)) (start end : ℕ)
      → at ≤ start
      → start ≤ end
      → RunOver text end
      → EachWorded P text at keywords
      → P (follows keywords text start end refused)
  unfolding follows
  follows_holds [] start end past order over each = none (BrokenShape start)
  follows_holds (keyword ∷ others) start end past order over each =
      choice_holds P (is_word text start end keyword.word) _ _
      (λ is. each.0 end (record { long = omega (arith, word_long text keyword.word start end order is); over = over }))
      (λ _. follows_holds others start end past order over each.1)

  pub one_of_holds : (keywords : List (Keyword A)) → EachWorded P text at keywords → P (one_of keywords text at refused)
  one_of_holds keywords each =
      due_word P text at refused (λ start end. follows keywords text start end refused) none
      λ start end past order over. follows_holds keywords start end past order over each

-- ---- a number

-- a number was read from an offset that a run ends at: a space, and the digits of its decimal form at least
pub record Spaced (text : List ℕ) (at value end : ℕ) : Type 0 where
  pub long : at + 1 + length (decimal_of value) ≤ end
  pub over : RunOver text end

abbrev OfValue : (ℕ → ℕ → Type 0) → Result Numeral Refusal → Type 0
OfValue Fact (Ok numeral) = Fact numeral.value numeral.end
OfValue Fact (Err refusal) = Unit {0}

pub record Takes (Fact : ℕ → ℕ → Type 0) (taken : Result Numeral Refusal) : Type 0 where
  pub takes : OfValue Fact taken

pub by_taken :
    {A : Type 0} (P : A → Type 0) (Fact : ℕ → ℕ → Type 0) (taken : Result Numeral Refusal) (refused : Refusal → A) (go : ℕ → ℕ → ℕ → A)
    → Takes Fact taken
    → ((refusal : Refusal) → P (refused refusal))
    → ((value start end : ℕ) → Fact value end → P (go value start end))
    → P (then_number taken refused go)
by_taken P Fact (Ok numeral) refused go fact none goes = goes numeral.value numeral.start numeral.end fact.takes
by_taken P Fact (Err refusal) refused go fact none goes = none refusal

number_takes : (text : List ℕ) (low high at : ℕ) → RunOver text at → Takes (Spaced text at) (take_number text low high at)
unfolding take_number
number_takes text low high at before =
    let P = Takes (Spaced text at) in
    let token = token_at text at in
    let spans = token_spans text at in
    let within = leb low (token_value token) && leb (token_value token) high in
    cond_holds P (eqb (token_kind token) long_number_kind) _ _ (λ _. record { takes = tt }) λ _.
    due_kind P text at Err (λ start end. cond within (Ok (numeral_with (token_value token) start end)) (Err (NumberOutOfLimits start)))
    (λ _. record { takes = tt }) number_kind λ is.
    cond_holds P within (Ok (numeral_with (token_value token) (token_start token) (token_end token))) (Err (NumberOutOfLimits (token_start token)))
    (λ _.
    let digits = spans.digits is in
    record { takes = record { long = omega (arith, digits.apart before, digits.enough); over = spans.over (omega arith) } })
    (λ _. record { takes = tt })

pub then_number_lem :
    {A : Type 0} (P : A → Type 0) (text : List ℕ) (low high at : ℕ) (refused : Refusal → A) (go : ℕ → ℕ → ℕ → A)
    → RunOver text at
    → ((refusal : Refusal) → P (refused refusal))
    → ((value start end : ℕ) → Spaced text at value end → P (go value start end))
    → P (then_number (take_number text low high at) refused go)
then_number_lem P text low high at refused go before =
    by_taken P (Spaced text at) (take_number text low high at) refused go (number_takes text low high at before)

-- a number in brackets of its own, after its word
bracketed_takes :
    (text word : List ℕ) (low high at : ℕ)
    → Takes (λ value end. at + 3 + length word + length (decimal_of value) ≤ end) (bracketed_number text word low high at)
unfolding bracketed_number
bracketed_takes text word low high at =
    let P = Takes λ value end. at + 3 + length word + length (decimal_of value) ≤ end in
    let none : (refusal : Refusal) → P (Err refusal) = λ _. record { takes = tt } in
    then_head P text word at _ _ none λ worded head.
    then_number_lem P text low high worded _ _ head.over none λ value start end spaced.
    then_close P text end _ _ none λ closed past.
    record { takes = omega arith }

pub then_bracketed :
    {A : Type 0} (P : A → Type 0) (text word : List ℕ) (low high at : ℕ) (refused : Refusal → A) (go : ℕ → ℕ → ℕ → A)
    → ((refusal : Refusal) → P (refused refusal))
    → ((value start end : ℕ) → at + 3 + length word + length (decimal_of value) ≤ end → P (go value start end))
    → P (then_number (bracketed_number text word low high at) refused go)
then_bracketed P text word low high at refused go =
    by_taken P (λ value end. at + 3 + length word + length (decimal_of value) ≤ end) (bracketed_number text word low high at) refused go
    (bracketed_takes text word low high at)
