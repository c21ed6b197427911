-- How far taking what is due goes on in the text, and the limits of a number that was taken. Assumes nothing.
use Rattle.std.specs.Prelude.{Result, Ok, Err}
use Prim.Native.Nat.{ℕ, ◌≤◌, ◌<◌}
use native.Mathlib.Omega.{arith}
use mathlib.Core.Bool.{cond, ◌&&◌}
use mathlib.Core.List.{List}
use mathlib.Core.Path.{◌≡◌, ap, sym, subst, ◌∙◌}
use lib.Dec.{eqb, leb}
use lib.ListN.{length}
use borrow.Author.Tests.{eqb-true}
use Rattle.plan.proofs.ValidPlans.{limits}
use Rattle.refusal.specs.declared.Refusal.{Refusal}
use Rattle.refusal.specs.declared.Refusal.TheVariants.{BrokenShape, NumberOutOfLimits}
use Rattle.lexer.proofs.Reached.{Reached, cond_holds, token_bounds, token_reached}
use Rattle.lexer.specs.declared.Token.{Token}
use Rattle.lexer.specs.declared.Token.TheVariants.{LineEnd, Open, Close, Word, Number, LongNumber, Other}
use Rattle.lexer.specs.Tokens.{close_kind, line_end_kind, open_kind, token_at, token_end, token_kind, token_start, word_kind}
use Rattle.syntax.specs.Brackets.{bracketed_number, pass_head}
use Rattle.syntax.specs.Tokens.{due, is_word, number_within, pass_close, pass_line_end, pass_open, pass_word, take_number, then, then_number, numeral_with}
use Rattle.syntax.specs.declared.Numeral.{Numeral}

-- ---- a bracket, a word, a line's end

-- a token of the kind that is due rises from the offset and lies in the text; a line's end does where the offset does
pub due_holds : {A : Type 0} (P : A → Type 0) (text : List ℕ) (kind at : ℕ) (refused : Refusal → A) (go : ℕ → ℕ → A)
    → (kind ≡ line_end_kind → at ≤ length text) → ((refusal : Refusal) → P (refused refusal))
    → ((start end : ℕ) → at ≤ start → start ≤ end → end ≤ length text → P (go start end))
    → P (due kind (token_at text at) refused go)
due_holds P text kind at refused go line f g =
    let token = token_at text at in
    let bounds = token_bounds text at in
    cond_holds P (eqb (token_kind token) kind) (go (token_start token) (token_end token)) (refused (BrokenShape (token_start token)))
    (λ same. g (token_start token) (token_end token) bounds.least bounds.order
    (bounds.inside (λ none. line (sym (eqb-true _ _ same) ∙ none))))
    (λ _. f (BrokenShape (token_start token)))

-- what was due ends at or past the offset, and within the text
abbrev pub Past : List ℕ → ℕ → Result ℕ Refusal → Type 0
Past text at (Ok end) = (at ≤ end) × (end ≤ length text)
Past text at (Err refusal) = Unit {0}

kind_past : (text : List ℕ) (kind at : ℕ) → (kind ≡ line_end_kind → at ≤ length text)
    → Past text at (due kind (token_at text at) Err λ start end. Ok end)
kind_past text kind at line =
    due_holds (Past text at) text kind at Err (λ start end. Ok end) line (λ _. tt) (λ start end least order inside. (omega arith, inside))

open_past : (text : List ℕ) (at : ℕ) → Past text at (pass_open text at)
unfolding pass_open
open_past text at = kind_past text open_kind at (λ none. absurd (omega arith))

close_past : (text : List ℕ) (at : ℕ) → Past text at (pass_close text at)
unfolding pass_close
close_past text at = kind_past text close_kind at (λ none. absurd (omega arith))

line_end_past : (text : List ℕ) (at : ℕ) → at ≤ length text → Past text at (pass_line_end text at)
unfolding pass_line_end
line_end_past text at within = kind_past text line_end_kind at (λ _. within)

word_past : (text word : List ℕ) (first at : ℕ) → first ≤ at → Past text first (pass_word text word at)
unfolding pass_word
word_past text word first at past =
    due_holds (Past text first) text word_kind at Err (λ start end. cond (is_word text start end word) (Ok end) (Err (BrokenShape start)))
    (λ none. absurd (omega arith)) (λ _. tt) λ start end least order inside.
    cond_holds (Past text first) (is_word text start end word) (Ok end) (Err (BrokenShape start)) (λ _. (omega arith, inside)) (λ _. tt)

-- ---- a number

-- a fact of a number and its two offsets, where there is one
abbrev pub OfNumber : (ℕ → ℕ → ℕ → Type 0) → Result Numeral Refusal → Type 0
OfNumber Fact (Ok numeral) = Fact numeral.value numeral.start numeral.end
OfNumber Fact (Err refusal) = Unit {0}

-- it is within its limits, and ends past the offset and within the text
abbrev pub Limited : List ℕ → ℕ → ℕ → ℕ → Result Numeral Refusal → Type 0
Limited text low high at =
    OfNumber λ value start end. (low ≤ value) × (value ≤ high) × (at ≤ start) × (start < end) × (end ≤ length text)

number_of_limited : (text : List ℕ) (low high at : ℕ) (token : Token) → Reached text at token → Limited text low high at (number_within low high token)
number_of_limited text low high at (LineEnd offset) h = tt
number_of_limited text low high at (Open offset) h = tt
number_of_limited text low high at (Close offset) h = tt
number_of_limited text low high at (Word start end) h = tt
number_of_limited text low high at (Number start end value) h =
    cond_holds (Limited text low high at) (leb low value && leb value high) (Ok (numeral_with value start end)) (Err (NumberOutOfLimits start))
    (λ within. let both = limits low high value within in (both.0, both.1, h.0, h.1, h.2))
    (λ _. tt)
number_of_limited text low high at (LongNumber start end) h = tt
number_of_limited text low high at (Other start end) h = tt

pub number_limited : (text : List ℕ) (low high at : ℕ) → Limited text low high at (take_number text low high at)
unfolding take_number
number_limited text low high at = number_of_limited text low high at (token_at text at) (token_reached text at)

-- the same of an answer that is known to be of some kind
pub limited : (text : List ℕ) (low high at : ℕ) {taken kind : Result Numeral Refusal} → taken ≡ take_number text low high at → taken ≡ kind
    → Limited text low high at kind
limited text low high at next known = subst (Limited text low high at) (sym next ∙ known) (number_limited text low high at)

-- ---- going on from what was due, or handing the refusal on

-- what the code answers to the number that it took, where that is the number that is due
pub number_answer : {A : Type 0} (refused : Refusal → A) (go : ℕ → ℕ → ℕ → A) {taken kind wanted : Result Numeral Refusal} {answer : A}
    → taken ≡ wanted → taken ≡ kind → answer ≡ then_number kind refused go → answer ≡ then_number wanted refused go
number_answer refused go due known answered = answered ∙ ap (λ (parse : Result Numeral Refusal). then_number parse refused go) (sym known ∙ due)

module _ {A : Type 0} (P : A → Type 0) (text : List ℕ) where
  by_passed : (at : ℕ) (passed : Result ℕ Refusal) (refused : Refusal → A) (go : ℕ → A) → Past text at passed → ((refusal : Refusal) → P (refused refusal))
      → ((end : ℕ) → at ≤ end → end ≤ length text → P (go end)) → P (then passed refused go)
  by_passed at (Ok end) refused go h f g = g end h.0 h.1
  by_passed at (Err refusal) refused go h f g = f refusal

  pub then_open : (at : ℕ) (refused : Refusal → A) (go : ℕ → A) → ((refusal : Refusal) → P (refused refusal))
      → ((end : ℕ) → at ≤ end → end ≤ length text → P (go end)) → P (then (pass_open text at) refused go)
  then_open at refused go = by_passed at (pass_open text at) refused go (open_past text at)

  pub then_close : (at : ℕ) (refused : Refusal → A) (go : ℕ → A) → ((refusal : Refusal) → P (refused refusal))
      → ((end : ℕ) → at ≤ end → end ≤ length text → P (go end)) → P (then (pass_close text at) refused go)
  then_close at refused go = by_passed at (pass_close text at) refused go (close_past text at)

  pub then_line_end : (at : ℕ) (refused : Refusal → A) (go : ℕ → A) → at ≤ length text → ((refusal : Refusal) → P (refused refusal))
      → ((end : ℕ) → at ≤ end → end ≤ length text → P (go end)) → P (then (pass_line_end text at) refused go)
  then_line_end at refused go within = by_passed at (pass_line_end text at) refused go (line_end_past text at within)

  pub by_number : (Fact : ℕ → ℕ → ℕ → Type 0) (taken : Result Numeral Refusal) (refused : Refusal → A) (go : ℕ → ℕ → ℕ → A) → OfNumber Fact taken
      → ((refusal : Refusal) → P (refused refusal)) → ((value start end : ℕ) → Fact value start end → P (go value start end))
      → P (then_number taken refused go)
  by_number Fact (Ok numeral) refused go h f g = g numeral.value numeral.start numeral.end h
  by_number Fact (Err refusal) refused go h f g = f refusal

  pub then_number_lem : (low high at : ℕ) (refused : Refusal → A) (go : ℕ → ℕ → ℕ → A) → ((refusal : Refusal) → P (refused refusal))
      → ((value start end : ℕ) → low ≤ value → value ≤ high → at ≤ end → P (go value start end))
      → P (then_number (take_number text low high at) refused go)
  then_number_lem low high at refused go f g =
      by_number _ (take_number text low high at) refused go (number_limited text low high at) f
      (λ value start end h. g value start end h.0 h.1 (omega arith))

head_past : (text word : List ℕ) (at : ℕ) → Past text at (pass_head text word at)
unfolding pass_head
head_past text word at =
    then_open (Past text at) text at Err (pass_word text word) (λ _. tt) λ opened past _. word_past text word at opened past

module _ {A : Type 0} (P : A → Type 0) (text : List ℕ) where
  pub then_head : (word : List ℕ) (at : ℕ) (refused : Refusal → A) (go : ℕ → A) → ((refusal : Refusal) → P (refused refusal))
      → ((end : ℕ) → at ≤ end → end ≤ length text → P (go end)) → P (then (pass_head text word at) refused go)
  then_head word at refused go = by_passed P text at (pass_head text word at) refused go (head_past text word at)

-- a number in brackets of its own
abbrev Bracketed : ℕ → ℕ → ℕ → Result Numeral Refusal → Type 0
Bracketed low high at = OfNumber λ value start end. (low ≤ value) × (value ≤ high) × (at ≤ end)

record IsBracketed (low high at : ℕ) (taken : Result Numeral Refusal) : Type 0 where
  is : Bracketed low high at taken

bracketed_limited : (text word : List ℕ) (low high at : ℕ) → IsBracketed low high at (bracketed_number text word low high at)
unfolding bracketed_number
bracketed_limited text word low high at =
    let P = IsBracketed low high at in
    let none : (refusal : Refusal) → P (Err refusal) = λ _. record { is = tt } in
    then_head P text word at _ _ none λ worded w _.
    then_number_lem P text low high worded _ _ none λ value start end least most n.
    then_close P text end _ _ none λ closed c _.
    record { is = (least, most, omega arith) }

pub then_bracketed : {A : Type 0} (P : A → Type 0) (text word : List ℕ) (low high at : ℕ) (refused : Refusal → A) (go : ℕ → ℕ → ℕ → A)
    → ((refusal : Refusal) → P (refused refusal))
    → ((value start end : ℕ) → low ≤ value → value ≤ high → at ≤ end → P (go value start end))
    → P (then_number (bracketed_number text word low high at) refused go)
then_bracketed P text word low high at refused go f g =
    by_number P text _ (bracketed_number text word low high at) refused go (bracketed_limited text word low high at).is f
    (λ value start end h. g value start end h.0 h.1 h.2)
