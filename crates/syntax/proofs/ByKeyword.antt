-- A word that is one of a few: what holds of each, and that what follows one of several is what follows the word that the code found.
-- Assumes nothing.
use Prim.Native.Nat.{ℕ, ◌≤◌}
use native.Mathlib.Omega.{arith}
use mathlib.Core.Bool.{Bool, true, false, cond}
use mathlib.Core.List.{List, [], ◌∷◌}
use mathlib.Core.Path.{◌≡◌, refl, sym, ap, ◌∙◌}
use lib.Dec.{eqb}
use Rattle.refusal.specs.declared.Refusal.{Refusal}
use Rattle.refusal.specs.declared.Refusal.TheVariants.{BrokenShape}
use Rattle.lexer.specs.declared.Token.{Token}
use Rattle.lexer.specs.Tokens.{token_at, token_end, token_kind, token_start, word_kind}
use Rattle.syntax.proofs.Advance.{due_holds}
use Rattle.syntax.proofs.Choices.{choice_holds}
use Rattle.std.specs.Prelude.{Result, Ok, Err}
use Rattle.syntax.specs.Keywords.{Keyword, follows, keyword_at, one_of}
use Rattle.syntax.specs.Tokens.{is_word}

-- ---- what holds of each

-- what follows each keyword from an offset on
abbrev pub Each : {A : Type 0} → (A → Type 0) → ℕ → List (Keyword A) → Type 0
Each P at [] = Unit {0}
Each P at (keyword ∷ others) = ((end : ℕ) → at ≤ end → P (keyword.follow end)) × Each P at others

follows_holds : {A : Type 0} (P : A → Type 0) (keywords : List (Keyword A)) (text : List ℕ) (at start end : ℕ) (refused : Refusal → A)
    → at ≤ end → ((refusal : Refusal) → P (refused refusal)) → Each P at keywords → P (follows keywords text start end refused)
unfolding follows
follows_holds P [] text at start end refused past f each = f (BrokenShape start)
follows_holds P (keyword ∷ others) text at start end refused past f each =
    choice_holds P (is_word text start end keyword.word) _ _
    (λ _. each.0 end past)
    (λ _. follows_holds P others text at start end refused past f each.1)

pub one_of_holds : {A : Type 0} (P : A → Type 0) (keywords : List (Keyword A)) (text : List ℕ) (at : ℕ) (refused : Refusal → A)
    → ((refusal : Refusal) → P (refused refusal)) → Each P at keywords → P (one_of keywords text at refused)
one_of_holds P keywords text at refused f each =
    due_holds P text word_kind at refused _ (λ none. absurd (omega arith)) f λ start end least order _.
    follows_holds P keywords text at start end refused (omega arith) f each

-- ---- which of several it is

-- a function of what follows, carried to each keyword
abbrev pub mapped : {A B : Type 0} → (B → A) → List (Keyword B) → List (Keyword A)
mapped f [] = []
mapped f (keyword ∷ others) = record { word = keyword.word; follow = λ end. f (keyword.follow end) } ∷ mapped f others

follows_mapped : {A B : Type 0} (f : B → A) (keywords : List (Keyword B)) (text : List ℕ) (start end : ℕ) (refused : Refusal → B)
    → follows (mapped f keywords) text start end (λ refusal. f (refused refusal)) ≡ f (follows keywords text start end refused)
unfolding follows
follows_mapped f [] text start end refused = refl
follows_mapped {A} {B} f (keyword ∷ others) text start end refused =
    go (is_word text start end keyword.word) (follows_mapped f others text start end refused)
  where
    go : (test : Bool)
        → follows (mapped f others) text start end (λ refusal. f (refused refusal)) ≡ f (follows others text start end refused)
        → elim test [ true ↦ f (keyword.follow end) | false ↦ follows (mapped f others) text start end (λ refusal. f (refused refusal)) ]
        ≡ f (elim test [ true ↦ keyword.follow end | false ↦ follows others text start end refused ])
    go true later = refl
    go false later = later

one_of_mapped : {A B : Type 0} (f : B → A) (keywords : List (Keyword B)) (text : List ℕ) (at : ℕ) (refused : Refusal → B)
    → one_of (mapped f keywords) text at (λ refusal. f (refused refusal)) ≡ f (one_of keywords text at refused)
one_of_mapped {A} {B} f keywords text at refused =
    go (eqb (token_kind token) word_kind) (follows_mapped f keywords text (token_start token) (token_end token) refused)
  where
    token : Token
    token = token_at text at

    go : (test : Bool)
        → follows (mapped f keywords) text (token_start token) (token_end token) (λ refusal. f (refused refusal))
        ≡ f (follows keywords text (token_start token) (token_end token) refused)
        → cond test (follows (mapped f keywords) text (token_start token) (token_end token) (λ refusal. f (refused refusal)))
        (f (refused (BrokenShape (token_start token))))
        ≡ f (cond test (follows keywords text (token_start token) (token_end token) refused) (refused (BrokenShape (token_start token))))
    go true same = same
    go false same = refl

-- what follows the word that was found
abbrev pub following : {A W : Type 0} → (Refusal → A) → (W → ℕ → A) → Result (W × ℕ) Refusal → A
following refused follow (Ok (which, end)) = follow which end
following refused follow (Err refusal) = refused refusal

-- an answer that follows the word that the code found is the one that the keywords give
pub by_keyword : {A W : Type 0} (refused : Refusal → A) (follow : W → ℕ → A) (words : List (Keyword (Result (W × ℕ) Refusal)))
    (text : List ℕ) (at : ℕ) {keyword kind : Result (W × ℕ) Refusal} {answer : A}
    → keyword ≡ keyword_at words text at
    → keyword ≡ kind
    → answer ≡ following refused follow kind
    → answer ≡ one_of (mapped (following refused follow) words) text at refused
unfolding keyword_at
by_keyword refused follow words text at asked known answered =
    let f = following refused follow in
    answered ∙ sym (one_of_mapped f words text at Err ∙ ap f (sym asked ∙ known))
