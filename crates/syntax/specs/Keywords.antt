-- Document 01, "The plan text": a word that says what follows it. Assumes nothing.
use Rattle.std.specs.Prelude.{ℕ, true, false, List, [], ◌∷◌, Result, Ok, Err}
use Prim.Native.String.{String}
use Rattle.lists.specs.Ascii.{bytes_of}
use Rattle.refusal.specs.declared.Refusal.{Refusal}
use Rattle.refusal.specs.declared.Refusal.TheVariants.{BrokenShape}
use Rattle.lexer.specs.Tokens.{token_at, word_kind}
use Rattle.syntax.specs.declared.FormWord.{FormWord}
use Rattle.syntax.specs.declared.FormWord.TheVariants.{Pad, Run, Domain, Window, Op}
use Rattle.syntax.specs.declared.OpWord.{OpWord}
use Rattle.syntax.specs.declared.OpWord.TheVariants.{Read, Write, Send, Receive, Compute}
use Rattle.syntax.specs.Tokens.{due, is_word}

-- a word, and what is read from its end on
pub record Keyword (A : Type 0) : Type 0 where
  pub word : List ℕ
  pub follow : ℕ → A

-- the quoted word
abbrev pub on : {A : Type 0} → String → (ℕ → A) → Keyword A
on word follow = record { word = bytes_of word; follow = follow }

-- a word that stands from one offset up to another goes on as the keyword that it is; one that is
-- none of them breaks the shape
unfoldable pub follows : {A : Type 0} → List (Keyword A) → List ℕ → ℕ → ℕ → (Refusal → A) → A
follows [] text start end refused = refused (BrokenShape start)
follows (keyword ∷ others) text start end refused =
    elim (is_word text start end keyword.word) [
      | true ↦ keyword.follow end
      | false ↦ follows others text start end refused
    ]

-- one of these keywords is due
abbrev pub one_of : {A : Type 0} → List (Keyword A) → List ℕ → ℕ → (Refusal → A) → A
one_of keywords text at refused =
    due word_kind (token_at text at) refused λ start end. follows keywords text start end refused

-- ---- which of five words it is: what the code finds first

-- a word that is found as one of several, with the offset of its end
abbrev pub named : {W : Type 0} → List ℕ → W → Keyword (Result (W × ℕ) Refusal)
named word which = record { word = word; follow = λ end. Ok (which, end) }

-- the words of the ops, in the order of `op_keywords` of Ops
abbrev pub op_words : List (Keyword (Result (OpWord × ℕ) Refusal))
op_words =
    named (bytes_of "read") Read
    ∷ named (bytes_of "write") Write
    ∷ named (bytes_of "send") Send
    ∷ named (bytes_of "receive") Receive
    ∷ named (bytes_of "compute") Compute
    ∷ []

-- the words of the forms, in the order of `form_keywords` of crate line
abbrev pub form_words : List (Keyword (Result (FormWord × ℕ) Refusal))
form_words =
    named (bytes_of "pad") Pad
    ∷ named (bytes_of "run") Run
    ∷ named (bytes_of "domain") Domain
    ∷ named (bytes_of "window") Window
    ∷ named (bytes_of "op") Op
    ∷ []

-- which of them the next token is
unfoldable pub keyword_at : {W : Type 0} → List (Keyword (Result (W × ℕ) Refusal)) → List ℕ → ℕ → Result (W × ℕ) Refusal
keyword_at keywords text at = one_of keywords text at Err
