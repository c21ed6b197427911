-- Where a word is due, what the code finds first says which token stands next. Assumes nothing.
use Rattle.std.specs.Prelude.{Result, Ok, Err}
use Prim.Native.Nat.{ℕ, ◌≤◌}
use mathlib.Core.Bool.{false}
use mathlib.Core.List.{List}
use mathlib.Core.Path.{◌≡◌, refl, sym, ap, ◌∙◌}
use lib.Dec.{eqb}
use lib.ListN.{length}
use Rattle.lexer.proofs.Reached.{word_within}
use Rattle.lexer.specs.declared.Token.{Token}
use Rattle.lexer.specs.declared.Token.TheVariants.{LineEnd, Open, Close, Word, Number, LongNumber}
use Rattle.lexer.specs.declared.Token.TheVariants.{Other}
use Rattle.lexer.specs.Tokens.{token_at, token_kind, token_start, word_kind}
use Rattle.refusal.specs.declared.Refusal.{Refusal}
use Rattle.refusal.specs.declared.Refusal.TheVariants.{BrokenShape}
use Rattle.syntax.specs.Tokens.{due, word_at, span_with}
use Rattle.syntax.specs.declared.Span.{Span}

-- a word that was found is the token
is_found : (token : Token) {span : Span}
    → due word_kind token Err (λ start end. Ok (span_with start end)) ≡ Ok span
    → token ≡ Word span.start span.end
is_found (LineEnd at) e = cc
is_found (Open at) e = cc
is_found (Close at) e = cc
is_found (Word start end) {span} e =
    let same : span_with start end ≡ span = cc in ap (λ (span : Span). Word span.start span.end) same
is_found (Number start end value) e = cc
is_found (LongNumber start end) e = cc
is_found (Other start end) e = cc

-- what a refusal tells of the token
pub record NoWord (token : Token) (refusal : Refusal) : Type 0 where
  pub other : eqb (token_kind token) word_kind ≡ false
  pub told : refusal ≡ BrokenShape (token_start token)

is_refused_lem : (token : Token) {refusal : Refusal}
    → due word_kind token Err (λ start end. Ok (span_with start end)) ≡ Err refusal → NoWord token refusal
is_refused_lem (LineEnd at) e = record { other = refl; told = cc }
is_refused_lem (Open at) e = record { other = refl; told = cc }
is_refused_lem (Close at) e = record { other = refl; told = cc }
is_refused_lem (Word start end) e = record { other = cc; told = cc }
is_refused_lem (Number start end value) e = record { other = refl; told = cc }
is_refused_lem (LongNumber start end) e = record { other = refl; told = cc }
is_refused_lem (Other start end) e = record { other = refl; told = cc }

module _ (text : List ℕ) (at : ℕ) {found : Result Span Refusal} (asked : found ≡ word_at text at) where
  pub word_found : {span : Span} → found ≡ Ok span → token_at text at ≡ Word span.start span.end
  unfolding word_at
  word_found known = is_found (token_at text at) (sym asked ∙ known)

  pub word_bytes : {span : Span} → found ≡ Ok span → (span.start ≤ span.end) × (span.end ≤ length text)
  word_bytes known = word_within text at refl (word_found known)

  pub word_refused : {refusal : Refusal} → found ≡ Err refusal
      → NoWord (token_at text at) refusal
  unfolding word_at
  word_refused known = is_refused_lem (token_at text at) (sym asked ∙ known)
