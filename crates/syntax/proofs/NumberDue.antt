-- Where a number is due, a run that is none may count as neither word nor number: the answer is the
-- same. Assumes nothing.
use Rattle.std.specs.Prelude.{Result}
use Prim.Native.Nat.{ℕ}
use mathlib.Core.List.{List}
use mathlib.Core.Path.{◌≡◌, refl, ap, ◌∙◌}
use Rattle.lexer.specs.declared.Token.{Token}
use Rattle.lexer.specs.declared.Token.TheVariants.{LineEnd, Open, Close, Word, Number, LongNumber}
use Rattle.lexer.specs.declared.Token.TheVariants.{Other}
use Rattle.lexer.specs.Lookaheads.{as_number}
use Rattle.lexer.specs.Tokens.{token_at}
use Rattle.syntax.specs.Tokens.{number_within, take_number}
use Rattle.refusal.specs.declared.Refusal.{Refusal}
use Rattle.syntax.specs.declared.Numeral.{Numeral}

as_number_within : (low high : ℕ) (token : Token)
    → number_within low high (as_number token) ≡ number_within low high token
unfolding as_number
as_number_within low high (LineEnd at) = refl
as_number_within low high (Open at) = refl
as_number_within low high (Close at) = refl
as_number_within low high (Word start end) = refl
as_number_within low high (Number start end value) = refl
as_number_within low high (LongNumber start end) = refl
as_number_within low high (Other start end) = refl

-- what is answered to that token is what is answered to the next one
pub number_taken : (text : List ℕ) (low high at : ℕ) {token : Token} {answer : Result Numeral Refusal}
    → token ≡ as_number (token_at text at)
    → answer ≡ number_within low high token → answer ≡ take_number text low high at
unfolding take_number
number_taken text low high at read answered =
    answered ∙ ap (number_within low high) read ∙ as_number_within low high (token_at text at)
