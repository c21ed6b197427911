-- What the branch of a `let .. else` or a `match` knows of a token, that it is not of some kind, as
-- a test of its kind. Assumes nothing.
use Prim.Native.Nat.{ℕ}
use mathlib.Core.Bool.{false}
use mathlib.Core.Path.{◌≡◌, refl}
use lib.Dec.{eqb}
use Rattle.lexer.specs.declared.Token.{Token}
use Rattle.lexer.specs.declared.Token.TheVariants.{LineEnd, Open, Close, Word, Number}
use Rattle.lexer.specs.declared.Token.TheVariants.{LongNumber, Other}
use Rattle.lexer.specs.Tokens.{long_number_kind, number_kind, token_kind, word_kind}

pub no_word : (token : Token) → ((start end : ℕ) → token ≡ Word start end → ⊥)
    → eqb (token_kind token) word_kind ≡ false
no_word (LineEnd at) none = refl
no_word (Open at) none = refl
no_word (Close at) none = refl
no_word (Word start end) none = absurd (none start end refl)
no_word (Number start end value) none = refl
no_word (LongNumber start end) none = refl
no_word (Other start end) none = refl

pub no_number : (token : Token) → ((start end value : ℕ) → token ≡ Number start end value → ⊥)
    → eqb (token_kind token) number_kind ≡ false
no_number (LineEnd at) none = refl
no_number (Open at) none = refl
no_number (Close at) none = refl
no_number (Word start end) none = refl
no_number (Number start end value) none = absurd (none start end value refl)
no_number (LongNumber start end) none = refl
no_number (Other start end) none = refl

pub no_long_number : (token : Token) → ((start end : ℕ) → token ≡ LongNumber start end → ⊥)
    → eqb (token_kind token) long_number_kind ≡ false
no_long_number (LineEnd at) none = refl
no_long_number (Open at) none = refl
no_long_number (Close at) none = refl
no_long_number (Word start end) none = refl
no_long_number (Number start end value) none = refl
no_long_number (LongNumber start end) none = absurd (none start end refl)
no_long_number (Other start end) none = refl
