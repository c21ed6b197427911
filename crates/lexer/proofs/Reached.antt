-- Where the next token from an offset stands: at or past that offset, and within the text. Assumes nothing.
use Prim.Native.Nat.{ℕ, ◌-◌, ◌≤◌, ◌<◌}
use native.Mathlib.Omega.{arith}
use mathlib.Core.Bool.{Bool, true, false, cond, true≢false}
use mathlib.Core.List.{List, [], ◌∷◌}
use mathlib.Core.Path.{◌≡◌, refl, sym, subst, ◌∙◌}
use lib.Dec.{leb, ltb}
use lib.ListN.{length, get_or, take, drop, length-take}
use borrow.Author.Tests.{le-ltb, ltb-true}
use Rattle.lists.specs.Part.{part}
use Rattle.lexer.specs.declared.Token.{Token}
use Rattle.lexer.specs.declared.Token.TheVariants.{LineEnd, Open, Close, Word, Number, LongNumber, Other}
use Rattle.lexer.specs.Bytes.{ends_run, is_close, is_digit, is_letter, is_line_feed, is_no_space, is_open}
use Rattle.lexer.specs.Scan.{all_bytes}
use Rattle.lexer.specs.Limits.{most_digits}
use Rattle.lexer.specs.Tokens.{decimal_value, digits_token, line_end_kind, longest_run, run_token, token_at, token_end, token_from, token_kind, token_start}
use Rattle.lexer.proofs.Scanning.{scan_end, scan_least, scan_most}

-- what holds of both choices holds of the one that a test makes
pub cond_holds : {A : Type 0} (P : A → Type 0) (test : Bool) (a b : A) → (test ≡ true → P a) → (test ≡ false → P b) → P (cond test a b)
cond_holds P true a b f g = f refl
cond_holds P false a b f g = g refl

-- a bracket or a run lies in the text; a line's end does if the offset does
abbrev pub Reached : List ℕ → ℕ → Token → Type 0
Reached text at (LineEnd offset) = (at ≤ offset) × (at ≤ length text → offset ≤ length text)
Reached text at (Open offset) = (at ≤ offset) × (offset < length text)
Reached text at (Close offset) = (at ≤ offset) × (offset < length text)
Reached text at (Word start end) = (at ≤ start) × (start ≤ end) × (end ≤ length text)
Reached text at (Number start end value) = (at ≤ start) × (start < end) × (end ≤ length text)
Reached text at (LongNumber start end) = (at ≤ start) × (start < end) × (end ≤ length text)
Reached text at (Other start end) = (at ≤ start) × (start < end) × (end ≤ length text)

-- a run that is no word has a byte
pub some_byte : (run : List ℕ) → all_bytes is_letter run ≡ false → 0 < length run
unfolding all_bytes
some_byte [] e = absurd (true≢false e)
some_byte (byte ∷ rest) e = omega arith

run_length : (text : List ℕ) (start end : ℕ) → all_bytes is_letter (part start (end - start) text) ≡ false → start < end
unfolding part
run_length text start end e =
    let run = take (end - start) (drop start text) in
    omega (arith, some_byte run e, length-take (end - start) (drop start text))

digits_reached : (text run : List ℕ) (at start end : ℕ) → at ≤ start → start < end → end ≤ length text → Reached text at (digits_token run start end)
unfolding digits_token
digits_reached text run at start end a s e =
    cond_holds (Reached text at) (leb (length run) most_digits) (Number start end (decimal_value run)) (LongNumber start end) (λ _. (a, s, e)) (λ _. (a, s, e))

run_reached : (text : List ℕ) (at start end : ℕ) → at ≤ start → start ≤ end → end ≤ length text
    → Reached text at (run_token (part start (end - start) text) start end)
unfolding run_token
run_reached text at start end a s e =
    let run = part start (end - start) text in
    cond_holds (Reached text at) (all_bytes is_letter run) (Word start end) (cond (all_bytes is_digit run) (digits_token run start end) (Other start end))
    (λ _. (a, s, e))
    (λ no_word.
    let some = run_length text start end no_word in
    cond_holds (Reached text at) (all_bytes is_digit run) (digits_token run start end) (Other start end)
    (λ _. digits_reached text run at start end a some e)
    (λ _. (a, some, e)))

from_reached : (text : List ℕ) (at start : ℕ) → at ≤ start → (at ≤ length text → start ≤ length text) → Reached text at (token_from text start)
unfolding token_from longest_run
from_reached text at start a within =
    let byte = get_or text start 0 in
    cond_holds (Reached text at) (ltb start (length text)) _ (LineEnd start)
    (λ t.
    let h : start < length text = ltb-true _ _ t in
    cond_holds (Reached text at) (is_line_feed byte) (LineEnd start) _ (λ _. (a, within))
    (λ _. cond_holds (Reached text at) (is_open byte) (Open start) _ (λ _. (a, h))
    (λ _. cond_holds (Reached text at) (is_close byte) (Close start) (longest_run text start) (λ _. (a, h))
    (λ _. run_reached text at start _ a (scan_least ends_run text start) (scan_most ends_run text start (omega arith))))))
    (λ _. (a, within))

pub token_reached : (text : List ℕ) (at : ℕ) → Reached text at (token_at text at)
unfolding token_at
token_reached text at = from_reached text at _ (scan_least is_no_space text at) (scan_most is_no_space text at)

-- the same of a token that is known to be of some kind
pub reached : (text : List ℕ) (at : ℕ) {token kind : Token} → token ≡ token_at text at → token ≡ kind → Reached text at kind
reached text at next known = subst (Reached text at) (sym next ∙ known) (token_reached text at)

-- a word's bytes
pub word_within : (text : List ℕ) (at : ℕ) {token : Token} {start end : ℕ} → token ≡ token_at text at → token ≡ Word start end
    → (start ≤ end) × (end ≤ length text)
word_within text at next known = let offset = reached text at next known in (offset.1, offset.2)

-- past the text's end the next token is a line's end
pub token_past : (text : List ℕ) (at : ℕ) → length text ≤ at → token_at text at ≡ LineEnd at
unfolding token_at token_from
token_past text at past = rw (scan_end is_no_space text at past, le-ltb at (length text) past)

-- the same by a token's offsets: they rise from the offset that it is read from, and all but a line's end lies in the text
pub record Bounds (text : List ℕ) (at : ℕ) (token : Token) : Type 0 where
  pub least : at ≤ token_start token
  pub order : token_start token ≤ token_end token
  pub inside : (token_kind token ≡ line_end_kind → at ≤ length text) → token_end token ≤ length text

bounds : (text : List ℕ) (at : ℕ) (token : Token) → Reached text at token → Bounds text at token
bounds text at (LineEnd offset) h = record { least = h.0; order = omega arith; inside = λ within. h.1 (within refl) }
bounds text at (Open offset) h = record { least = h.0; order = omega arith; inside = λ _. omega arith }
bounds text at (Close offset) h = record { least = h.0; order = omega arith; inside = λ _. omega arith }
bounds text at (Word start end) h = record { least = h.0; order = h.1; inside = λ _. h.2 }
bounds text at (Number start end value) h = record { least = h.0; order = omega arith; inside = λ _. h.2 }
bounds text at (LongNumber start end) h = record { least = h.0; order = omega arith; inside = λ _. h.2 }
bounds text at (Other start end) h = record { least = h.0; order = omega arith; inside = λ _. h.2 }

pub token_bounds : (text : List ℕ) (at : ℕ) → Bounds text at (token_at text at)
token_bounds text at = bounds text at (token_at text at) (token_reached text at)
