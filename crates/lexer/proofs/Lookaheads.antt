-- What stands next in a line by its first byte is what the next token shows of itself: a bracket, a
-- line's end, or that a run begins and where. So it decides between these kinds of token, and where
-- a run begins, the token is the longest run from there. Assumes nothing.
use Prim.Native.Nat.{ℕ}
use mathlib.Core.Bool.{Bool, true, false, cond, not, ◌||◌}
use mathlib.Core.List.{List}
use mathlib.Core.Path.{◌≡◌, refl, sym, ap, subst, ◌∙◌}
use lib.Dec.{eqb, leb, ltb}
use lib.ListN.{length, get_or}
use Rattle.lexer.proofs.LettersAndDigits.{past_same}
use Rattle.lexer.proofs.OtherKind.{no_word}
use Rattle.lexer.proofs.Reached.{cond_holds}
use Rattle.lexer.specs.declared.Lookahead.{Lookahead}
use Rattle.lexer.specs.declared.Lookahead.TheVariants.{LineEnd as EndNext, Open as OpenNext}
use Rattle.lexer.specs.declared.Lookahead.TheVariants.{Close as CloseNext, Run as RunNext}
use Rattle.lexer.specs.declared.Token.{Token}
use Rattle.lexer.specs.declared.Token.TheVariants.{LineEnd, Open, Close, Word, Number}
use Rattle.lexer.specs.declared.Token.TheVariants.{LongNumber, Other}
use Rattle.lexer.specs.Bytes.{is_close, is_digit, is_letter, is_line_feed, is_no_space, is_open}
use Rattle.lexer.specs.Bytes.{is_space}
use Rattle.lexer.specs.Limits.{most_digits}
use Rattle.lexer.specs.Lookaheads.{as_number, as_word, lookahead_at, lookahead_from}
use Rattle.lexer.specs.Lookaheads.{lookahead_start}
use Rattle.lexer.specs.Scan.{all_bytes, scan_of}
use Rattle.lexer.specs.Tokens.{close_kind, decimal_value, digits_token, line_end_kind, longest_run}
use Rattle.lexer.specs.Tokens.{long_number_kind, number_kind, open_kind, run_token}
use Rattle.lexer.specs.Tokens.{token_at, token_from, token_kind, token_start, word_kind}

-- ---- what a token shows by its first byte

abbrev shown : Token → Lookahead
shown (LineEnd at) = EndNext at
shown (Open at) = OpenNext at
shown (Close at) = CloseNext at
shown (Word start end) = RunNext start
shown (Number start end value) = RunNext start
shown (LongNumber start end) = RunNext start
shown (Other start end) = RunNext start

-- whatever bytes it has, a run shows that it begins
record ShowsRun (start : ℕ) (token : Token) : Type 0 where
  is : shown token ≡ RunNext start

digits_shown : (run : List ℕ) (start end : ℕ) → ShowsRun start (digits_token run start end)
unfolding digits_token
digits_shown run start end =
    cond_holds (ShowsRun start) (leb (length run) most_digits) (Number start end (decimal_value run))
    (LongNumber start end) (λ _. record { is = refl }) (λ _. record { is = refl })

bytes_shown : (run : List ℕ) (start end : ℕ) → ShowsRun start (run_token run start end)
unfolding run_token
bytes_shown run start end =
    cond_holds (ShowsRun start) (all_bytes is_letter run) (Word start end)
    (cond (all_bytes is_digit run) (digits_token run start end) (Other start end))
    (λ _. record { is = refl })
    (λ _. cond_holds (ShowsRun start) (all_bytes is_digit run) (digits_token run start end)
    (Other start end) (λ _. digits_shown run start end) (λ _. record { is = refl }))

run_shown : (text : List ℕ) (start : ℕ) → shown (longest_run text start) ≡ RunNext start
unfolding longest_run
run_shown text start = (bytes_shown _ start _).is

from_shown : (text : List ℕ) (start : ℕ) → shown (token_from text start) ≡ lookahead_from text start
unfolding token_from lookahead_from
from_shown text start =
    let byte = get_or text start 0 in
    go (ltb start (length text)) (is_line_feed byte) (is_open byte) (is_close byte)
  where
    go : (within feed opens closes : Bool)
        → shown (cond within (cond feed (LineEnd start)
        (cond opens (Open start) (cond closes (Close start) (longest_run text start))))
        (LineEnd start))
        ≡ cond within (cond feed (EndNext start)
        (cond opens (OpenNext start) (cond closes (CloseNext start) (RunNext start))))
        (EndNext start)
    go false feed opens closes = refl
    go true true opens closes = refl
    go true false true closes = refl
    go true false false true = refl
    go true false false false = run_shown text start

token_shown : (text : List ℕ) (at : ℕ) → shown (token_at text at) ≡ lookahead_at text at
unfolding token_at lookahead_at
token_shown text at = from_shown text (scan_of is_no_space text at)

-- spaces that were passed over before change nothing
pub past_indent : (text : List ℕ) (at first : ℕ) → first ≡ scan_of is_no_space text at
    → lookahead_at text first ≡ lookahead_at text at
unfolding lookahead_at
past_indent text at first passed =
    ap (lookahead_from text)
    (past_same is_space is_no_space (λ (byte : ℕ) (h : is_space byte ≡ true). ap not h) text at first
    (scan_of is_no_space text first) passed refl)

-- ---- where it stands

shown_start : (token : Token) → token_start token ≡ lookahead_start (shown token)
shown_start (LineEnd at) = refl
shown_start (Open at) = refl
shown_start (Close at) = refl
shown_start (Word start end) = refl
shown_start (Number start end value) = refl
shown_start (LongNumber start end) = refl
shown_start (Other start end) = refl

next_start : (text : List ℕ) (at : ℕ)
    → token_start (token_at text at) ≡ lookahead_start (lookahead_at text at)
next_start text at = shown_start (token_at text at) ∙ ap lookahead_start (token_shown text at)

-- ---- which token goes with it, where it is known to be of some kind

-- a bracket and a line's end are known by their first byte
abbrev Goes : Token → Lookahead → Type 0
Goes token (EndNext offset) = token ≡ LineEnd offset
Goes token (OpenNext offset) = token ≡ Open offset
Goes token (CloseNext offset) = token ≡ Close offset
Goes token (RunNext start) = Unit {0}

goes : (token : Token) → Goes token (shown token)
goes (LineEnd at) = refl
goes (Open at) = refl
goes (Close at) = refl
goes (Word start end) = tt
goes (Number start end value) = tt
goes (LongNumber start end) = tt
goes (Other start end) = tt

-- a token that shows no line's end, no opening or no closing bracket is none
no_end : (token : Token) → ((offset : ℕ) → shown token ≡ EndNext offset → ⊥)
    → eqb (token_kind token) line_end_kind ≡ false
no_end (LineEnd at) none = absurd (none at refl)
no_end (Open at) none = refl
no_end (Close at) none = refl
no_end (Word start end) none = refl
no_end (Number start end value) none = refl
no_end (LongNumber start end) none = refl
no_end (Other start end) none = refl

no_open : (token : Token) → ((offset : ℕ) → shown token ≡ OpenNext offset → ⊥)
    → eqb (token_kind token) open_kind ≡ false
no_open (LineEnd at) none = refl
no_open (Open at) none = absurd (none at refl)
no_open (Close at) none = refl
no_open (Word start end) none = refl
no_open (Number start end value) none = refl
no_open (LongNumber start end) none = refl
no_open (Other start end) none = refl

no_close : (token : Token) → ((offset : ℕ) → shown token ≡ CloseNext offset → ⊥)
    → eqb (token_kind token) close_kind ≡ false
no_close (LineEnd at) none = refl
no_close (Open at) none = refl
no_close (Close at) none = absurd (none at refl)
no_close (Word start end) none = refl
no_close (Number start end value) none = refl
no_close (LongNumber start end) none = refl
no_close (Other start end) none = refl

-- one that shows no run is neither a word nor a number
record NoRun (token : Token) : Type 0 where
  word : eqb (token_kind token) word_kind ≡ false
  number : eqb (token_kind token) number_kind ≡ false
  long_number : eqb (token_kind token) long_number_kind ≡ false

no_run : (token : Token) → ((start : ℕ) → shown token ≡ RunNext start → ⊥) → NoRun token
no_run (LineEnd at) none = record { word = refl; number = refl; long_number = refl }
no_run (Open at) none = record { word = refl; number = refl; long_number = refl }
no_run (Close at) none = record { word = refl; number = refl; long_number = refl }
no_run (Word start end) none = absurd (none start refl)
no_run (Number start end value) none = absurd (none start refl)
no_run (LongNumber start end) none = absurd (none start refl)
no_run (Other start end) none = absurd (none start refl)

-- ---- a run where one kind is due

as_number_start : (token : Token) → token_start (as_number token) ≡ token_start token
unfolding as_number
as_number_start token =
    cond_holds (λ (kept : Token). token_start kept ≡ token_start token)
    (eqb (token_kind token) number_kind || eqb (token_kind token) long_number_kind) token _ (λ _. refl)
    (λ _. refl)

run_start : (text : List ℕ) (start : ℕ) → token_start (longest_run text start) ≡ start
run_start text start =
    shown_start (longest_run text start) ∙ ap lookahead_start (run_shown text start)

pub number_start : (text : List ℕ) (start : ℕ) {token : Token}
    → token ≡ as_number (longest_run text start) → start ≡ token_start token
number_start text start read =
    sym (ap token_start read ∙ as_number_start (longest_run text start) ∙ run_start text start)

as_word_kind : (token : Token)
    → eqb (token_kind (as_word token)) word_kind ≡ eqb (token_kind token) word_kind
unfolding as_word
as_word_kind (LineEnd at) = refl
as_word_kind (Open at) = refl
as_word_kind (Close at) = refl
as_word_kind (Word start end) = refl
as_word_kind (Number start end value) = refl
as_word_kind (LongNumber start end) = refl
as_word_kind (Other start end) = refl

as_word_known : (token : Token) {start end : ℕ} → as_word token ≡ Word start end
    → token ≡ Word start end
unfolding as_word
as_word_known (LineEnd at) e = cc
as_word_known (Open at) e = cc
as_word_known (Close at) e = cc
as_word_known (Word start end) e = e
as_word_known (Number start end value) e = cc
as_word_known (LongNumber start end) e = cc
as_word_known (Other start end) e = cc

-- ---- what follows from what stands next

module _ (text : List ℕ) (at : ℕ) {next : Lookahead} (asked : next ≡ lookahead_at text at) where
  -- what stands next is what the next token shows
  seen : shown (token_at text at) ≡ next
  seen = token_shown text at ∙ sym asked

  goes_next : {kind : Lookahead} → next ≡ kind → Goes (token_at text at) kind
  goes_next known = subst (Goes (token_at text at)) (seen ∙ known) (goes (token_at text at))

  pub end_next : {offset : ℕ} → next ≡ EndNext offset → token_at text at ≡ LineEnd offset
  end_next = goes_next

  pub open_next : {offset : ℕ} → next ≡ OpenNext offset → token_at text at ≡ Open offset
  open_next = goes_next

  pub close_next : {offset : ℕ} → next ≡ CloseNext offset → token_at text at ≡ Close offset
  close_next = goes_next

  -- where a run begins, the token is the longest run from there
  run_next : {start : ℕ} → next ≡ RunNext start → token_at text at ≡ longest_run text start
  unfolding token_at token_from lookahead_at lookahead_from
  run_next {start} known =
      let here = scan_of is_no_space text at in
      let byte = get_or text here 0 in
      go here (ltb here (length text)) (is_line_feed byte) (is_open byte) (is_close byte)
      (sym asked ∙ known)
    where
      go : (here : ℕ) (within feed opens closes : Bool)
          → cond within (cond feed (EndNext here)
          (cond opens (OpenNext here) (cond closes (CloseNext here) (RunNext here)))) (EndNext here)
          ≡ RunNext start
          → cond within (cond feed (LineEnd here)
          (cond opens (Open here) (cond closes (Close here) (longest_run text here)))) (LineEnd here)
          ≡ longest_run text start
      go here false feed opens closes e = cc
      go here true true opens closes e = cc
      go here true false true closes e = cc
      go here true false false true e = cc
      go here true false false false e = ap (longest_run text) (ap lookahead_start e)

  pub start_next : {offset : ℕ} → offset ≡ lookahead_start next
      → offset ≡ token_start (token_at text at)
  start_next told = told ∙ ap lookahead_start asked ∙ sym (next_start text at)

  -- what stands next is of another kind, and so is the token
  pub no_end_next : ((offset : ℕ) → next ≡ EndNext offset → ⊥)
      → eqb (token_kind (token_at text at)) line_end_kind ≡ false
  no_end_next none = no_end (token_at text at) (λ offset same. none offset (sym seen ∙ same))

  pub no_open_next : ((offset : ℕ) → next ≡ OpenNext offset → ⊥)
      → eqb (token_kind (token_at text at)) open_kind ≡ false
  no_open_next none = no_open (token_at text at) (λ offset same. none offset (sym seen ∙ same))

  pub no_close_next : ((offset : ℕ) → next ≡ CloseNext offset → ⊥)
      → eqb (token_kind (token_at text at)) close_kind ≡ false
  no_close_next none = no_close (token_at text at) (λ offset same. none offset (sym seen ∙ same))

  -- where no run begins, neither a word nor a number stands
  none_next : ((start : ℕ) → next ≡ RunNext start → ⊥) → NoRun (token_at text at)
  none_next none = no_run (token_at text at) (λ start same. none start (sym seen ∙ same))

  pub no_word_next : ((start : ℕ) → next ≡ RunNext start → ⊥)
      → eqb (token_kind (token_at text at)) word_kind ≡ false
  no_word_next none = (none_next none).word

  pub no_number_next : ((start : ℕ) → next ≡ RunNext start → ⊥)
      → eqb (token_kind (token_at text at)) number_kind ≡ false
  no_number_next none = (none_next none).number

  pub no_long_number_next : ((start : ℕ) → next ≡ RunNext start → ⊥)
      → eqb (token_kind (token_at text at)) long_number_kind ≡ false
  no_long_number_next none = (none_next none).long_number

  -- where a run begins and a number is due, the run is the token as far as numbers go
  pub number_next : {start : ℕ} {token : Token} → next ≡ RunNext start
      → token ≡ as_number (longest_run text start) → token ≡ as_number (token_at text at)
  number_next known read = read ∙ ap as_number (sym (run_next known))

  -- and where a word is due, as far as words go
  module _ {first : ℕ} {token : Token} (known : next ≡ RunNext first)
      (read : token ≡ as_word (longest_run text first)) where
    word_next : token ≡ as_word (token_at text at)
    word_next = read ∙ ap as_word (sym (run_next known))

    pub word_known : {start end : ℕ} → token ≡ Word start end → token_at text at ≡ Word start end
    word_known found = as_word_known (token_at text at) (sym word_next ∙ found)

    pub no_word_known : ((start end : ℕ) → token ≡ Word start end → ⊥)
        → eqb (token_kind (token_at text at)) word_kind ≡ false
    no_word_known none =
        sym (as_word_kind (token_at text at))
        ∙ ap (λ (kept : Token). eqb (token_kind kept) word_kind) (sym word_next) ∙ no_word token none
