-- Which token stands next where it is known what is left of a text from an offset on: a bracket, a line's end, or a run of bytes with what ends
-- it. "What is left" is `drop at text`, so that nothing need be said of what stands before. Assumes nothing.
use Prim.Native.Nat.{ℕ, ◌+◌, ◌-◌, ◌≤◌, ◌<◌}
use native.Mathlib.Nat.{add-zero, not-suc-le-zero}
use native.Mathlib.Omega.{arith}
use mathlib.Core.Bool.{Bool, true, false, cond, not, ◌||◌, and-eq-true_iff}
use mathlib.Core.List.{List, [], ◌∷◌, ◌++◌}
use mathlib.Core.Path.{◌≡◌, refl, sym, ap, ◌∙◌}
use lib.ListN.{drop, get_or, length, length-drop}
use lib.Seq.{drop-append_seam, drop-drop, get_or-drop, take-append_seam}
use borrow.Author.Tests.{le-ltb, lt-ltb, ne_eqb, not-true}
use Rattle.lists.specs.Part.{part}
use Rattle.lists.proofs.Tests.{neither}
use Rattle.lexer.specs.declared.Token.TheVariants.{LineEnd, Open, Close}
use Rattle.lexer.specs.Bytes.{ends_run, is_close, is_line_feed, is_no_space, is_open, is_space}
use Rattle.lexer.specs.Scan.{all_bytes, scan_from, scan_of}
use Rattle.lexer.specs.Tokens.{longest_run, run_token, token_at, token_from}

-- ---- what is left further on

pub left_past : (text : List ℕ) (at : ℕ) (run rest : List ℕ) → drop at text ≡ run ++ rest → drop (at + length run) text ≡ rest
left_past text at run rest left = sym (drop-drop (length run) at text) ∙ ap (drop (length run)) left ∙ drop-append_seam run rest

pub left_next : (text : List ℕ) (at byte : ℕ) (rest : List ℕ) → drop at text ≡ byte ∷ rest → drop (at + 1) text ≡ rest
left_next text at byte rest left = left_past text at (byte ∷ []) rest left

-- an offset with a byte left lies in the text
pub left_some : (text : List ℕ) (at byte : ℕ) (rest : List ℕ) → drop at text ≡ byte ∷ rest → at < length text
left_some text at byte rest left = omega (arith, length-drop at text, ap length left)

-- an offset with none left does not
pub left_none : (text : List ℕ) (at : ℕ) → drop at text ≡ [] → length text ≤ at
left_none text at left = omega (arith, length-drop at text, ap length left)

left_byte : (text : List ℕ) (at byte : ℕ) (rest : List ℕ) → drop at text ≡ byte ∷ rest → get_or text at 0 ≡ byte
left_byte text at byte rest left =
    ap (λ (n : ℕ). get_or text n 0) (sym (add-zero at)) ∙ sym (get_or-drop at text 0 0) ∙ ap (λ (l : List ℕ). get_or l 0 0) left

-- ---- where a scan stops

-- a list is empty or begins with a byte that passes the test
abbrev pub stops_at : (ℕ → Bool) → List ℕ → Bool
stops_at stops [] = true
stops_at stops (byte ∷ rest) = stops byte

scan_stops : (stops : ℕ → Bool) (rest : List ℕ) (at : ℕ) → stops_at stops rest ≡ true → scan_from stops rest at ≡ at
unfolding scan_from
scan_stops stops [] at here = refl
scan_stops stops (byte ∷ rest) at here = rw (here, scan_from)

-- bytes of which none passes the test are passed over
scan_over :
    (stops : ℕ → Bool) (run rest : List ℕ) (at : ℕ)
    → all_bytes (λ byte. not (stops byte)) run ≡ true
    → stops_at stops rest ≡ true
    → scan_from stops (run ++ rest) at ≡ at + length run
unfolding scan_from all_bytes
scan_over stops [] rest at over here = scan_stops stops rest at here ∙ omega arith
scan_over stops (byte ∷ run) rest at over here =
    let parts = (and-eq-true_iff (not (stops byte)) (all_bytes (λ byte. not (stops byte)) run)).0 over in
    let more : scan_from stops (run ++ rest) (at + 1) ≡ at + 1 + length run = scan_over stops run rest (at + 1) parts.1 here in
    rw (not-true (stops byte) parts.0, scan_from) (more ∙ omega arith)

-- ---- the next token

-- a space is passed over
pub token_space : (text : List ℕ) (at : ℕ) (rest : List ℕ) → drop at text ≡ 32 ∷ rest → token_at text at ≡ token_at text (at + 1)
unfolding token_at scan_of scan_from
token_space text at rest left = ap (token_from text) (rw (left, left_next text at 32 rest left))

-- the token that begins with a byte that is no space
token_byte :
    (text : List ℕ) (at byte : ℕ) (rest : List ℕ)
    → drop at text ≡ byte ∷ rest
    → is_space byte ≡ false
    → token_at text at ≡ cond (is_line_feed byte) (LineEnd at) (cond (is_open byte) (Open at) (cond (is_close byte) (Close at) (longest_run text at)))
unfolding token_at token_from scan_of scan_from
token_byte text at byte rest left full =
    let here : scan_of is_no_space text at ≡ at = rw (left, full, scan_from) in
    rw (here, lt-ltb at (length text) (left_some text at byte rest left), left_byte text at byte rest left)

pub open_token : (text : List ℕ) (at : ℕ) (rest : List ℕ) → drop at text ≡ 40 ∷ rest → token_at text at ≡ Open at
open_token text at rest left = token_byte text at 40 rest left refl

pub close_token : (text : List ℕ) (at : ℕ) (rest : List ℕ) → drop at text ≡ 41 ∷ rest → token_at text at ≡ Close at
close_token text at rest left = token_byte text at 41 rest left refl

pub feed_token : (text : List ℕ) (at : ℕ) (rest : List ℕ) → drop at text ≡ 10 ∷ rest → token_at text at ≡ LineEnd at
feed_token text at rest left = token_byte text at 10 rest left refl

pub end_token : (text : List ℕ) (at : ℕ) → drop at text ≡ [] → token_at text at ≡ LineEnd at
unfolding token_at token_from scan_of scan_from
end_token text at left =
    let here : scan_of is_no_space text at ≡ at = rw left in
    rw (here, le-ltb at (length text) (left_none text at left))

-- ---- a run of bytes, and what ends it

-- a byte that may stand in a run
abbrev pub in_run : ℕ → Bool
in_run byte = not (ends_run byte)

-- the longest run from an offset is what is left up to the byte that ends it
longest :
    (text : List ℕ) (at : ℕ) (run rest : List ℕ)
    → drop at text ≡ run ++ rest
    → all_bytes in_run run ≡ true
    → stops_at ends_run rest ≡ true
    → longest_run text at ≡ run_token run at (at + length run)
unfolding longest_run scan_of part
longest text at run rest left over ends =
    let end : scan_of ends_run text at ≡ at + length run = rw left (scan_over ends_run run rest at over ends) in
    let long : at + length run - at ≡ length run = omega arith in
    let own : part at (at + length run - at) text ≡ run = rw (long, left) (take-append_seam run rest) in
    ap (λ (n : ℕ). run_token (part at (n - at) text) at n) end ∙ ap (λ (bytes : List ℕ). run_token bytes at (at + length run)) own

pub run_token_lem :
    (text : List ℕ) (at : ℕ) (run rest : List ℕ)
    → drop at text ≡ run ++ rest
    → 0 < length run
    → all_bytes in_run run ≡ true
    → stops_at ends_run rest ≡ true
    → token_at text at ≡ run_token run at (at + length run)
unfolding all_bytes
run_token_lem text at [] rest left some over ends = absurd (not-suc-le-zero some)
run_token_lem text at (byte ∷ run) rest left some over ends =
    let parts = (and-eq-true_iff (in_run byte) (all_bytes in_run run)).0 over in
    let close = neither (is_space byte || is_line_feed byte || is_open byte) (is_close byte) (not-true (ends_run byte) parts.0) in
    let opens = neither (is_space byte || is_line_feed byte) (is_open byte) close.0 in
    let blank = neither (is_space byte) (is_line_feed byte) opens.0 in
    token_byte text at byte (run ++ rest) left blank.0
    ∙ rw (blank.1, opens.1, close.1) (longest text at (byte ∷ run) rest left over ends)

-- every byte that passes one test passes another
pub all_weaker :
    (strong weak : ℕ → Bool) (run : List ℕ) → ((byte : ℕ) → strong byte ≡ true → weak byte ≡ true) → all_bytes strong run ≡ true → all_bytes weak run ≡ true
unfolding all_bytes
all_weaker strong weak [] each all = refl
all_weaker strong weak (byte ∷ run) each all =
    let parts = (and-eq-true_iff (strong byte) (all_bytes strong run)).0 all in
    (and-eq-true_iff (weak byte) (all_bytes weak run)).1 (each byte parts.0, all_weaker strong weak run each parts.1)

pub all_append :
    (test : ℕ → Bool) (one other : List ℕ) → all_bytes test one ≡ true → all_bytes test other ≡ true → all_bytes test (one ++ other) ≡ true
unfolding all_bytes
all_append test [] other first second = second
all_append test (byte ∷ one) other first second =
    let parts = (and-eq-true_iff (test byte) (all_bytes test one)).0 first in
    (and-eq-true_iff (test byte) (all_bytes test (one ++ other))).1 (parts.0, all_append test one other parts.1 second)

-- a byte past the brackets may stand in a run: every letter and every digit
pub in_run_lem : (byte : ℕ) → 42 ≤ byte → in_run byte ≡ true
in_run_lem byte past =
    rw (
      ne_eqb byte 32 (λ same. omega arith),
      ne_eqb byte 10 (λ same. omega arith),
      ne_eqb byte 40 (λ same. omega arith),
      ne_eqb byte 41 (λ same. omega arith),
    )
