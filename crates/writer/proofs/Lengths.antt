-- How many bytes each line has, with the LF before it. Assumes nothing.
use Prim.Native.Nat.{ℕ, ◌+◌}
use mathlib.Core.List.{List, ◌++◌}
use mathlib.Core.Path.{◌≡◌}
use native.Mathlib.Omega.{arith}
use lib.ListN.{length, length-append}
use Rattle.lists.specs.Ascii.{bytes_of}
use Rattle.lexer.specs.Decimal.{decimal_of}
use Rattle.script.specs.declared.Op.{Op}
use Rattle.script.specs.declared.Op.TheVariants.{Read, Write, Send, Receive, Compute}
use Rattle.writer.specs.Lines.{domain_text, op_line, op_text, pad_text, recipients_of, run_text, spaced, window_text}

-- a line with the LF before it
abbrev pub fed : List ℕ → List ℕ
fed line = bytes_of "\n" ++ line

pub pad_length : (ticks : ℕ) → length (pad_text ticks) ≡ 6 + length (decimal_of ticks)
unfolding bytes_of
pad_length ticks = simp length-append (omega arith)

pub run_length : (times : ℕ) → length (fed (run_text times)) ≡ 7 + length (decimal_of times)
unfolding bytes_of
run_length times = simp length-append (omega arith)

pub window_length_lem : (owner ticks : ℕ) → length (fed (window_text owner ticks)) ≡ 19 + length (decimal_of owner) + length (decimal_of ticks)
unfolding bytes_of
window_length_lem owner ticks = simp length-append (omega arith)

pub domain_length :
    (domain share rights : ℕ)
    → length (fed (domain_text domain share rights))
    ≡ 23 + length (decimal_of domain) + length (decimal_of share) + length (spaced (recipients_of rights))
unfolding bytes_of
domain_length domain share rights = simp length-append (omega arith)

-- the bytes of an op's word and numbers
abbrev pub word_bytes : Op → ℕ
word_bytes (Read line) = 6 + length (decimal_of line)
word_bytes (Write line) = 7 + length (decimal_of line)
word_bytes (Send recipient word) = 7 + length (decimal_of recipient) + length (decimal_of word)
word_bytes (Receive sender) = 9 + length (decimal_of sender)
word_bytes (Compute ticks) = 9 + length (decimal_of ticks)

pub words_length : (op : Op) → length (op_text op) ≡ word_bytes op
unfolding op_text bytes_of
words_length (Read line) = simp length-append (omega arith)
words_length (Write line) = simp length-append (omega arith)
words_length (Send recipient word) = simp length-append (omega arith)
words_length (Receive sender) = simp length-append (omega arith)
words_length (Compute ticks) = simp length-append (omega arith)

pub op_length : (domain : ℕ) (op : Op) → length (fed (op_line domain op)) ≡ 7 + length (decimal_of domain) + length (op_text op)
unfolding op_line bytes_of
op_length domain op = simp length-append (omega arith)
