-- The text of a plan and its scripts is a list of bytes. Assumes nothing.
use Rattle.std.specs.Prelude.{Option, Some, None}
use Prim.Native.Nat.{ℕ, zero, suc, ◌+◌}
use native.Mathlib.Omega.{arith}
use mathlib.Core.Bool.{true, and-eq-true_iff}
use mathlib.Core.List.{List, [], ◌∷◌, ◌++◌, append_assoc}
use mathlib.Core.Path.{◌≡◌, refl}
use lib.Dec.{leb}
use borrow.Author.Tests.{leb-true, lt-ltb}
use Rattle.lexer.specs.Bytes.{is_digit}
use Rattle.lexer.specs.Decimal.{decimal_of}
use Rattle.lexer.specs.Scan.{all_bytes}
use Rattle.lexer.proofs.Decimals.{decimal_all}
use Rattle.lexer.proofs.Scanned.{all_append, all_weaker}
use Rattle.lists.specs.Ascii.{bytes_of}
use Rattle.plan.specs.declared.Plan.{Plan}
use Rattle.script.specs.declared.Op.{Op}
use Rattle.script.specs.declared.Op.TheVariants.{Read, Write, Send, Receive, Compute}
use Rattle.script.specs.Fetch.{fetch_of}
use Rattle.script.specs.ScriptEnd.{stored_ops}
use Rattle.roundtrip.specs.Accepted.{is_byte}
use Rattle.writer.specs.Canonical.{canonical_lines, canonical_text, followed, item_line, joined, lines_from}
use Rattle.writer.specs.Canonical.{op_lines_from, plan_lines, script_line, script_lines}
use Rattle.writer.specs.Lines.{domain_line, op_line, op_text, pad_line, run_line, spaced, window_line}

abbrev Bytes : List ℕ → Type 0
Bytes text = all_bytes is_byte text ≡ true

both : (one other : List ℕ) → Bytes one → Bytes other → Bytes (one ++ other)
both = all_append is_byte

decimal : (number : ℕ) → Bytes (decimal_of number)
decimal number =
    all_weaker is_digit is_byte (decimal_of number)
    (λ byte digit.
    let most = leb-true byte 57 ((and-eq-true_iff (leb 48 byte) (leb byte 57)).0 digit).1 in
    lt-ltb byte 256 (omega arith))
    (decimal_all number)

-- the words and brackets of the lines
words : Bytes (bytes_of "(pad ") × Bytes (bytes_of "(run ") × Bytes (bytes_of "(window ") × Bytes (bytes_of "(length ")
    × Bytes (bytes_of "(domain ") × Bytes (bytes_of "(share ") × Bytes (bytes_of ")(may") × Bytes (bytes_of "(op ")
unfolding bytes_of all_bytes
words = (refl, refl, refl, refl, refl, refl, refl, refl)

words_of_ops : Bytes (bytes_of "(read ") × Bytes (bytes_of "(write ") × Bytes (bytes_of "(send ") × Bytes (bytes_of "(receive ")
    × Bytes (bytes_of "(compute ")
unfolding bytes_of all_bytes
words_of_ops = (refl, refl, refl, refl, refl)

signs : Bytes (bytes_of ")") × Bytes (bytes_of "))") × Bytes (bytes_of " ") × Bytes (bytes_of "\n")
unfolding bytes_of all_bytes
signs = (refl, refl, refl, refl)

none : Bytes []
unfolding all_bytes
none = refl

-- ---- the lines

recipients : (numbers : List ℕ) → Bytes (spaced numbers)
unfolding spaced
recipients [] = none
recipients (number ∷ more) = both _ _ (both _ _ signs.2 (decimal _)) (recipients more)

pad : (plan : Plan) → Bytes (pad_line plan)
unfolding pad_line
pad plan = both _ _ (both _ _ words.0 (decimal _)) signs.0

run : (plan : Plan) → Bytes (run_line plan)
unfolding run_line
run plan = both _ _ (both _ _ words.1 (decimal _)) signs.0

window : (plan : Plan) (slot : ℕ) → Bytes (window_line plan slot)
unfolding window_line
window plan slot =
    let owner = both _ _ words.2 (decimal _) in
    both _ _ (both _ _ (both _ _ owner words.3) (decimal _)) signs.1

domain : (plan : Plan) (number : ℕ) → Bytes (domain_line plan number)
unfolding domain_line
domain plan number =
    let share = both _ _ (both _ _ (both _ _ words.4 (decimal _)) words.5) (decimal _) in
    both _ _ (both _ _ (both _ _ share words.6) (recipients _)) signs.1

op_words_lem : (op : Op) → Bytes (op_text op)
unfolding op_text
op_words_lem (Read line) = both _ _ words_of_ops.0 (decimal _)
op_words_lem (Write line) = both _ _ words_of_ops.1 (decimal _)
op_words_lem (Send recipient word) = both _ _ (both _ _ (both _ _ words_of_ops.2 (decimal _)) signs.2) (decimal _)
op_words_lem (Receive sender) = both _ _ words_of_ops.3 (decimal _)
op_words_lem (Compute ticks) = both _ _ words_of_ops.4 (decimal _)

op_line_lem : (domain : ℕ) (op : Op) → Bytes (op_line domain op)
unfolding op_line
op_line_lem domain op = both _ _ (both _ _ (both _ _ words.7 (decimal _)) (op_words_lem op)) signs.1

item_line_lem : (domain : ℕ) (item : Option Op) → Bytes (item_line domain item)
unfolding item_line
item_line_lem domain (Some op) = op_line_lem domain op
item_line_lem domain None = none

script_line_lem : (scripts : List ℕ) (domain position : ℕ) → Bytes (script_line scripts domain position)
unfolding script_line
script_line_lem scripts domain position = item_line_lem domain (fetch_of scripts domain position)

-- ---- the text

after : (line : ℕ → List ℕ) → ((index : ℕ) → Bytes (line index)) → (left index : ℕ) (more : List (List ℕ))
    → Bytes (followed more) → Bytes (followed (lines_from line left index ++ more))
unfolding lines_from followed
after line each zero index more rest = rest
after line each (suc left) index more rest =
    both _ _ (both _ _ signs.3 (each index)) (after line each left (index + 1) more rest)

scripts_after : (scripts : List ℕ) (left domain : ℕ) → Bytes (followed (op_lines_from scripts left domain))
unfolding op_lines_from script_lines followed
scripts_after scripts zero domain = none
scripts_after scripts (suc left) domain =
    after (script_line scripts domain) (script_line_lem scripts domain) (stored_ops scripts domain) 0 (op_lines_from scripts left (domain + 1))
    (scripts_after scripts left (domain + 1))

pub text_bytes : (plan : Plan) (scripts : List ℕ) → Bytes (canonical_text plan scripts)
unfolding canonical_text canonical_lines plan_lines joined followed
text_bytes plan scripts =
    let ops = op_lines_from scripts plan.domains 0 in
    let last = both _ _ (both _ _ signs.3 (run plan)) (scripts_after scripts plan.domains 0) in
    let windows = after (window_line plan) (window plan) plan.windows 0 (run_line plan ∷ ops) last in
    let domains = after (domain_line plan) (domain plan) plan.domains 0 (lines_from (window_line plan) plan.windows 0 ++ (run_line plan ∷ ops)) windows in
    simp append_assoc (both _ _ (pad plan) domains)
