-- The canonical text by its parts, in the order in which they are written, and how long it is at most. Assumes nothing.
use Rattle.std.specs.Prelude.{Option, Some, None}
use Prim.Native.Nat.{ℕ, zero, suc, ◌+◌, ◌*◌, ◌≤◌}
use mathlib.Core.Bool.{Bool, true, false}
use mathlib.Core.List.{List, [], ◌∷◌, ◌++◌, append_assoc, append-nil}
use mathlib.Core.Path.{◌≡◌, ap}
use native.Mathlib.Nat.{mul-suc}
use native.Mathlib.Omega.{arith}
use lib.ListN.{get_or, length, length-append}
use Rattle.lists.specs.Ascii.{bytes_of}
use Rattle.lists.proofs.Stores.{wrote_as, wrote_both}
use Rattle.plan.specs.declared.Plan.{Plan}
use Rattle.plan.specs.Colours.{has_bit, share_of}
use Rattle.plan.specs.Limits.{most_domains}
use Rattle.plan.specs.Rights.{rights_at}
use Rattle.plan.specs.Validity.{plan_valid}
use Rattle.plan.proofs.ValidPlans.{counts}
use Rattle.script.specs.declared.Op.{Op}
use Rattle.script.specs.declared.Op.TheVariants.{Read, Write, Send, Receive, Compute}
use Rattle.script.specs.Fetch.{fetch_of}
use Rattle.script.specs.Limits.{most_ops}
use Rattle.script.specs.ScriptEnd.{stored_ops}
use Rattle.script.proofs.ScriptEnd.{ends_at}
use Rattle.lexer.specs.Decimal.{decimal_of}
use Rattle.lists.specs.Writing.{Wrote}
use Rattle.lexer.proofs.Decimals.{decimal_most}
use Rattle.writer.specs.Canonical.{canonical_lines, canonical_text, followed, item_line, joined, lines_from, op_lines_from, plan_lines, script_line, script_lines}
use Rattle.writer.specs.Lines.{domain_line, op_text, pad_line, recipients_of, rising_from, run_line, spaced, window_line}
use Rattle.writer.proofs.Lengths.{domain_length, fed, op_length, pad_length, run_length, window_length_lem, words_length}
use Rattle.writer.proofs.Rest.{followed_append}

module _ (plan : Plan) (scripts : List ℕ) where
  -- the lines of the domains, of the windows and of the scripts, each after its LF
  abbrev pub domain_part : List ℕ
  domain_part = followed (lines_from (domain_line plan) plan.domains 0)

  abbrev pub window_part : List ℕ
  window_part = followed (lines_from (window_line plan) plan.windows 0)

  abbrev pub op_part : List ℕ
  op_part = followed (op_lines_from scripts plan.domains 0)

  text_parts : pad_line plan ++ domain_part ++ window_part ++ fed (run_line plan) ++ op_part ≡ canonical_text plan scripts
  unfolding canonical_text canonical_lines plan_lines joined followed
  text_parts =
      simp (
        followed_append,
        append_assoc,
        append-nil,
      )

-- ---- how long the parts are at most

rising_most : (rights left domain : ℕ) → length (rising_from rights left domain) ≤ left
unfolding rising_from
rising_most rights zero domain = omega arith
rising_most rights (suc left) domain = go (has_bit rights domain) (rising_most rights left (domain + 1))
  where
    go :
        (b : Bool)
        → length (rising_from rights left (domain + 1)) ≤ left
        → length {A = ℕ} (elim b [ true ↦ domain ∷ rising_from rights left (domain + 1) | false ↦ rising_from rights left (domain + 1) ]) ≤ suc left
    go true fewer = omega arith
    go false fewer = omega arith

spaced_most : (numbers : List ℕ) → length (spaced numbers) ≤ 21 * length numbers
unfolding spaced bytes_of
spaced_most [] = omega arith
spaced_most (number ∷ more) = omega (arith, length-append (decimal_of number) (spaced more), decimal_most number, spaced_most more)

pad_most : (plan : Plan) → length (pad_line plan) ≤ 26
unfolding pad_line
pad_most plan = omega (arith, pad_length plan.pad, decimal_most plan.pad)

run_most : (plan : Plan) → length (fed (run_line plan)) ≤ 27
unfolding run_line
run_most plan = omega (arith, run_length plan.run, decimal_most plan.run)

window_most : (plan : Plan) (slot : ℕ) → length (fed (window_line plan slot)) ≤ 59
unfolding window_line
window_most plan slot =
    let owner = get_or plan.owners slot 0 in
    let ticks = get_or plan.lengths slot 0 in
    omega (arith, window_length_lem owner ticks, decimal_most owner, decimal_most ticks)

domain_most : (plan : Plan) (domain : ℕ) → length (fed (domain_line plan domain)) ≤ 231
unfolding domain_line recipients_of
domain_most plan domain =
    let share = share_of plan domain in
    let rights = rights_at plan domain in
    omega (
      arith,
      domain_length domain share rights,
      decimal_most domain,
      decimal_most share,
      spaced_most (rising_from rights most_domains 0),
      rising_most rights most_domains 0,
    )

words_most : (op : Op) → length (op_text op) ≤ 47
words_most (Read line) = omega (arith, words_length (Read line), decimal_most line)
words_most (Write line) = omega (arith, words_length (Write line), decimal_most line)
words_most (Send recipient word) = omega (arith, words_length (Send recipient word), decimal_most recipient, decimal_most word)
words_most (Receive sender) = omega (arith, words_length (Receive sender), decimal_most sender)
words_most (Compute ticks) = omega (arith, words_length (Compute ticks), decimal_most ticks)

script_line_most : (scripts : List ℕ) (domain position : ℕ) → length (fed (script_line scripts domain position)) ≤ 74
unfolding script_line item_line bytes_of
script_line_most scripts domain position = go (fetch_of scripts domain position)
  where
    go : (item : Option Op) → length (fed (item_line domain item)) ≤ 74
    go (Some op) = omega (arith, op_length domain op, decimal_most domain, words_most op)
    go None = omega arith

-- lines of bounded length
lines_most :
    (line : ℕ → List ℕ) (most : ℕ)
    → ((index : ℕ) → length (fed (line index)) ≤ most)
    → (left index : ℕ)
    → length (followed (lines_from line left index)) ≤ most * left
unfolding lines_from followed
lines_most line most each zero index = omega arith
lines_most line most each (suc left) index =
    rw mul-suc
    (omega (arith, length-append (fed (line index)) (followed (lines_from line left (index + 1))), each index, lines_most line most each left (index + 1)))

-- 74 bytes for each op of the domains from one on
ops_most : (scripts : List ℕ) (left domain : ℕ) → length (followed (op_lines_from scripts left domain)) ≤ 74 * (most_ops * left)
unfolding op_lines_from followed script_lines
ops_most scripts zero domain = omega arith
ops_most scripts (suc left) domain =
    let own = lines_from (script_line scripts domain) (stored_ops scripts domain) 0 in
    let later = op_lines_from scripts left (domain + 1) in
    rw mul-suc
    (omega (
      arith,
      ap length (followed_append own later),
      length-append (followed own) (followed later),
      lines_most (script_line scripts domain) 74 (script_line_most scripts domain) (stored_ops scripts domain) 0,
      (ends_at scripts domain).within,
      ops_most scripts left (domain + 1),
    ))

-- the lengths of the parts: those of the plan are few bytes, and the whole is short beside 64 bits
pub record PartLengths (plan : Plan) (scripts : List ℕ) : Type 0 where
  pub sum :
      length (pad_line plan) + length (domain_part plan scripts) + length (window_part plan scripts) + length (fed (run_line plan)) + length (op_part plan scripts)
      ≡ length (canonical_text plan scripts)
  pub front : length (pad_line plan) + length (domain_part plan scripts) + length (window_part plan scripts) + length (fed (run_line plan)) ≤ 4_000
  pub most : length (canonical_text plan scripts) ≤ 200_000

pub part_lengths : (plan : Plan) (scripts : List ℕ) → plan_valid plan ≡ true → PartLengths plan scripts
part_lengths plan scripts valid =
    let count = counts plan valid in
    let shared = pad_line plan ++ domain_part plan scripts in
    let front = shared ++ window_part plan scripts in
    let sum : length (pad_line plan) + length (domain_part plan scripts) + length (window_part plan scripts) + length (fed (run_line plan)) + length (op_part plan scripts)
    ≡ length (canonical_text plan scripts) =
    omega (
      arith,
      ap length (text_parts plan scripts),
      length-append (front ++ fed (run_line plan)) (op_part plan scripts),
      length-append front (fed (run_line plan)),
      length-append shared (window_part plan scripts),
      length-append (pad_line plan) (domain_part plan scripts),
    ) in
    let front : length (pad_line plan) + length (domain_part plan scripts) + length (window_part plan scripts) + length (fed (run_line plan)) ≤ 4_000 =
    omega (
      arith,
      pad_most plan,
      run_most plan,
      lines_most (domain_line plan) 231 (domain_most plan) plan.domains 0,
      lines_most (window_line plan) 59 (window_most plan) plan.windows 0,
      count.domains_most,
      count.windows_most,
    ) in
    record { sum = sum; front = front; most = omega (arith, sum, front, ops_most scripts plan.domains 0, count.domains_most) }

-- the parts written one after the other are the text
pub parts_wrote :
    (plan : Plan) (scripts buffer : List ℕ) {one two three four after : List ℕ} {padded shared windowed repeated end : ℕ}
    → Wrote buffer 0 (pad_line plan) one padded
    → Wrote one padded (domain_part plan scripts) two shared
    → Wrote two shared (window_part plan scripts) three windowed
    → Wrote three windowed (fed (run_line plan)) four repeated
    → Wrote four repeated (op_part plan scripts) after end
    → Wrote buffer 0 (canonical_text plan scripts) after end
parts_wrote plan scripts buffer a b c d e =
    let shares = pad_line plan ++ domain_part plan scripts in
    let windows = shares ++ window_part plan scripts in
    let runs = windows ++ fed (run_line plan) in
    wrote_as buffer 0 (text_parts plan scripts)
    (wrote_both buffer 0 runs (op_part plan scripts)
    (wrote_both buffer 0 windows (fed (run_line plan))
    (wrote_both buffer 0 shares (window_part plan scripts) (wrote_both buffer 0 (pad_line plan) (domain_part plan scripts) a b) c) d) e)
