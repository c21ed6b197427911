-- A full store of the longest ops has a canonical text that is too long to be read, and so no text gives it. Assumes nothing.
use Rattle.std.specs.Prelude.{Some}
use Prim.Native.Nat.{ℕ, zero, suc, ◌+◌, ◌*◌, ◌≤◌, ◌<◌}
use native.Mathlib.Nat.{mul-suc}
use native.Mathlib.Omega.{arith}
use mathlib.Core.Bool.{true}
use mathlib.Core.List.{List}
use mathlib.Core.Path.{◌≡◌, refl, sym, ap, ◌∙◌}
use lib.Dec.{ltb}
use lib.ListN.{get_or-replicate, length, length-append, length-replicate}
use borrow.Author.Tests.{lt-ltb}
use Rattle.lists.proofs.Tests.{first_passes}
use Rattle.plan.specs.Colours.{colours_of, first_colour, has_bit, mask_from, mask_of, shares_total}
use Rattle.plan.specs.Limits.{most_domains}
use Rattle.plan.specs.Sums.{all_below, sum_to}
use Rattle.plan.specs.Validity.{counts_valid, declared_valid, domain_valid, mask_valid, plan_valid, undeclared_valid, window_valid}
use Rattle.plan.specs.Windows.{ticks_total}
use Rattle.plan.proofs.Sums.{below_all}
use Rattle.script.specs.declared.Op.TheVariants.{Send}
use Rattle.script.specs.Fetch.{decode_of, fetch_of, op_of}
use Rattle.script.specs.Limits.{most_ops, scripts_length}
use Rattle.script.specs.ScriptEnd.{stored_ops}
use Rattle.script.specs.Stored.{stored_of}
use Rattle.script.proofs.ScriptEnd.{end_is_none, past_end, scripts_end}
use Rattle.lexer.specs.Decimal.{decimal_of, digits_of}
use Rattle.lexer.proofs.Decimals.{decimal_some}
use Rattle.writer.specs.Canonical.{followed, item_line, lines_from, op_lines_from, script_line, script_lines}
use Rattle.writer.specs.Scripts.{op_or_zero, ops_alone, written_ops}
use Rattle.writer.proofs.Lengths.{fed, op_length, words_length}
use Rattle.writer.proofs.Rest.{followed_append}
use Rattle.writer.proofs.TextParts.{part_lengths}
use Rattle.roundtrip.specs.Example.{TooLongAlone, all_sends, eight_domains}
use Rattle.roundtrip.proofs.WrittenBack.{given_fine}

eight_valid : plan_valid eight_domains ≡ true
unfolding
    eight_domains colours_of first_colour has_bit mask_from mask_of shares_total all_below sum_to
    counts_valid declared_valid domain_valid mask_valid plan_valid undeclared_valid window_valid ticks_total
eight_valid = refl

send_there : (domain position : ℕ) → domain < most_domains → position < most_ops → fetch_of all_sends domain position ≡ Some (Send 7 65_535)
unfolding all_sends fetch_of decode_of op_of stored_of
send_there domain position declared below =
    rw (lt-ltb position most_ops below, get_or-replicate scripts_length (most_ops * domain + position) (stored_of (Send 7 65_535)) 0 (omega arith)) refl

all_stored : (domain : ℕ) → domain < most_domains → stored_ops all_sends domain ≡ most_ops
all_stored domain declared =
    sym
    (scripts_end.once all_sends domain most_ops
    (record {
      within = omega arith;
      before = λ position below there. end_is_none (Send 7 65_535) (sym there ∙ send_there domain position declared below);
      there = past_end all_sends domain most_ops (omega arith);
    }))

-- ---- how long

line_least : (domain position : ℕ) → domain < most_domains → position < most_ops → 21 ≤ length (fed (script_line all_sends domain position))
unfolding script_line item_line decimal_of digits_of
line_least domain position declared below =
    rw (send_there domain position declared below)
    (omega (arith, op_length domain (Send 7 65_535), words_length (Send 7 65_535), decimal_some domain))

lines_least :
    (line : ℕ → List ℕ) (left index total : ℕ)
    → index + left ≤ total
    → ((position : ℕ) → position < total → 21 ≤ length (fed (line position)))
    → 21 * left ≤ length (followed (lines_from line left index))
unfolding lines_from followed
lines_least line zero index total within each = omega arith
lines_least line (suc left) index total within each =
    rw mul-suc
    (omega (
      arith,
      length-append (fed (line index)) (followed (lines_from line left (index + 1))),
      each index (omega arith),
      lines_least line left (index + 1) total (omega arith) each,
    ))

scripts_least : (left domain : ℕ) → domain + left ≤ most_domains → 5_376 * left ≤ length (followed (op_lines_from all_sends left domain))
unfolding op_lines_from followed script_lines
scripts_least zero domain within = omega arith
scripts_least (suc left) domain within =
    let own = lines_from (script_line all_sends domain) (stored_ops all_sends domain) 0 in
    let later = op_lines_from all_sends left (domain + 1) in
    let full = all_stored domain (omega arith) in
    let lines = lines_least (script_line all_sends domain) (stored_ops all_sends domain) 0 most_ops (omega (arith, full)) (λ position below. line_least domain position (omega arith) below) in
    rw mul-suc
    (omega (arith, ap length (followed_append own later), length-append (followed own) (followed later), full, lines, scripts_least left (domain + 1) (omega arith)))

-- ---- ops alone

all_written : (domain : ℕ) → domain < most_domains → written_ops eight_domains.domains all_sends domain ≡ most_ops
unfolding written_ops eight_domains
all_written domain declared = rw (lt-ltb domain 8 declared) (all_stored domain declared)

sends_alone : ops_alone eight_domains all_sends ≡ true
unfolding ops_alone op_or_zero
sends_alone =
    below_all _ most_domains λ domain declared.
    below_all (op_or_zero eight_domains.domains all_sends domain) most_ops λ position below.
    first_passes (ltb position (written_ops eight_domains.domains all_sends domain)) _ (rw (all_written domain declared) (lt-ltb position most_ops below))

pub too_long_alone : TooLongAlone
unfolding all_sends eight_domains
too_long_alone =
    record {
      possible = eight_valid;
      store = length-replicate {A = ℕ} scripts_length (stored_of (Send 7 65_535));
      alone = sends_alone;
      none =
          λ given.
          let fits = (given_fine eight_domains all_sends given).fits in
          omega (arith, fits, (part_lengths eight_domains all_sends eight_valid).sum, scripts_least most_domains 0 (omega arith));
    }
