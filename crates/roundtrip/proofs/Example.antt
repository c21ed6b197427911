-- The example plan is valid, and the text of it and its scripts is the one written out; both by computing. Assumes nothing.
use mathlib.Core.Bool.{true}
use mathlib.Core.Path.{◌≡◌, refl}
use Rattle.lists.specs.Ascii.{bytes_of}
use Rattle.plan.specs.Colours.{colours_of, first_colour, has_bit, mask_from, mask_of, shares_total}
use Rattle.plan.specs.Validity.{counts_valid, declared_valid, domain_valid, mask_valid, plan_valid, undeclared_valid, window_valid}
use Rattle.plan.specs.Sums.{all_below, sum_to}
use Rattle.plan.specs.Windows.{ticks_total}
use Rattle.lexer.specs.Decimal.{decimal_of, digits_of}
use Rattle.script.specs.Fetch.{decode_of, fetch_of, op_of}
use Rattle.script.specs.ScriptEnd.{ops_in_row, stored_ops}
use Rattle.script.specs.Stored.{stored_of}
use Rattle.reader.specs.Draft.{no_ops}
use Rattle.writer.specs.Canonical.{canonical_lines, canonical_text, followed, item_line, joined, lines_from}
use Rattle.writer.specs.Canonical.{op_lines_from, plan_lines, script_line, script_lines}
use Rattle.writer.specs.Lines.{domain_line, op_line, op_text, pad_line, recipients_of, rising_from, run_line, spaced, window_line}
use Rattle.roundtrip.specs.Example.{written_plan, written_scripts, written_text}

pub example_valid : plan_valid written_plan ≡ true
unfolding
    written_plan colours_of first_colour has_bit mask_from mask_of shares_total
    counts_valid declared_valid domain_valid mask_valid plan_valid undeclared_valid window_valid all_below sum_to ticks_total
example_valid = refl

pub example_written : canonical_text written_plan written_scripts ≡ written_text
unfolding
    written_plan written_scripts no_ops stored_of bytes_of decimal_of digits_of has_bit
    decode_of fetch_of op_of ops_in_row stored_ops
    domain_line op_line op_text pad_line recipients_of rising_from run_line spaced window_line
    canonical_lines canonical_text followed item_line joined lines_from op_lines_from plan_lines script_line script_lines
example_written = refl
