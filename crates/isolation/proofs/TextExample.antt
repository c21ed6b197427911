-- The example's two lists stand under an accepted plan: a text gives it, and so demand 3 of accepted plans speaks of
-- them. Assumes nothing.
use Rattle.std.specs.Prelude.{Ok}
use Prim.Native.Nat.{ℕ}
use Prim.Native.String.{String}
use mathlib.Core.Path.{◌≡◌, refl, ap}
use lib.ListN.{length-replicate}
use Rattle.lists.specs.Ascii.{bytes_of}
use Rattle.plan.specs.Colours.{has_bit}
use Rattle.script.specs.Fetch.{decode_of, fetch_of, op_of}
use Rattle.script.specs.Limits.{scripts_length}
use Rattle.script.specs.ScriptEnd.{ops_in_row, stored_ops}
use Rattle.lexer.specs.Decimal.{decimal_of, digits_of}
use Rattle.lexer.specs.Scan.{all_bytes}
use Rattle.reader.specs.Draft.{no_ops}
use Rattle.reader.specs.Read.{ReadOutcome, read_of}
use Rattle.roundtrip.specs.Accepted.{Given}
use Rattle.writer.specs.Canonical.{canonical_lines, canonical_text, followed, joined, lines_from, op_lines_from, plan_lines, script_lines}
use Rattle.writer.specs.Lines.{domain_line, pad_line, recipients_of, rising_from, run_line, spaced, window_line}
use Rattle.roundtrip.proofs.Alone.{none_alone}
use Rattle.roundtrip.proofs.Fits.{text_fits}
use Rattle.roundtrip.proofs.ReadBack.{read_back}
use Rattle.isolation.specs.Statement.{SameSeen}
use Rattle.isolation.specs.Texts.{AcceptedList}
use Rattle.isolation.proofs.Examples.{comparable, computing, one, one_is, other, other_is, plan}
use Rattle.isolation.proofs.Texts.{accepted_isolation}

-- the text of the example's plan
abbrev pub example_text : String
example_text =
    "(pad 376)\n(domain 0(share 300)(may))\n(domain 1(share 400)(may 0))\n(domain 2(share 270)(may 1))\n(window 1(length 300))\n(window 0(length 300))\n(window 2(length 300))\n(run 2)"

is_text : canonical_text plan no_ops ≡ bytes_of example_text
unfolding
    bytes_of decimal_of digits_of has_bit domain_line followed joined lines_from pad_line plan_lines canonical_lines canonical_text recipients_of
    rising_from run_line spaced window_line op_lines_from script_lines stored_ops ops_in_row fetch_of decode_of op_of no_ops
is_text = refl

-- the reader gives the plan for it, with 0, 0
read : read_of (bytes_of example_text) no_ops ≡ record { verdict = Ok tt; plan = plan; scripts = no_ops }
unfolding computing no_ops
read =
    rw (← is_text)
    (read_back plan no_ops no_ops (record { shares = refl; rights = refl; masks = refl; owners = refl; lengths = refl }) refl (none_alone plan)
    (text_fits plan refl) (length-replicate {A = ℕ} scripts_length 0) (length-replicate {A = ℕ} scripts_length 0))

pub given : Given plan
unfolding bytes_of all_bytes
given =
    record {
      text = bytes_of example_text;
      bytes = refl;
      scripts = no_ops;
      accepted = ap (λ (r : ReadOutcome). r.verdict) read;
      gives = ap (λ (r : ReadOutcome). r.plan) read;
    }

one_accepted : AcceptedList one
one_accepted = record { accepted = given; cache_fits = refl; boxes_fit = refl; proper = one_is.proper }

other_accepted : AcceptedList other
other_accepted = record { accepted = given; cache_fits = refl; boxes_fit = refl; proper = other_is.proper }

-- so the observer sees the same, by demand 3 of accepted plans
pub seen : SameSeen 0 one other
seen = accepted_isolation.isolated 0 one other one_accepted other_accepted comparable
