-- The examples of the plan written back: what is computed from the texts, and what the laws give from there. Assumes nothing.
use Rattle.std.specs.Prelude.{Ok}
use Prim.Native.Nat.{ℕ, ◌+◌, ◌*◌, ◌≤◌, ◌<◌}
use native.Mathlib.Omega.{arith}
use mathlib.Core.Bool.{false}
use mathlib.Core.List.{List, [], ◌++◌}
use mathlib.Core.Path.{◌≡◌, refl, sym, ap, ◌∙◌}
use lib.ListN.{drop, length, length-set, take}
use lib.Seq.{length-take-le}
use Rattle.lists.specs.Ascii.{bytes_of}
use Rattle.plan.specs.Colours.{has_bit}
use Rattle.plan.specs.Limits.{most_domains}
use Rattle.plan.specs.Sums.{all_below}
use Rattle.plan.specs.Validity.{counts_valid, plan_valid}
use Rattle.plan.specs.Zeros.{no_plan}
use Rattle.plan.proofs.Sums.{all_below_fails}
use Rattle.script.specs.declared.Op.TheVariants.{Compute}
use Rattle.script.specs.Fetch.{decode_of, fetch_of, op_of}
use Rattle.script.specs.Limits.{most_ops, scripts_length}
use Rattle.script.specs.ScriptEnd.{ops_in_row, stored_ops}
use Rattle.script.specs.Stored.{stored_of}
use Rattle.lexer.specs.Decimal.{decimal_of, digits_of}
use Rattle.engine.proofs.Computing.{computing}
use Rattle.reader.specs.Draft.{no_ops}
use Rattle.refusal.specs.declared.Refusal.TheVariants.{BufferTooShort, ImpossiblePlan}
use Rattle.writer.specs.Canonical.{canonical_lines, canonical_text, followed, item_line, joined, lines_from, op_lines_from, plan_lines, script_line, script_lines}
use Rattle.writer.specs.Lines.{domain_line, op_line, op_text, pad_line, recipients_of, rising_from, run_line, spaced, window_line}
use Rattle.writer.specs.Scripts.{op_or_zero, ops_alone, written_ops}
use Rattle.writer.specs.Write.{write_with}
use Rattle.writer.proofs.Answers.{accepted, impossible_plan, not_alone, too_short, wrong_length_lem}
use Rattle.roundtrip.proofs.Writable.{Fine, read_fine}
use Rattle.worked_example.specs.Example.{example_plan, text_of}
use Rattle.worked_example.specs.WorkedExample.{example_read}
use Rattle.worked_example.specs.WriteExamples.{WriteExamples, canonical_example, refused_with, room, scripts_with, written_with}
use Rattle.worked_example.proofs.Reading.{reading}

-- every definition that a canonical text computes with, named once
unfoldable spelling : ℕ
unfolding
    has_bit decimal_of digits_of ops_in_row stored_ops fetch_of decode_of op_of canonical_lines canonical_text followed item_line joined lines_from
    op_lines_from plan_lines script_line script_lines domain_line op_line op_text pad_line recipients_of rising_from run_line spaced window_line
spelling = 0

text_is : canonical_text example_read.plan example_read.scripts ≡ canonical_example
unfolding computing reading text_of spelling
text_is = refl

-- ---- the example's text is accepted, so what it gives can be written

accepted_text : example_read.verdict ≡ Ok tt
unfolding computing reading text_of
accepted_text = refl

fine : Fine example_read.plan example_read.scripts
fine = read_fine example_plan no_ops accepted_text

long : length canonical_example ≡ 203
unfolding bytes_of
long = refl

needed : length (canonical_text example_read.plan example_read.scripts) ≡ 203
needed = ap length text_is ∙ long

-- where there is room, and where there is not
there :
    (out : List ℕ) → 203 ≤ length out
    → written_with example_read.scripts out ≡ write_with (Ok tt) 203 (canonical_example ++ drop 203 out)
there out enough =
    sym (accepted example_read.plan example_read.scripts out fine.store fine.valid fine.alone fine.fits (omega (arith, needed, enough)))
    ∙ ap (λ (text : List ℕ). write_with (Ok tt) (length text) (text ++ drop (length text) out)) text_is
    ∙ ap (λ (bytes : ℕ). write_with (Ok tt) bytes (canonical_example ++ drop bytes out)) long

not_there :
    (out : List ℕ) → length out < 203
    → written_with example_read.scripts out ≡ refused_with (BufferTooShort 203) out
not_there out short =
    sym (too_short example_read.plan example_read.scripts out fine.store fine.valid fine.alone fine.fits (omega (arith, needed, short)))
    ∙ ap (λ (bytes : ℕ). refused_with (BufferTooShort bytes) out) needed

-- ---- a number beside the ops

others :
    (domain position number : ℕ) (out : List ℕ)
    → domain < most_domains
    → position < most_ops
    → op_or_zero example_read.plan.domains (scripts_with domain position number) domain position ≡ false
    → written_with (scripts_with domain position number) out ≡ refused_with ImpossiblePlan out
unfolding ops_alone
others domain position number out below within fails =
    let scripts = scripts_with domain position number in
    let plan = example_read.plan in
    let part = all_below_fails (op_or_zero plan.domains scripts domain) most_ops position within fails in
    let store = length-set example_read.scripts (most_ops * domain + position) number ∙ fine.store in
    let alone = all_below_fails (λ (other : ℕ). all_below (op_or_zero plan.domains scripts other) most_ops) most_domains domain below (sym part) in
    sym (not_alone plan scripts out store fine.valid (sym alone))

no_plan_impossible : plan_valid no_plan ≡ false
unfolding plan_valid counts_valid no_plan
no_plan_impossible = refl

one_less : length (take 2_047 example_read.scripts) ≡ scripts_length → ⊥
one_less same = omega (arith, same, length-take-le 2_047 example_read.scripts (omega (arith, fine.store)))

pub write_examples : WriteExamples
unfolding computing reading text_of spelling op_or_zero written_ops
write_examples =
    record {
      long = long;
      exact = there (room 203) (omega arith);
      longer = there (room 206) (omega arith);
      shorter = not_there (room 202) (omega arith);
      none = not_there [] (omega arith);
      respelled = refl;
      behind_end = others 1 3 (stored_of (Compute 1)) (room 300) (omega arith) (omega arith) refl;
      at_end = others 1 2 7 (room 300) (omega arith) (omega arith) refl;
      undeclared = others 2 0 (stored_of (Compute 1)) [] (omega arith) (omega arith) refl;
      impossible = sym (impossible_plan no_plan example_read.scripts [] fine.store no_plan_impossible);
      short_store = sym (wrong_length_lem no_plan (take 2_047 example_read.scripts) [] one_less);
    }
