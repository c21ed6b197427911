-- `writer::write_plan` meets its contract. Assumes nothing.
use Rattle.std.specs.Prelude.{Err}
use mathlib.Core.Path.{◌∙◌, ◌≡◌, ap, sym}
use Prim.Native.Nat.{ℕ}
use native.Mathlib.Nat.{zero-add}
use native.Mathlib.Omega.{arith}
use lib.ListN.{length, length-replicate, replicate}
use Rattle.plan.specs.Limits.{most_text_bytes}
use Rattle.refusal.specs.declared.Refusal.TheVariants.{BufferTooShort}
use Rattle.writer.specs.Canonical.{canonical_text}
use Rattle.writer.specs.Write.{write_with}
use Rattle.writer.proofs.Answers.{handed, impossible_plan, not_alone, too_long, too_short, wrong_length_lem}
use Rattle.writer.proofs.write_plan.Goals as goal

-- the text, and that the number answered for it is its length
pub returns-then-scripts-ne-SCRIPTS_LENGTH : goal.returns-then-scripts-ne-SCRIPTS_LENGTH
returns-then-scripts-ne-SCRIPTS_LENGTH c =
    let args = c.args in
    wrong_length_lem args.plan args.scripts.now args.out.now c.if-scripts-ne-SCRIPTS_LENGTH.true

pub returns-then-not-is_valid : goal.returns-then-not-is_valid
returns-then-not-is_valid c =
    let args = c.args in
    let impossible = sym c.is_valid.ensures ∙ c.if-not-is_valid.true in
    impossible_plan args.plan args.scripts.now args.out.now c.if-scripts-ne-SCRIPTS_LENGTH.false impossible

pub returns-then-not-ops_alone : goal.returns-then-not-ops_alone
returns-then-not-ops_alone c =
    let args = c.args in
    let possible = sym c.is_valid.ensures ∙ c.if-not-is_valid.false in
    let others = sym c.ops_alone.ensures ∙ c.if-not-ops_alone.true in
    not_alone args.plan args.scripts.now args.out.now c.if-scripts-ne-SCRIPTS_LENGTH.false possible others

pub returns-then-needed-gt-MOST_TEXT_BYTES : goal.returns-then-needed-gt-MOST_TEXT_BYTES
returns-then-needed-gt-MOST_TEXT_BYTES c =
    let args = c.args in
    let possible = sym c.is_valid.ensures ∙ c.if-not-is_valid.false in
    let alone = sym c.ops_alone.ensures ∙ c.if-not-ops_alone.false in
    let is : c.write_text-needed.result ≡ length (canonical_text args.plan args.scripts.now) = c.write_text-needed.ensures.0 ∙ zero-add _ in
    too_long args.plan args.scripts.now args.out.now c.if-scripts-ne-SCRIPTS_LENGTH.false possible alone
    (omega (arith, c.if-needed-gt-MOST_TEXT_BYTES.true, is))

pub returns-then-out-needed : goal.returns-then-out-needed
returns-then-out-needed c =
    let args = c.args in
    let possible = sym c.is_valid.ensures ∙ c.if-not-is_valid.false in
    let alone = sym c.ops_alone.ensures ∙ c.if-not-ops_alone.false in
    let is : c.write_text-needed.result ≡ length (canonical_text args.plan args.scripts.now) = c.write_text-needed.ensures.0 ∙ zero-add _ in
    ap (λ (bytes : ℕ). write_with (Err (BufferTooShort bytes)) 0 args.out.now) is
    ∙ too_short args.plan args.scripts.now args.out.now c.if-scripts-ne-SCRIPTS_LENGTH.false possible alone
    (omega (arith, c.if-needed-gt-MOST_TEXT_BYTES.false, is)) (omega (arith, c.if-out-needed.true, is))

pub returns : goal.returns
returns c =
    let args = c.args in
    let possible = sym c.is_valid.ensures ∙ c.if-not-is_valid.false in
    let alone = sym c.ops_alone.ensures ∙ c.if-not-ops_alone.false in
    let is : c.write_text-needed.result ≡ length (canonical_text args.plan args.scripts.now) = c.write_text-needed.ensures.0 ∙ zero-add _ in
    rw c.copy_from_slice.ensures.after
    (handed args.plan args.scripts.now args.out.now c.if-scripts-ne-SCRIPTS_LENGTH.false possible alone
    (omega (arith, c.if-needed-gt-MOST_TEXT_BYTES.false, is)) (replicate most_text_bytes 0) c.write_text-needed.ensures
    (length-replicate {A = ℕ} most_text_bytes 0) c.if-out-needed.false)
