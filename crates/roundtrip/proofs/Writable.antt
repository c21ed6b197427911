-- What a call for a canonical text has found where it wrote, and what it finds of a pair that a text gives. Assumes nothing.
use Rattle.std.specs.Prelude.{Ok, Err}
use Prim.Native.Nat.{ℕ, ◌≤◌}
use native.Mathlib.Omega.{arith}
use mathlib.Core.Bool.{true, ◌&&◌}
use mathlib.Core.List.{List}
use mathlib.Core.Path.{◌≡◌, refl, sym, ap, ◌∙◌}
use lib.Dec.{eqb, leb, ltb}
use lib.ListN.{drop, length}
use lib.Seq.{take-append_seam}
use borrow.Author.Tests.{eqb-true, le-leb, leb-true, ltb-false}
use Rattle.lists.proofs.Tests.{both, both_pass}
use Rattle.plan.specs.declared.Plan.{Plan}
use Rattle.plan.specs.Limits.{most_domains, most_text_bytes}
use Rattle.plan.specs.Parts.{with_masks}
use Rattle.plan.specs.Validity.{plan_valid}
use Rattle.plan.proofs.MaskLists.{masks_length}
use Rattle.script.specs.Limits.{scripts_length}
use Rattle.reader.specs.Final.{plan_with_masks}
use Rattle.reader.specs.Read.{ReadOutcome, lines_of, read_of, read_verdict, read_with}
use Rattle.reader.proofs.Accepted.{accepted_valid, read_holds}
use Rattle.reader.proofs.Walking.{lines_good}
use Rattle.refusal.specs.declared.Refusal.TheVariants.{ImpossiblePlan, TextTooLong, WrongLength}
use Rattle.refusal.proofs.Passed.{not_refused, unless_passed, when_passed}
use Rattle.writer.specs.Canonical.{canonical_text}
use Rattle.writer.specs.Scripts.{ops_alone}
use Rattle.writer.specs.Write.{WriteOutcome, writable, write_from, write_of, write_verdict}
use Rattle.shortest.proofs.Shortest.{none_shorter, read_alone}
use Rattle.roundtrip.specs.Accepted.{Shaped}
use Rattle.roundtrip.specs.Theorems.{output}
use Rattle.refusal.specs.Verdict.{Verdict}

-- ---- what was written

-- the verdict is the checks'
pub verdict_is : (plan : Plan) (scripts out : List ℕ) → (write_of plan scripts out).verdict ≡ write_verdict plan scripts (length out)
unfolding write_of
verdict_is plan scripts out = go (write_verdict plan scripts (length out))
  where
    go : (verdict : Verdict) → (write_from verdict (canonical_text plan scripts) out).verdict ≡ verdict
    go (Ok tt) = refl
    go (Err refusal) = refl

-- the parts of what is asked of a plan and its scripts
pub record Fine (plan : Plan) (scripts : List ℕ) : Type 0 where
  pub store : length scripts ≡ scripts_length
  pub valid : plan_valid plan ≡ true
  pub alone : ops_alone plan scripts ≡ true
  pub fits : length (canonical_text plan scripts) ≤ most_text_bytes

pub fine_of : (plan : Plan) (scripts : List ℕ) → length scripts ≡ scripts_length → writable plan scripts ≡ true → Fine plan scripts
unfolding writable
fine_of plan scripts store passed =
    let parts = both (plan_valid plan && ops_alone plan scripts) (leb (length (canonical_text plan scripts)) most_text_bytes) passed in
    let first = both (plan_valid plan) (ops_alone plan scripts) parts.0 in
    record { store = store; valid = first.0; alone = first.1; fits = leb-true _ _ parts.1 }

-- where it wrote, all was fine, and the output is the canonical text
pub record TextWritten (plan : Plan) (scripts out : List ℕ) : Type 0 where
  pub fine : Fine plan scripts
  pub bytes_are : (write_of plan scripts out).bytes ≡ length (canonical_text plan scripts)
  pub output_is : output (write_of plan scripts out) ≡ canonical_text plan scripts

pub wrote : (plan : Plan) (scripts out : List ℕ) → (write_of plan scripts out).verdict ≡ Ok tt → TextWritten plan scripts out
unfolding write_of write_verdict
wrote plan scripts out accepted =
    let text = canonical_text plan scripts in
    let verdict = sym (verdict_is plan scripts out) ∙ accepted in
    let first = unless_passed (eqb (length scripts) scripts_length) WrongLength _ verdict in
    let second = unless_passed (writable plan scripts) ImpossiblePlan _ first.1 in
    let done : write_of plan scripts out ≡ write_from (Ok tt) text out = ap (λ (v : Verdict). write_from v text out) verdict in
    record {
      fine = fine_of plan scripts (eqb-true _ _ first.0) second.0;
      bytes_are = ap (λ (w : WriteOutcome). w.bytes) done;
      output_is = ap output done ∙ take-append_seam text (drop (length text) out);
    }

-- ---- what a text gives

-- a plan that a text gives has all its entries
pub read_shaped : (text store : List ℕ) → (read_of text store).verdict ≡ Ok tt → Shaped (read_of text store).plan
unfolding plan_with_masks with_masks
read_shaped text store =
    read_holds (λ (read : ReadOutcome). read.verdict ≡ Ok tt → Shaped read.plan) text store
    (λ why refused. absurd (not_refused why refused))
    (λ fits final accepted.
    let good = (lines_good text).0 in
    record {
      shares = good.domains.shares_size;
      rights = good.domains.rights_size;
      masks = masks_length (lines_of text).draft.plan most_domains 0;
      owners = good.windows.owners_size;
      lengths = good.windows.lengths_size;
    })

-- and its store has 2,048 numbers
stored_long : (text store : List ℕ) → (read_of text store).verdict ≡ Ok tt → length (read_of text store).scripts ≡ scripts_length
stored_long text store =
    read_holds (λ (read : ReadOutcome). read.verdict ≡ Ok tt → length read.scripts ≡ scripts_length) text store
    (λ why refused. absurd (not_refused why refused))
    (λ fits final accepted. (lines_good text).1)

-- an accepted text has at most 32,768 bytes
accepted_short : (text store : List ℕ) → (read_of text store).verdict ≡ Ok tt → length text ≤ most_text_bytes
unfolding read_of read_verdict
accepted_short text store = go (read_verdict text store (lines_of text)) refl
  where
    go :
        (verdict : Verdict)
        → read_verdict text store (lines_of text) ≡ verdict
        → (read_with verdict (lines_of text) store).verdict ≡ Ok tt
        → length text ≤ most_text_bytes
    go (Err why) is refused = absurd (not_refused why refused)
    go (Ok tt) is accepted =
        let fits = unless_passed (eqb (length store) scripts_length) WrongLength _ is in
        ltb-false _ _ (when_passed (ltb most_text_bytes (length text)) TextTooLong _ fits.1).0

-- so what it gives can be written
pub read_fine : (text store : List ℕ) → (read_of text store).verdict ≡ Ok tt → Fine (read_of text store).plan (read_of text store).scripts
read_fine text store accepted =
    record {
      store = stored_long text store accepted;
      valid = accepted_valid text store accepted;
      alone = read_alone text store accepted;
      fits = omega (arith, none_shorter text store accepted, accepted_short text store accepted);
    }

pub fine_writable : (plan : Plan) (scripts : List ℕ) → Fine plan scripts → writable plan scripts ≡ true
unfolding writable
fine_writable plan scripts fine = both_pass _ _ (both_pass _ _ fine.valid fine.alone) (le-leb _ _ fine.fits)
