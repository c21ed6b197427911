-- Writing and reading undo each other, there is one text for each plan with its scripts, past it the buffer stays, 17 is told where there
-- is no room, and 12 exactly where no accepted text gives the pair. Assumes nothing.
use Rattle.std.specs.Prelude.{Ok, Err}
use Prim.Native.Nat.{ℕ, ◌≤◌, ◌<◌}
use native.Mathlib.Omega.{arith}
use mathlib.Core.Bool.{Bool, true, false}
use mathlib.Core.List.{List}
use mathlib.Core.Path.{◌≡◌, refl, sym, ap, ap₂, subst, ◌∙◌}
use lib.Dec.{eqb, ltb}
use lib.ListN.{drop, length, length-replicate}
use lib.Seq.{drop-append_seam}
use borrow.Author.Tests.{eq-eqb, le-ltb, ltb-false}
use Rattle.plan.specs.declared.Plan.{Plan}
use Rattle.script.specs.Limits.{scripts_length}
use Rattle.reader.specs.Draft.{no_ops}
use Rattle.reader.specs.Read.{ReadOutcome, read_of}
use Rattle.refusal.specs.Checks.{when}
use Rattle.refusal.specs.declared.Refusal.TheVariants.{BufferTooShort, ImpossiblePlan, WrongLength}
use Rattle.refusal.proofs.Passed.{not_refused, unless_passed, when_passed}
use Rattle.refusal.proofs.Told.{same_number}
use Rattle.writer.specs.Canonical.{canonical_text}
use Rattle.writer.specs.Write.{writable, write_from, write_of, write_verdict, write_with}
use Rattle.writer.proofs.Answers.{too_short}
use Rattle.shortest.proofs.Shortest.{none_shorter}
use Rattle.roundtrip.specs.Accepted.{Shaped}
use Rattle.roundtrip.specs.Theorems.{GivenBoth, OneText, ReadBack, Repeats, RestKept, SeventeenTold, TwelveTold, WrittenBack, gave, output, rewritten}
use Rattle.roundtrip.proofs.Bytes.{text_bytes}
use Rattle.roundtrip.proofs.ReadBack.{read_back}
use Rattle.roundtrip.proofs.Writable.{Fine, fine_of, fine_writable, read_fine, read_shaped, verdict_is, wrote}
use Rattle.refusal.specs.Verdict.{Verdict}

-- the canonical text of what can be written is read back
fine_back :
    (plan : Plan) (scripts store : List ℕ)
    → Shaped plan
    → length store ≡ scripts_length
    → Fine plan scripts
    → read_of (canonical_text plan scripts) store ≡ gave plan scripts
fine_back plan scripts store shaped lent fine = read_back plan scripts store shaped fine.valid fine.alone fine.fits fine.store lent

pub reads_back : ReadBack
reads_back plan scripts out store shaped lent accepted =
    let written = wrote plan scripts out accepted in
    ap (λ (text : List ℕ). read_of text store) written.output_is ∙ fine_back plan scripts store shaped lent written.fine

-- what can be written is written wherever there is room
fine_written : (plan : Plan) (scripts out : List ℕ) → Fine plan scripts → length (canonical_text plan scripts) ≤ length out → (write_of plan scripts out).verdict ≡ Ok tt
unfolding write_verdict
fine_written plan scripts out fine room =
    verdict_is plan scripts out
    ∙ rw (
      eq-eqb (length scripts) scripts_length fine.store,
      fine_writable plan scripts fine,
      le-ltb (length out) (length (canonical_text plan scripts)) room,
    )
    refl

pub written_back_lem : WrittenBack
written_back_lem text store out accepted room =
    fine_written _ _ out (read_fine text store accepted) (omega (arith, none_shorter text store accepted, room))

-- ---- one text

no_ops_long : length no_ops ≡ scripts_length
unfolding no_ops
no_ops_long = length-replicate {A = ℕ} scripts_length 0

pub one_text : OneText
one_text text store out text' store' out' one other = (same_given, same_output)
  where
    plan : Plan
    plan = (read_of text store).plan

    plan' : Plan
    plan' = (read_of text' store').plan

    scripts : List ℕ
    scripts = (read_of text store).scripts

    scripts' : List ℕ
    scripts' = (read_of text' store').scripts

    same_given : rewritten text store out ≡ rewritten text' store' out' → (plan ≡ plan') × (scripts ≡ scripts')
    same_given same =
        let first = reads_back plan scripts out no_ops (read_shaped text store one.read) no_ops_long one.wrote in
        let second = reads_back plan' scripts' out' no_ops (read_shaped text' store' other.read) no_ops_long other.wrote in
        let both : gave plan scripts ≡ gave plan' scripts' = sym first ∙ ap (λ (bytes : List ℕ). read_of bytes no_ops) same ∙ second in
        (ap (λ (read : ReadOutcome). read.plan) both, ap (λ (read : ReadOutcome). read.scripts) both)

    same_output : (plan ≡ plan') × (scripts ≡ scripts') → rewritten text store out ≡ rewritten text' store' out'
    same_output same =
        (wrote plan scripts out one.wrote).output_is
        ∙ ap₂ canonical_text same.0 same.1
        ∙ sym (wrote plan' scripts' out' other.wrote).output_is

pub repeats : Repeats
repeats plan scripts out store out' shaped lent accepted room =
    let written = wrote plan scripts out accepted in
    let again = fine_written plan scripts out' written.fine (omega (arith, written.bytes_are, room)) in
    let read = reads_back plan scripts out store shaped lent accepted in (
      record {
        read = ap (λ (given : ReadOutcome). given.verdict) read;
        wrote = ap (λ (given : ReadOutcome). (write_of given.plan given.scripts out').verdict) read ∙ again;
      },
      ap (λ (given : ReadOutcome). output (write_of given.plan given.scripts out')) read
          ∙ (wrote plan scripts out' again).output_is
          ∙ sym written.output_is,
    )

-- ---- the buffer

pub rest_kept : RestKept
unfolding write_of write_verdict
rest_kept plan scripts out = go (write_verdict plan scripts (length out)) refl
  where
    text : List ℕ
    text = canonical_text plan scripts

    go :
        (verdict : Verdict)
        → write_verdict plan scripts (length out) ≡ verdict
        → ((write_from verdict text out).bytes ≤ length out)
        × (drop (write_from verdict text out).bytes (write_from verdict text out).out ≡ drop (write_from verdict text out).bytes out)
    go (Err refusal) is = (omega arith, refl)
    go (Ok tt) is =
        let first = unless_passed (eqb (length scripts) scripts_length) WrongLength _ is in
        let second = unless_passed (writable plan scripts) ImpossiblePlan _ first.1 in
        let third = when_passed (ltb (length out) (length text)) (BufferTooShort (length text)) (Ok tt) second.1 in
        (ltb-false _ _ third.0, drop-append_seam text (drop (length text) out))

pub seventeen_told : SeventeenTold
seventeen_told plan scripts out enough accepted short =
    let written = wrote plan scripts enough accepted in
    let fine = written.fine in
    let less : length out < length (canonical_text plan scripts) = omega (arith, written.bytes_are, short) in
    sym (too_short plan scripts out fine.store fine.valid fine.alone fine.fits less)
    ∙ ap (λ (needed : ℕ). write_with (Err (BufferTooShort needed)) 0 out) (sym written.bytes_are)

-- ---- 12

-- a pair that can be written is given by its canonical text
fine_given : (plan : Plan) (scripts : List ℕ) → Shaped plan → Fine plan scripts → GivenBoth plan scripts
fine_given plan scripts shaped fine =
    record {
      text = canonical_text plan scripts;
      bytes = text_bytes plan scripts;
      store = no_ops;
      reads = fine_back plan scripts no_ops shaped no_ops_long fine;
    }

-- and a pair that a text gives can be written
pub given_fine : (plan : Plan) (scripts : List ℕ) → GivenBoth plan scripts → Fine plan scripts
given_fine plan scripts given =
    let accepted = ap (λ (read : ReadOutcome). read.verdict) given.reads in
    subst (λ (read : ReadOutcome). Fine read.plan read.scripts) given.reads (read_fine given.text given.store accepted)

-- past 11 and 12 stands 17 alone
not_twelve : (short : Bool) (needed : ℕ) → when short (BufferTooShort needed) (Ok tt) ≡ Err ImpossiblePlan → ⊥
not_twelve true needed refused = let number : ◌≡◌ {A = ℕ} 17 12 = same_number (BufferTooShort needed) ImpossiblePlan refused in omega arith
not_twelve false needed refused = not_refused ImpossiblePlan (sym refused)

told :
    (plan : Plan) (scripts out : List ℕ)
    → Shaped plan
    → length scripts ≡ scripts_length
    → (GivenBoth plan scripts → ⊥)
    → (write_of plan scripts out).verdict ≡ Err ImpossiblePlan
unfolding write_verdict
told plan scripts out shaped store none = verdict_is plan scripts out ∙ go (writable plan scripts) refl
  where
    go : (test : Bool) → writable plan scripts ≡ test → write_verdict plan scripts (length out) ≡ Err ImpossiblePlan
    go true is = absurd (none (fine_given plan scripts shaped (fine_of plan scripts store is)))
    go false is = rw (eq-eqb (length scripts) scripts_length store, is) refl

only : (plan : Plan) (scripts out : List ℕ) → (write_of plan scripts out).verdict ≡ Err ImpossiblePlan → GivenBoth plan scripts → ⊥
unfolding write_verdict
only plan scripts out refused given =
    let fine = given_fine plan scripts given in
    let needed = length (canonical_text plan scripts) in
    not_twelve (ltb (length out) needed) needed
    (rw (eq-eqb (length scripts) scripts_length fine.store, fine_writable plan scripts fine) at (sym (verdict_is plan scripts out) ∙ refused))

pub twelve_told : TwelveTold
twelve_told plan scripts out shaped =
    record { told = λ store none. told plan scripts out shaped (omega (arith, store)) none; only = only plan scripts out }
