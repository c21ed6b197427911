-- What a call for a canonical text leaves, from what its parts give. Assumes nothing.
use Rattle.std.specs.Prelude.{Ok, Err}
use mathlib.Core.Path.{◌≡◌, refl, ap, ◌∙◌}
use mathlib.Core.Bool.{Bool, true, false}
use mathlib.Core.List.{List}
use Prim.Native.Nat.{ℕ}
use lib.ListN.{length}
use Rattle.plan.specs.declared.Plan.{Plan}
use Rattle.writer.specs.Canonical.{canonical_text}
use Rattle.writer.specs.Write.{WriteOutcome, write_from, write_of, write_verdict, write_with}
use Rattle.writer.proofs.Answers.{impossible_alike}
use Rattle.pirkvezo.specs.Answers.{answer_of, plan_fits, wrong_length}
use Rattle.pirkvezo.specs.Numbers.{handed_plan, plan_of}
use Rattle.pirkvezo.specs.Theorems.{RefusedWriteKeeps}
use Rattle.pirkvezo.specs.Writing.{WriteCall, host_write, host_write_with, write_done}
use Rattle.pirkvezo.proofs.Calls.{Told}
use Rattle.pirkvezo.proofs.Judged.{handed}
use Rattle.refusal.specs.Verdict.{Verdict}

module _ (plan scripts out answer : List ℕ) (number : ℕ) (told : List ℕ) where
  pub write_unfit : plan_fits plan answer ≡ false → Told wrong_length 0 0 answer number told → host_write_with number out told ≡ host_write plan scripts out answer
  unfolding host_write
  write_unfit unfit tells = rw (unfit, host_write, tells.number_is, tells.answer_is) refl

  pub write_fit :
      (lent : Plan) (verdict : Verdict) (bytes : ℕ) (after : List ℕ)
      → plan_fits plan answer ≡ true
      → lent ≡ handed_plan plan
      → write_with verdict bytes after ≡ write_of lent scripts out
      → Told verdict bytes 0 answer number told
      → host_write_with number after told ≡ host_write plan scripts out answer
  unfolding host_write write_done
  write_fit lent verdict bytes after fit planned did tells =
      let done : write_with verdict bytes after ≡ write_of (plan_of plan) scripts out =
      did
      ∙ ap (λ (p : Plan). write_of p scripts out) planned
      ∙ handed (λ p. write_of p scripts out) (impossible_alike scripts out) plan in
      rw (fit, host_write, tells.number_is, tells.answer_is) (ap (λ (written : WriteOutcome). write_done written answer) done)

-- ---- a refused writing

write_judged :
    (text out answer : List ℕ) (verdict : Verdict)
    → ((write_done (write_from verdict text out) answer).number ≡ 0 → ⊥)
    → (write_done (write_from verdict text out) answer).out ≡ out
unfolding write_done
write_judged text out answer (Ok tt) refused = absurd (refused refl)
write_judged text out answer (Err refusal) refused = refl

pub write_kept : RefusedWriteKeeps
unfolding host_write write_of
write_kept plan scripts out answer refused = go (plan_fits plan answer) refl
  where
    go : (fit : Bool) → plan_fits plan answer ≡ fit → (host_write plan scripts out answer).out ≡ out
    go false e = ap (λ (call : WriteCall). call.out) (unfit e)
      where
        unfit : plan_fits plan answer ≡ false → host_write plan scripts out answer ≡ host_write_with 11 out (answer_of wrong_length 0 0 answer)
        unfit e = rw (e, host_write) refl
    go true e =
        let verdict = write_verdict (plan_of plan) scripts (length out) in
        let text = canonical_text (plan_of plan) scripts in
        let fits : host_write plan scripts out answer ≡ write_done (write_from verdict text out) answer = rw (e, host_write) refl in
        ap (λ (call : WriteCall). call.out) fits
        ∙ write_judged text out answer verdict (λ none. refused (ap (λ (call : WriteCall). call.number) fits ∙ none))
