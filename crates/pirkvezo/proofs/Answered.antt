-- The four numbers of an answer, once they are written. Assumes nothing.
use mathlib.Core.Path.{◌≡◌, refl, ap, ◌∙◌}
use mathlib.Core.List.{List}
use Prim.Native.Nat.{ℕ}
use lib.ListN.{length}
use lib.Seq.{sets}
use borrow.Author.Tests.{eq-eqb, ne_eqb}
use Rattle.refusal.specs.declared.Code.{Code}
use Rattle.refusal.specs.Code.{code_of}
use Rattle.pirkvezo.specs.Answers.{answer_length, answer_numbers, answer_of}
use Rattle.pirkvezo.proofs.Runs.{whole_stored}
use Rattle.refusal.specs.Verdict.{Verdict}

module _ (answer : List ℕ) (verdict : Verdict) (third fourth : ℕ) where
  -- an answer of four places is written
  pub answer_written :
      (code : Code)
      → code ≡ code_of verdict
      → length answer ≡ answer_length
      → sets answer 0 (answer_numbers code third fourth) ≡ answer_of verdict third fourth answer
  unfolding answer_of
  answer_written code judged long =
      rw (eq-eqb _ _ long)
      (whole_stored answer (answer_numbers code third fourth) long ∙ ap (λ (told : Code). answer_numbers told third fourth) judged)

  -- another is left
  pub answer_left : (length answer ≡ answer_length → ⊥) → answer ≡ answer_of verdict third fourth answer
  unfolding answer_of
  answer_left other = rw (ne_eqb _ _ other) refl
