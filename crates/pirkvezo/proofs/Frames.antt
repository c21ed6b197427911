-- What a call for a frame leaves, from what its parts give. Assumes nothing.
use Rattle.std.specs.Prelude.{Ok, Err}
use mathlib.Core.Path.{◌≡◌, refl, sym, ap, subst, ◌∙◌}
use mathlib.Core.Bool.{Bool, true, false, and-eq-true_iff}
use mathlib.Core.List.{List, [], ◌++◌, append-nil}
use mathlib.Core.Logic.{◌⊎◌, inl, inr}
use Prim.Native.Nat.{ℕ, ◌≤◌}
use native.Mathlib.Omega.{arith}
use lib.Dec.{eqb}
use lib.ListN.{drop, length, replicate, length-drop}
use borrow.Author.Tests.{eqb-true}
use Rattle.std.proofs.lemmas.List.{nil_from_length}
use Rattle.frame.specs.Frame.{FrameAnswer}
use Rattle.frame.specs.Frame.{frame_answer_of, frame_of, inputs_valid}
use Rattle.frame.specs.Theorems.{FrameByWeights}
use Rattle.frame.proofs.Making.{made_refused, made_valid}
use Rattle.frame.proofs.Promises.{frames_by_weights}
use Rattle.frame.proofs.Taken.{limits_valid, valid_limits}
use Rattle.plan.specs.Limits.{most_domains, most_windows}
use Rattle.refusal.specs.declared.Refusal.TheVariants.{FrameOutOfLimits}
use Rattle.pirkvezo.specs.Answers.{answer_length, answer_of, wrong_length}
use Rattle.pirkvezo.specs.Framing.{FrameCall, frame_done, frame_fits, host_frame, host_frame_with}
use Rattle.pirkvezo.specs.Theorems.{FrameAcceptedExactly, FrameKeepsPromises, RefusedFrameLeaves}
use Rattle.pirkvezo.proofs.Calls.{Told}

pub record FrameLengths (weights frame answer : List ℕ) : Type 0 where
  pub weights_are : length weights ≡ most_domains
  pub frame_is : length frame ≡ most_windows
  pub answer_is : length answer ≡ answer_length

pub frame_lengths :
    (weights frame answer : List ℕ)
    → frame_fits weights frame answer ≡ true
    → FrameLengths weights frame answer
frame_lengths weights frame answer fit =
    let first = (and-eq-true_iff (eqb (length weights) most_domains) _).0 fit in
    let second = (and-eq-true_iff (eqb (length frame) most_windows) _).0 first.1 in
    record { weights_are = eqb-true _ _ first.0; frame_is = eqb-true _ _ second.0; answer_is = eqb-true _ _ second.1 }

-- a list that is rewritten from its front is all rewritten where no number stands behind
pub written_whole : (old written : List ℕ) (count : ℕ) → length old ≤ count → written ++ drop count old ≡ written
written_whole old written count whole =
    let none : drop count old ≡ [] = nil_from_length (drop count old) (simp length-drop (omega arith)) in
    rw none (append-nil written)

module _ (count : ℕ) (weights frame answer : List ℕ) (number : ℕ) (written : List ℕ) where
  pub frame_unfit :
      frame_fits weights frame answer ≡ false
      → Told wrong_length 0 0 answer number written
      → host_frame_with number frame written ≡ host_frame count weights frame answer
  unfolding host_frame
  frame_unfit unfit tells = rw (unfit, host_frame, tells.number_is, tells.answer_is) refl

  pub frame_fit :
      (handed stored : List ℕ) (made : FrameAnswer)
      → frame_fits weights frame answer ≡ true
      → handed ≡ weights
      → made ≡ frame_answer_of count handed
      → stored ≡ made.frame
      → Told made.verdict 0 0 answer number written
      → host_frame_with number stored written ≡ host_frame count weights frame answer
  unfolding host_frame frame_done
  frame_fit handed stored made fit handed-is made-is stored_is tells =
      let all : made ≡ frame_answer_of count weights = made-is ∙ ap (frame_answer_of count) handed-is in
      rw (fit, host_frame, tells.number_is, tells.answer_is, stored_is) (ap (λ (frame_made : FrameAnswer). frame_done frame_made answer) all)

-- ---- accepted and refused calls

module _ (count : ℕ) (weights frame answer : List ℕ) where
  unfit_call : frame_fits weights frame answer ≡ false
      → host_frame count weights frame answer ≡ host_frame_with 11 frame (answer_of wrong_length 0 0 answer)
  unfolding host_frame
  unfit_call unfit = rw (unfit, host_frame)

  fit_call :
      frame_fits weights frame answer ≡ true
      → host_frame count weights frame answer ≡ frame_done (frame_answer_of count weights) answer
  unfolding host_frame
  fit_call fit = rw (fit, host_frame)

  -- the maker's two answers
  refused_call : frame_fits weights frame answer ≡ true → inputs_valid count weights ≡ false
      → host_frame count weights frame answer
      ≡ host_frame_with 15 (replicate most_windows 0) (answer_of (Err FrameOutOfLimits) 0 0 answer)
  unfolding frame_done
  refused_call fit invalid =
      fit_call fit ∙ ap (λ (made : FrameAnswer). frame_done made answer) (sym (made_refused count weights invalid))

  made_call : frame_fits weights frame answer ≡ true → inputs_valid count weights ≡ true
      → host_frame count weights frame answer ≡ host_frame_with 0 (frame_of count weights) (answer_of (Ok tt) 0 0 answer)
  unfolding frame_done
  made_call fit valid = fit_call fit ∙ ap (λ (made : FrameAnswer). frame_done made answer) (made_valid count weights valid)

  -- which of the three calls it is
  data CallIs : Type 0 where
    unfit : frame_fits weights frame answer ≡ false → CallIs
    refused : frame_fits weights frame answer ≡ true → inputs_valid count weights ≡ false → CallIs
    accepted : frame_fits weights frame answer ≡ true → inputs_valid count weights ≡ true → CallIs

  call_is : CallIs
  call_is = go (frame_fits weights frame answer) refl (inputs_valid count weights) refl
    where
      go :
          (fits : Bool)
          → frame_fits weights frame answer ≡ fits
          → (valid : Bool)
          → inputs_valid count weights ≡ valid
          → CallIs
      go false f valid v = unfit f
      go true f false v = refused f v
      go true f true v = accepted f v

  number_of :
      {call : FrameCall}
      → host_frame count weights frame answer ≡ call
      → (host_frame count weights frame answer).number ≡ call.number
  number_of is = ap (λ (done : FrameCall). done.number) is

  frame_of_lem :
      {call : FrameCall}
      → host_frame count weights frame answer ≡ call
      → (host_frame count weights frame answer).frame ≡ call.frame
  frame_of_lem is = ap (λ (done : FrameCall). done.frame) is

  accepted_says : (host_frame count weights frame answer).number ≡ 0
      → (frame_fits weights frame answer ≡ true) × (inputs_valid count weights ≡ true)
  accepted_says none = go call_is
    where
      go : CallIs → (frame_fits weights frame answer ≡ true) × (inputs_valid count weights ≡ true)
      go (unfit f) = let number : ◌≡◌ {A = ℕ} 11 0 = sym (number_of (unfit_call f)) ∙ none in absurd (omega arith)
      go (refused f v) = let number : ◌≡◌ {A = ℕ} 15 0 = sym (number_of (refused_call f v)) ∙ none in absurd (omega arith)
      go (accepted f v) = (f, v)

  refused_leaves : ((host_frame count weights frame answer).number ≡ 0 → ⊥)
      → (((host_frame count weights frame answer).number ≡ 11) × ((host_frame count weights frame answer).frame ≡ frame))
      ⊎ (((host_frame count weights frame answer).number ≡ 15) × ((host_frame count weights frame answer).frame ≡ replicate most_windows 0))
  refused_leaves some = go call_is
    where
      go : CallIs
          → (((host_frame count weights frame answer).number ≡ 11) × ((host_frame count weights frame answer).frame ≡ frame))
          ⊎ (((host_frame count weights frame answer).number ≡ 15) × ((host_frame count weights frame answer).frame ≡ replicate most_windows 0))
      go (unfit f) = inl (number_of (unfit_call f), frame_of_lem (unfit_call f))
      go (refused f v) = inr (number_of (refused_call f v), frame_of_lem (refused_call f v))
      go (accepted f v) = absurd (some (number_of (made_call f v)))

pub frame_accepted_exactly : FrameAcceptedExactly
frame_accepted_exactly count weights frame answer = (
  λ none. let both = accepted_says count weights frame answer none in (both.0, valid_limits count weights both.1),
  λ both. number_of count weights frame answer (made_call count weights frame answer both.0 (limits_valid count weights both.1)),
)

pub frame_keeps_promises : FrameKeepsPromises
frame_keeps_promises count weights frame answer none =
    let both = accepted_says count weights frame answer none in
    subst (FrameByWeights count weights) (sym (frame_of_lem count weights frame answer (made_call count weights frame answer both.0 both.1)))
    (frames_by_weights count weights (valid_limits count weights both.1))

pub refused_frame_leaves : RefusedFrameLeaves
refused_frame_leaves = refused_leaves
