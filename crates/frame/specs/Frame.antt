-- Document 02, E1: what the frame maker (`make_frame`) answers. Assumes nothing.
use Rattle.std.specs.Prelude.{ℕ, Bool, true, false, not, ◌&&◌, List, eqb, leb, replicate, Ok, Err, Result}
use Rattle.plan.specs.Limits.{least_windows, most_domains, most_windows}
use Rattle.plan.specs.Sums.{all_below}
use Rattle.plan.specs.Validity.{within}
use Rattle.refusal.specs.declared.Refusal.TheVariants.{FrameOutOfLimits}
use Rattle.frame.specs.Limits.{most_weight}
use Rattle.frame.specs.Quotas.{entry_of, window_count}
use Rattle.frame.specs.Turns.{first_turns, zero_filled}
use Rattle.refusal.specs.Verdict.{Verdict}
use Rattle.refusal.specs.declared.Refusal.{Refusal}

-- every weight is within its limit; the least, 0, is the least number there is
unfoldable pub weights_within : List ℕ → Bool
weights_within weights = all_below (λ domain. leb (entry_of weights domain) most_weight) most_domains

-- every weight is 0
unfoldable pub weights_zero : List ℕ → Bool
weights_zero weights = all_below (λ domain. eqb (entry_of weights domain) 0) most_domains

-- what the maker takes: as many windows as a plan may have, weights within their limit, not all 0
unfoldable pub inputs_valid : ℕ → List ℕ → Bool
inputs_valid count weights =
    within least_windows most_windows count && weights_within weights && not (weights_zero weights)

-- the frame of valid inputs: the domain of each window, turn by turn, and 0 behind the last window.
-- No domain gets more than all windows, so that as many turns as windows lay all; a turn in which
-- nobody has a window left lays none.
unfoldable pub frame_of : ℕ → List ℕ → List ℕ
frame_of count weights = zero_filled most_windows (first_turns (window_count count weights) count)

-- what is answered: a verdict, and the domain of each window; beside a refusal all are 0
pub record FrameAnswer : Type 0 where
  pub verdict : Verdict
  pub frame : List ℕ

-- a verdict and a frame as one
abbrev pub frame_answer_with : Verdict → List ℕ → FrameAnswer
frame_answer_with verdict frame = record { verdict = verdict; frame = frame }

-- the answer: the frame, or 15 and zeros. There is no other refusal.
unfoldable pub frame_answer_of : ℕ → List ℕ → FrameAnswer
frame_answer_of count weights =
    elim (inputs_valid count weights) [
      | true ↦ frame_answer_with (Ok tt) (frame_of count weights)
      | false ↦ frame_answer_with (Err FrameOutOfLimits) (replicate most_windows 0)
    ]

-- an answer that is either the frame or the refusal
abbrev pub frame_answer : Result (List ℕ) Refusal → FrameAnswer
frame_answer (Ok frame) = frame_answer_with (Ok tt) frame
frame_answer (Err refusal) = frame_answer_with (Err refusal) (replicate most_windows 0)
