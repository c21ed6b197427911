-- What the maker answers: refused, and from the windows that were worked out. Assumes nothing.
use Rattle.std.specs.Prelude.{Ok, Err}
use Prim.Native.Nat.{ℕ, ◌≤◌, ◌<◌}
use mathlib.Core.Bool.{Bool, true, false}
use mathlib.Core.List.{List}
use mathlib.Core.Path.{◌≡◌, refl, sym, ap, ◌∙◌}
use lib.ListN.{length, length-replicate, replicate}
use Rattle.plan.specs.Limits.{most_domains, most_windows}
use Rattle.refusal.specs.declared.Refusal.TheVariants.{FrameOutOfLimits}
use Rattle.frame.specs.Frame.{frame_of, inputs_valid, frame_answer_of, frame_answer_with}
use Rattle.frame.specs.Quotas.{entry_of, window_count}
use Rattle.frame.specs.Turns.{first_turns, zero_filled}
use Rattle.frame.specs.Theorems.{FramesMade, WithinLimits}
use Rattle.frame.proofs.LaidTurns.{turns_same}
use Rattle.frame.proofs.Promises.{frames_by_weights, laid_fits}
use Rattle.frame.proofs.Taken.{limits_valid, taken, valid_limits}

pub made_refused : (count : ℕ) (weights : List ℕ) → inputs_valid count weights ≡ false
    → frame_answer_with (Err FrameOutOfLimits) (replicate most_windows 0) ≡ frame_answer_of count weights
unfolding frame_answer_of
made_refused count weights invalid = rw (invalid, frame_answer_of)

pub made_valid : (count : ℕ) (weights : List ℕ) → inputs_valid count weights ≡ true
    → frame_answer_of count weights ≡ frame_answer_with (Ok tt) (frame_of count weights)
unfolding frame_answer_of
made_valid count weights valid = rw (valid, frame_answer_of)

module _ (count : ℕ) (weights windows : List ℕ) (valid : inputs_valid count weights ≡ true)
    (worked : (domain : ℕ) → domain < most_domains → entry_of windows domain ≡ window_count count weights domain) where
  laid_same : first_turns (entry_of windows) count ≡ first_turns (window_count count weights) count
  laid_same = turns_same (entry_of windows) (window_count count weights) count worked

  pub made_fits : length (first_turns (entry_of windows) count) ≤ most_windows
  made_fits = rw laid_same (laid_fits count weights (taken count weights valid))

  pub made_frame : (frame : List ℕ)
      → frame ≡ zero_filled most_windows (first_turns (entry_of windows) count)
      → frame_answer_with (Ok tt) frame ≡ frame_answer_of count weights
  unfolding frame_of
  made_frame frame is =
      ap (frame_answer_with (Ok tt)) (is ∙ ap (zero_filled most_windows) laid_same) ∙ sym (made_valid count weights valid)

-- it always answers as many numbers
pub made_entries :
    (count : ℕ) (weights : List ℕ)
    → length (frame_answer_of count weights).frame ≡ most_windows
made_entries count weights = go (inputs_valid count weights) refl
  where
    go :
        (b : Bool)
        → inputs_valid count weights ≡ b
        → length (frame_answer_of count weights).frame ≡ most_windows
    go true valid = rw (made_valid count weights valid) (frames_by_weights count weights (valid_limits count weights valid)).entries
    go false invalid = rw (← (made_refused count weights invalid)) (length-replicate {A = ℕ} most_windows 0)

-- a frame is made within the limits, and nowhere else
pub frames_made : FramesMade
frames_made count weights =
    record {
      made = λ limits. made_valid count weights (limits_valid count weights limits);
      refused = λ beyond. sym (made_refused count weights (invalid beyond (inputs_valid count weights) refl));
    }
  where
    invalid :
        (WithinLimits count weights → ⊥)
        → (b : Bool)
        → inputs_valid count weights ≡ b
        → b ≡ false
    invalid beyond true valid = absurd (beyond (valid_limits count weights valid))
    invalid beyond false valid = refl
