-- The frames worked out by hand are those that the definitions give, by computing. Assumes nothing.
use mathlib.Core.Path.{refl}
use Rattle.plan.specs.Sums.{all_below, sum_to}
use Rattle.frame.specs.Examples.{FrameExamples}
use Rattle.frame.specs.Frame.{frame_of, inputs_valid, frame_answer_of, weights_within, weights_zero}
use Rattle.frame.specs.Quotas.{count_below, gets_one_more, leftover, rank, remainder_of}
use Rattle.frame.specs.Quotas.{total_weight, whole_part, window_count}
use Rattle.frame.specs.Turns.{turn_windows, first_turns, zero_filled}

pub frame_examples : FrameExamples
unfolding frame_answer_of frame_of inputs_valid weights_within weights_zero all_below sum_to
    count_below rank gets_one_more leftover remainder_of total_weight whole_part window_count
    turn_windows first_turns zero_filled
frame_examples =
    record {
      whole = refl;
      halves = refl;
      higher = refl;
      apart = refl;
      large = refl;
      least = refl;
      most = refl;
      no_window = refl;
      too_many = refl;
      too_heavy = refl;
      no_weight = refl;
    }
