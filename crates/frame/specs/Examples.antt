-- Document 02, E1: frames worked out by hand, and what is refused. Assumes nothing.
use Rattle.std.specs.Prelude.{ℕ, List, [], ◌∷◌, ◌≡◌, replicate, Ok, Err}
use Rattle.plan.specs.Limits.{most_windows}
use Rattle.refusal.specs.declared.Refusal.TheVariants.{FrameOutOfLimits}
use Rattle.frame.specs.Frame.{frame_answer_of, frame_answer_with}
use Rattle.frame.specs.Turns.{zero_filled}

-- the frame with these windows is made
abbrev Makes : ℕ → List ℕ → List ℕ → Type 0
Makes count weights windows =
    frame_answer_of count weights ≡ frame_answer_with (Ok tt) (zero_filled most_windows windows)

-- no frame is made
abbrev Refuses : ℕ → List ℕ → Type 0
Refuses count weights =
    frame_answer_of count weights
    ≡ frame_answer_with (Err FrameOutOfLimits) (replicate most_windows 0)

pub record FrameExamples : Type 0 where
  -- quotas 3, 2, 2: whole numbers
  pub whole : Makes 7 (3 ∷ 2 ∷ 2 ∷ 0 ∷ 0 ∷ 0 ∷ 0 ∷ 0 ∷ []) (0 ∷ 1 ∷ 2 ∷ 0 ∷ 1 ∷ 2 ∷ 0 ∷ [])
  -- quotas of 1/2 for four: equal remainders, and the two lower numbers get the two windows
  pub halves : Makes 2 (1 ∷ 1 ∷ 1 ∷ 1 ∷ 0 ∷ 0 ∷ 0 ∷ 0 ∷ []) (0 ∷ 1 ∷ [])
  -- quotas 1.2 and 1.8: the larger remainder, although its number is higher
  pub higher : Makes 3 (2 ∷ 3 ∷ 0 ∷ 0 ∷ 0 ∷ 0 ∷ 0 ∷ 0 ∷ []) (0 ∷ 1 ∷ 1 ∷ [])
  -- quotas 4.375 and 0.625: a turn without domain 7 once it has no window left
  pub apart : Makes 5 (0 ∷ 0 ∷ 7 ∷ 0 ∷ 0 ∷ 0 ∷ 0 ∷ 1 ∷ []) (2 ∷ 7 ∷ 2 ∷ 2 ∷ 2 ∷ [])
  -- quotas 5.988 and twice 0.006: the leftover window is domain 2's too
  pub large : Makes 6 (1 ∷ 1 ∷ 1_000 ∷ 0 ∷ 0 ∷ 0 ∷ 0 ∷ 0 ∷ []) (2 ∷ 2 ∷ 2 ∷ 2 ∷ 2 ∷ 2 ∷ [])
  -- as few windows as there may be, by the greatest weight, and as many
  pub least : Makes 1 (0 ∷ 0 ∷ 0 ∷ 0 ∷ 0 ∷ 0 ∷ 0 ∷ 1_000 ∷ []) (7 ∷ [])
  pub most : Makes 32 (0 ∷ 0 ∷ 0 ∷ 0 ∷ 0 ∷ 0 ∷ 0 ∷ 1 ∷ []) (replicate most_windows 7)
  -- refused: no window, a window too many, a weight too large, no weight
  pub no_window : Refuses 0 (1 ∷ 0 ∷ 0 ∷ 0 ∷ 0 ∷ 0 ∷ 0 ∷ 0 ∷ [])
  pub too_many : Refuses 33 (1 ∷ 0 ∷ 0 ∷ 0 ∷ 0 ∷ 0 ∷ 0 ∷ 0 ∷ [])
  pub too_heavy : Refuses 1 (1 ∷ 0 ∷ 0 ∷ 0 ∷ 0 ∷ 0 ∷ 0 ∷ 1_001 ∷ [])
  pub no_weight : Refuses 1 (0 ∷ 0 ∷ 0 ∷ 0 ∷ 0 ∷ 0 ∷ 0 ∷ 0 ∷ [])
