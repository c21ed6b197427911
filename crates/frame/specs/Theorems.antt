-- Document 02, E1: when a frame is made, and what it promises the planners who get it, said of its
-- numbers and not of how they were laid. Assumes nothing.
use Rattle.std.specs.Prelude.{ℕ, ◌+◌, ◌<◌, ◌≤◌, true, cond, List, [], ◌∷◌, ◌≡◌, eqb, get_or, length, replicate, take, Ok, Err}
use Rattle.plan.specs.Limits.{least_windows, most_domains, most_windows}
use Rattle.plan.specs.Sums.{sum_to}
use Rattle.refusal.specs.declared.Refusal.TheVariants.{FrameOutOfLimits}
use Rattle.frame.specs.Frame.{frame_answer_of, frame_answer_with, frame_of}
use Rattle.frame.specs.Limits.{most_weight}
use Rattle.frame.specs.Quotas.{entry_of, is_ahead, remainder_of, whole_part}

-- ---- when a frame is made

-- count and weights within the limits of E1: as many windows as a plan may have, no weight over its
-- limit, and one that is not 0
pub record WithinLimits (count : ℕ) (weights : List ℕ) : Type 0 where
  pub least : least_windows ≤ count
  pub most : count ≤ most_windows
  pub light : (domain : ℕ) → domain < most_domains → entry_of weights domain ≤ most_weight
  pub not_all_zero : ((domain : ℕ) → domain < most_domains → entry_of weights domain ≡ 0) → ⊥

-- within the limits the maker gives the frame, and otherwise 15 and zeros: it has no other refusal
pub record MadeExactly (count : ℕ) (weights : List ℕ) : Type 0 where
  pub made :
      WithinLimits count weights
      → frame_answer_of count weights ≡ frame_answer_with (Ok tt) (frame_of count weights)
  pub refused :
      (WithinLimits count weights → ⊥)
      → frame_answer_of count weights
      ≡ frame_answer_with (Err FrameOutOfLimits) (replicate most_windows 0)

abbrev pub FramesMade : Type 0
FramesMade = (count : ℕ) (weights : List ℕ) → MadeExactly count weights

-- ---- what it promises

-- how often a number stands in a list
unfoldable pub occurrences : ℕ → List ℕ → ℕ
occurrences number [] = 0
occurrences number (first ∷ rest) = cond (eqb first number) 1 0 + occurrences number rest

-- how many of the first `count` windows of a frame are a domain's
abbrev pub windows_in : ℕ → List ℕ → ℕ → ℕ
windows_in count frame domain = occurrences domain (take count frame)

-- the turn of a window: how often its domain stood before it
abbrev pub turn_at : List ℕ → ℕ → ℕ
turn_at frame index = occurrences (get_or frame index 0) (take index frame)

-- one pair of numbers is less than another: by the first, or the first are equal and by the second
pub data LexicographicLess (first second other_first other_second : ℕ) : Type 0 where
  by_first : first < other_first → LexicographicLess first second other_first other_second
  by_second :
      first ≡ other_first
      → second < other_second
      → LexicographicLess first second other_first other_second

-- a frame of `count` windows by weights. Each promise is said by itself, also where it follows from
-- others (`of_domains`, `none_for_zero`, `all_given`).
pub record FrameByWeights (count : ℕ) (weights frame : List ℕ) : Type 0 where
  -- it has an entry for each window that a plan may have, and those behind the last window hold 0
  pub entries : length frame ≡ most_windows
  pub zeros_behind : (index : ℕ) → count ≤ index → get_or frame index 0 ≡ 0
  -- each window is a domain's
  pub of_domains : (index : ℕ) → index < count → get_or frame index 0 < most_domains
  -- a domain gets its quota's whole part, or one more
  pub at_least :
      (domain : ℕ)
      → domain < most_domains
      → whole_part count weights domain ≤ windows_in count frame domain
  pub at_most :
      (domain : ℕ)
      → domain < most_domains
      → windows_in count frame domain ≤ whole_part count weights domain + 1
  -- weight 0 gets none
  pub none_for_zero :
      (domain : ℕ)
      → domain < most_domains
      → entry_of weights domain ≡ 0
      → windows_in count frame domain ≡ 0
  -- the windows of all domains add to the number asked for
  pub all_given : sum_to (windows_in count frame) most_domains ≡ count
  -- whoever got one more is ahead of whoever did not
  pub by_remainder :
      (domain other : ℕ)
      → domain < most_domains
      → other < most_domains
      → windows_in count frame domain ≡ whole_part count weights domain + 1
      → windows_in count frame other ≡ whole_part count weights other
      → is_ahead (remainder_of count weights) domain other ≡ true
  -- along the frame the turns rise, and within a turn the domains' numbers
  pub in_turns :
      (earlier later : ℕ)
      → earlier < later
      → later < count
      → LexicographicLess (turn_at frame earlier) (get_or frame earlier 0) (turn_at frame later)
      (get_or frame later 0)

-- every frame that the maker gives keeps these promises
abbrev pub FramesByWeights : Type 0
FramesByWeights =
    (count : ℕ) (weights : List ℕ)
    → WithinLimits count weights
    → FrameByWeights count weights (frame_of count weights)

-- and no other does: within the limits they leave one frame
abbrev pub FramesUnique : Type 0
FramesUnique =
    (count : ℕ) (weights frame : List ℕ)
    → WithinLimits count weights
    → FrameByWeights count weights frame
    → frame ≡ frame_of count weights
