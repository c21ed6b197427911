-- `pirkvezo_frame`: document 02's frame by weights (E1), in numbers: what it returns and leaves,
-- for every input. 11 is the C function's; the maker itself knows only 15. Assumes nothing.
use Rattle.std.specs.Prelude.{ℕ, Bool, true, false, ◌&&◌, List, eqb, length}
use Rattle.frame.specs.Frame.{FrameAnswer}
use Rattle.frame.specs.Frame.{frame_answer_of}
use Rattle.plan.specs.Limits.{most_domains, most_windows}
use Rattle.pirkvezo.specs.Answers.{answer_length, answer_of, verdict_number, wrong_length}

-- the number returned, and the buffers after the call
pub record FrameCall : Type 0 where
  pub number : ℕ
  pub frame : List ℕ
  pub answer : List ℕ

-- these as one
abbrev pub host_frame_with : ℕ → List ℕ → List ℕ → FrameCall
host_frame_with number frame answer = record { number = number; frame = frame; answer = answer }

-- the lengths that it asks for, before all else: a weight for each domain, an entry for each window
abbrev pub frame_fits : List ℕ → List ℕ → List ℕ → Bool
frame_fits weights frame answer =
    eqb (length weights) most_domains
    && (eqb (length frame) most_windows && eqb (length answer) answer_length)

-- what the maker answers: its frame, which is zeros beside 15, is written whole. The answer's third
-- and fourth number are 0.
unfoldable pub frame_done : FrameAnswer → List ℕ → FrameCall
frame_done made answer =
    host_frame_with (verdict_number made.verdict) made.frame (answer_of made.verdict 0 0 answer)

-- the call: a wrong length leaves the frame as it was lent, as in every call; then the maker's answer
unfoldable pub host_frame : ℕ → List ℕ → List ℕ → List ℕ → FrameCall
host_frame count weights frame answer =
    elim (frame_fits weights frame answer) [
      | false ↦ host_frame_with (verdict_number wrong_length) frame (answer_of wrong_length 0 0 answer)
      | true ↦ frame_done (frame_answer_of count weights) answer
    ]
