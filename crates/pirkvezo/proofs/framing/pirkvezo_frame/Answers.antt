-- `pirkvezo::framing::pirkvezo_frame` meets its contract. Assumes nothing.
use native.Mathlib.Omega.{arith}
use Prim.Native.Nat.{ℕ}
use mathlib.Core.Path.{◌≡◌, ap, sym, ◌∙◌}
use Rattle.std.specs.Prelude.{Ok, Err}
use lib.ListN.{length, replicate, length-take}
use lib.Seq.{length-take-le}
use Rattle.plan.specs.Limits.{most_windows}
use Rattle.frame.specs.Frame.{FrameAnswer, frame_answer}
use Rattle.frame.proofs.Making.{made_entries}
use Rattle.pirkvezo.proofs.Calls.{told}
use Rattle.pirkvezo.proofs.Frames.{frame_fit, frame_lengths, frame_unfit, written_whole}
use Rattle.pirkvezo.proofs.framing.pirkvezo_frame.Goals as goal

pub returns-then-not-weights-frame : goal.returns-then-not-weights-frame
returns-then-not-weights-frame c =
    let start = c.args in
    frame_unfit start.count start.weights.now start.frame.now start.answer.now _ _ c.if-not-weights-frame.true
    (told c.refuse_length.ensures)

pub copy_from_slice-requires : goal.copy_from_slice-requires
copy_from_slice-requires c =
    let start = c.args in
    let long = frame_lengths start.weights.now start.frame.now start.answer.now c.if-not-weights-frame.false in
    omega (arith, long.weights_are)

pub slice_bounds-copy_from_slice-end-in-Ok-2 : goal.slice_bounds-copy_from_slice-end-in-Ok-2
slice_bounds-copy_from_slice-end-in-Ok-2 c =
    let start = c.args in
    let long = frame_lengths start.weights.now start.frame.now start.answer.now c.if-not-weights-frame.false in
    sym (length-take-le _ start.frame.now (omega (arith, long.frame_is)))

pub copy_from_slice-requires-in-Ok : goal.copy_from_slice-requires-in-Ok
copy_from_slice-requires-in-Ok c =
    let start = c.args in
    let long = frame_lengths start.weights.now start.frame.now start.answer.now c.if-not-weights-frame.false in
    let made = ap frame_answer (sym c.in-Ok.is) ∙ c.make_frame.ensures in
    let full : length c.in-Ok.windows ≡ most_windows =
    ap (λ (frame_made : FrameAnswer). length frame_made.frame) made ∙ made_entries _ _ in
    simp length-take (omega (arith, full, long.frame_is))

pub returns-in-Ok : goal.returns-in-Ok
returns-in-Ok c =
    let start = c.args in
    let long = frame_lengths start.weights.now start.frame.now start.answer.now c.if-not-weights-frame.false in
    frame_fit start.count start.weights.now start.frame.now start.answer.now _ _ _ _ (frame_answer (Ok c.in-Ok.windows))
    c.if-not-weights-frame.false
    c.copy_from_slice.ensures.after
    (ap frame_answer (sym c.in-Ok.is) ∙ c.make_frame.ensures)
    (written_whole start.frame.now _ most_windows (omega (arith, long.frame_is)) ∙ c.copy_from_slice-in-Ok.ensures.after)
    (told c.put_answer.ensures)

pub returns-in-Err : goal.returns-in-Err
returns-in-Err c =
    let start = c.args in
    let long = frame_lengths start.weights.now start.frame.now start.answer.now c.if-not-weights-frame.false in
    frame_fit start.count start.weights.now start.frame.now start.answer.now _ _ _ _ (frame_answer (Err c.in-Err.refusal))
    c.if-not-weights-frame.false
    c.copy_from_slice.ensures.after
    (ap frame_answer (sym c.in-Err.is) ∙ c.make_frame.ensures)
    (c.fill.ensures.after (λ number is. is) ∙ ap (λ (size : ℕ). replicate size 0) long.frame_is)
    (told c.refuse.ensures)
