-- `plan::timing::window_start` meets its contract. Assumes nothing.
use mathlib.Core.Path.{◌∙◌, ap₂}
use Prim.Native.Nat.{◌*◌, ◌+◌, ◌/◌, ℕ}
use native.Mathlib.Omega.{arith}
use Rattle.plan.proofs.ValidPlans.{counts, declared_window}
use Rattle.plan.proofs.Windows.{slot_below, start_fits, start_repeats}
use Rattle.plan.proofs.timing.window_start.Goals as goal

pub nonzero_rem-slot : goal.nonzero_rem-slot
nonzero_rem-slot c = (counts _ c.requires.0).windows_least

pub padded_lengths-before-requires : goal.padded_lengths-before-requires
padded_lengths-before-requires c =
    let start = c in
    let slot = slot_below _ start.args.window start.requires.0 in
    let count = counts _ start.requires.0 in
    (omega arith, count.pad_most, λ index below. (declared_window _ index start.requires.0 (omega arith)).length_most)

pub padded_lengths-frame-requires : goal.padded_lengths-frame-requires
padded_lengths-frame-requires c =
    let start = c in
    let count = counts _ start.requires.0 in
    (count.windows_most, count.pad_most, λ index below. (declared_window _ index start.requires.0 below).length_most)

pub nonzero_div-repeats : goal.nonzero_div-repeats
nonzero_div-repeats c = (counts _ c.requires.0).windows_least

pub returns : goal.returns
returns c =
    let start = c in
    let repeats = start.args.window / start.args.plan.windows in
    ap₂ (λ (a b : ℕ). repeats * a + b) c.padded_lengths-frame.ensures c.padded_lengths-before.ensures
    ∙ start_repeats _ start.args.window start.requires.0

pub overflow_mul-result : goal.overflow_mul-result
overflow_mul-result c = omega (arith, returns c, start_fits _ c.args.window c.requires.0 c.requires.1)

pub overflow_add-result : goal.overflow_add-result
overflow_add-result c = omega (arith, returns c, start_fits _ c.args.window c.requires.0 c.requires.1)
