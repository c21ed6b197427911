-- The windows of a valid plan: their owners and lengths, and their starts in closed form. Assumes nothing.
use mathlib.Core.Path.{◌≡◌, sym, ap, ◌∙◌}
use mathlib.Core.Bool.{true}
use Prim.Native.Nat.{ℕ, zero, suc, ◌+◌, ◌*◌, ◌-◌, ◌/◌, ◌%◌, ◌≤◌, ◌<◌}
use native.Mathlib.Nat.{add-suc, add-zero, div-add-mod', mod-lt, mod-eq_of_lt, mul-add-mod_self_right, suc-mul, zero-mul}
use native.Mathlib.Omega.{arith}
use lib.ListN.{get_or}
use Rattle.plan.specs.declared.Plan.{Plan}
use Rattle.plan.specs.Validity.{plan_valid}
use Rattle.plan.specs.Sums.{sum_to}
use Rattle.plan.specs.Windows.{window_length, window_owner, padded_length, slot_of, window_start, ticks_total, windows_total}
use Rattle.plan.specs.Limits.{least_pad, most_domains, most_length, most_pad, most_run_ticks}
use Rattle.plan.proofs.ValidPlans.{counts, declared_window, parts}
use Rattle.plan.proofs.Sums.{sum_most}

pub pad_least : (plan : Plan) → plan_valid plan ≡ true → least_pad ≤ plan.pad
pad_least plan valid = (counts plan valid).pad_least

pub domains_most : (plan : Plan) → plan_valid plan ≡ true → plan.domains ≤ most_domains
domains_most plan valid = (counts plan valid).domains_most

-- a window's slot is a declared one
pub slot_below : (plan : Plan) (window : ℕ) → plan_valid plan ≡ true → slot_of plan window < plan.windows
slot_below plan window valid = mod-lt window (counts plan valid).windows_least

-- every window is a declared domain's, of at least one tick
pub owner_declared : (plan : Plan) (window : ℕ) → plan_valid plan ≡ true → window_owner plan window < plan.domains
unfolding window_owner
owner_declared plan window valid = (declared_window plan (slot_of plan window) valid (slot_below plan window valid)).owner

pub length_least : (plan : Plan) (window : ℕ) → plan_valid plan ≡ true → 1 ≤ window_length plan window
unfolding window_length
length_least plan window valid = (declared_window plan (slot_of plan window) valid (slot_below plan window valid)).length_least

pub length_most : (plan : Plan) (window : ℕ) → plan_valid plan ≡ true → window_length plan window ≤ most_length
unfolding window_length
length_most plan window valid = (declared_window plan (slot_of plan window) valid (slot_below plan window valid)).length_most

-- the ticks of the declared windows with their pads, once through
pub frame : Plan → ℕ
frame plan = sum_to (padded_length plan) plan.windows

-- within a repeat, a window starts after those before it
start_within :
    (plan : Plan) (repeat slot : ℕ)
    → slot ≤ plan.windows
    → window_start plan (repeat * plan.windows) ≡ repeat * frame plan
    → window_start plan (repeat * plan.windows + slot) ≡ repeat * frame plan + sum_to (padded_length plan) slot
unfolding window_start window_length sum_to
start_within plan repeat zero within first = ap (window_start plan) (add-zero (repeat * plan.windows)) ∙ first ∙ sym (add-zero (repeat * frame plan))
start_within plan repeat (suc slot) within first =
    let before = start_within plan repeat slot (omega arith) first in
    let index : (repeat * plan.windows + slot) % plan.windows ≡ slot =
    mul-add-mod_self_right repeat plan.windows slot ∙ mod-eq_of_lt (omega arith) in
    let next : window_start plan (suc (repeat * plan.windows + slot)) ≡ repeat * frame plan + (sum_to (padded_length plan) slot + padded_length plan slot) =
    rw (before, index) (omega arith) in
    ap (window_start plan) (add-suc (repeat * plan.windows) slot) ∙ next

-- a repeat starts after the repeats before it
start_repeat : (plan : Plan) (repeat : ℕ) → window_start plan (repeat * plan.windows) ≡ repeat * frame plan
unfolding window_start frame
start_repeat plan zero = ap (window_start plan) (zero-mul plan.windows) ∙ sym (zero-mul (frame plan))
start_repeat plan (suc repeat) =
    ap (window_start plan) (suc-mul repeat plan.windows)
    ∙ start_within plan repeat plan.windows (omega arith) (start_repeat plan repeat)
    ∙ sym (suc-mul repeat (frame plan))

-- a window's start in closed form: whole repeats, and the windows of this repeat before it
pub start_closed :
    (plan : Plan) (window : ℕ)
    → 0 < plan.windows
    → window_start plan window ≡ window / plan.windows * frame plan + sum_to (padded_length plan) (slot_of plan window)
start_closed plan window some =
    let slot : slot_of plan window < plan.windows = mod-lt window some in
    let repeat = window / plan.windows in
    ap (window_start plan) (sym (div-add-mod' window plan.windows))
    ∙ start_within plan repeat (slot_of plan window) (omega arith) (start_repeat plan repeat)

-- the start past the last window is the run's total
pub start_total : (plan : Plan) → plan_valid plan ≡ true → window_start plan (windows_total plan) ≡ ticks_total plan
unfolding windows_total ticks_total frame
start_total plan valid = start_repeat plan plan.run

-- a later window starts no earlier
start_mono : (plan : Plan) (window more : ℕ) → window_start plan window ≤ window_start plan (window + more)
unfolding window_start
start_mono plan window zero = rw add-zero (omega arith)
start_mono plan window (suc more) =
    let before : window_start plan window ≤ window_start plan (window + more) = start_mono plan window more in
    rw add-suc (omega arith)

-- no window that has an index in the run ends past the run's total
pub start_most : (plan : Plan) (window : ℕ) → plan_valid plan ≡ true → window ≤ windows_total plan → window_start plan window ≤ ticks_total plan
start_most plan window valid within =
    let rest = windows_total plan - window in
    let later : window + rest ≡ windows_total plan = omega arith in
    let last : window_start plan (window + rest) ≡ ticks_total plan = ap (window_start plan) later ∙ start_total plan valid in
    rw last at (start_mono plan window rest)

-- the first declared windows with their pads, each of at most 2,000,000 ticks
pub padded_most :
    (plan : Plan) (count : ℕ)
    → plan.pad ≤ most_pad
    → ((slot : ℕ) → slot < count → get_or plan.lengths slot 0 ≤ most_length)
    → sum_to (padded_length plan) count ≤ 2_000_000 * count
padded_most plan count pad lengths = sum_most (padded_length plan) 2_000_000 count (λ slot below. omega (arith, lengths slot below))

-- the start in closed form, as whole repeats of what the declared windows take once through
pub start_repeats :
    (plan : Plan) (window : ℕ)
    → plan_valid plan ≡ true
    → window / plan.windows * sum_to (padded_length plan) plan.windows + sum_to (padded_length plan) (slot_of plan window) ≡ window_start plan window
unfolding frame
start_repeats plan window valid = sym (start_closed plan window (counts plan valid).windows_least)

-- no start of a run is over the largest total
pub start_fits :
    (plan : Plan) (window : ℕ) → plan_valid plan ≡ true → window ≤ windows_total plan → window_start plan window ≤ most_run_ticks
start_fits plan window valid within =
    let most : window_start plan window ≤ ticks_total plan = start_most plan window valid within in
    omega (arith, (parts plan valid).ticks)
