-- Laws of state validity: the clock in a window and after the last. Assumes nothing.
use mathlib.Core.Path.{◌≡◌}
use mathlib.Core.Bool.{true, false, ◌&&◌}
use Prim.Native.Nat.{ℕ, ◌+◌, ◌-◌, ◌≤◌, ◌<◌}
use lib.Dec.{eqb, leb, ltb}
use borrow.Author.Tests.{lt-ltb, le-ltb}
use Rattle.plan.specs.declared.Plan.{Plan}
use Rattle.plan.specs.Limits.{dearest_op}
use Rattle.plan.specs.Windows.{window_end, window_length, window_start, ticks_total, windows_total}
use Rattle.state.specs.declared.State.{State}
use Rattle.state.specs.StateValidity.{clock_valid}

-- in a window, from its start and its length
pub clock_in_window :
    (plan : Plan) (state : State) (total start length : ℕ)
    → total ≡ windows_total plan
    → state.windows < total
    → start ≡ window_start plan state.windows
    → length ≡ window_length plan state.windows
    → leb start state.clock && leb state.clock (start + length + (dearest_op - 1)) ≡ clock_valid plan state
unfolding clock_valid window_end
clock_in_window plan state total start length totals within starts lasts =
    let test : ltb state.windows (windows_total plan) ≡ true = lt-ltb _ _ (rw totals at within) in
    rw (starts, lasts, test, clock_valid)

-- after the last, from the two totals
pub clock_after_last :
    (plan : Plan) (state : State) (total ticks : ℕ)
    → total ≡ windows_total plan
    → total ≤ state.windows
    → ticks ≡ ticks_total plan
    → eqb state.windows total && eqb state.clock ticks ≡ clock_valid plan state
unfolding clock_valid
clock_after_last plan state total ticks totals past sums =
    let test : ltb state.windows (windows_total plan) ≡ false = le-ltb _ _ (rw totals at past) in
    rw (totals, sums, test, clock_valid)
