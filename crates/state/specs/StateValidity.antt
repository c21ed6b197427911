-- Document 01, "The plan text", 14: an impossible state. Assumes nothing.
use Rattle.std.specs.Prelude.{ℕ, ◌+◌, ◌-◌, Bool, true, false, cond, ◌&&◌, eqb, leb, ltb}
use Rattle.plan.specs.declared.Plan.{Plan}
use Rattle.plan.specs.Limits.{dearest_op, most_domains}
use Rattle.plan.specs.Sums.{all_below}
use Rattle.plan.specs.Windows.{window_end, window_start, ticks_total, windows_total}
use Rattle.script.specs.Limits.{most_ops}
use Rattle.state.specs.declared.State.{State}
use Rattle.state.specs.World.{position_at, records_at}

-- no more windows than the total; in a window the clock is from its start to where an op that
-- begins in its last tick can end; ended, it is the run's total of ticks
unfoldable pub clock_valid : Plan → State → Bool
clock_valid plan state =
    elim (ltb state.windows (windows_total plan)) [
      | true ↦
          leb (window_start plan state.windows) state.clock
          && leb state.clock (window_end plan state.windows + (dearest_op - 1))
      | false ↦ eqb state.windows (windows_total plan) && eqb state.clock (ticks_total plan)
    ]

-- a declared domain's position is within its script, and it has no more records than its part
-- holds; an undeclared one has neither
unfoldable pub domain_counts_valid : Plan → ℕ → State → ℕ → Bool
domain_counts_valid plan quota state domain =
    cond (ltb domain plan.domains)
    (leb (position_at state domain) most_ops && leb (records_at state domain) quota)
    (eqb (position_at state domain) 0 && eqb (records_at state domain) 0)

-- state validity, beside a log whose parts hold `quota` records
unfoldable pub state_valid : Plan → ℕ → State → Bool
state_valid plan quota state =
    clock_valid plan state && all_below (domain_counts_valid plan quota state) most_domains
