-- Document 01, "Window, switch, run": what a step rewrites. Assumes nothing.
use Rattle.std.specs.Prelude.{ℕ, Bool, List, leb, get_or, replicate}
use Rattle.plan.specs.declared.Plan.{Plan}
use Rattle.plan.specs.Limits.{most_domains}
use Rattle.plan.specs.Windows.{window_owner, windows_total}
use Rattle.state.specs.declared.State.{State}

-- the small state, the cache table, the boxes and the log
pub record World : Type 0 where
  pub state : State
  pub cache : List ℕ
  pub boxes : List ℕ
  pub log : List ℕ

-- a domain's position in its script, and its number of records
abbrev pub position_at : State → ℕ → ℕ
position_at state domain = get_or state.positions domain 0

abbrev pub records_at : State → ℕ → ℕ
records_at state domain = get_or state.records domain 0

-- the running domain: whose window it is
abbrev pub running_of : Plan → State → ℕ
running_of plan state = window_owner plan state.windows

-- ended: windows completed at or above the total
unfoldable pub ended_of : Plan → State → Bool
ended_of plan state = leb (windows_total plan) state.windows

-- the state of a fresh start
unfoldable pub fresh_state : State
fresh_state =
    record {
      windows = 0;
      clock = 0;
      positions = replicate most_domains 0;
      records = replicate most_domains 0;
    }
