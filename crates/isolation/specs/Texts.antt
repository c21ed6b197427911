-- Document 01, "Two lists of calls": an accepted plan is one that the reader gives with 0, 0.
-- Demand 3, said of lists under such plans. Assumes nothing.
use Rattle.std.specs.Prelude.{◌≡◌, length}
use Rattle.cache.specs.Lines.{table_length}
use Rattle.ops.specs.Ops.{boxes_length}
use Rattle.roundtrip.specs.Accepted.{Given}
use Rattle.isolation.specs.Calls.{CallList, Proper, start_world}
use Rattle.isolation.specs.Statement.{IsolationOf}

-- a list under a plan that some text gives, whose fresh start was lent tables of the right lengths
pub record AcceptedList (list : CallList) : Type 0 where
  pub accepted : Given list.plan
  pub cache_fits : length list.old_cache ≡ table_length
  pub boxes_fit : length list.old_boxes ≡ boxes_length
  pub proper : Proper list.plan list.scripts list.calls (start_world list)

-- demand 3, whole, of accepted plans
abbrev pub AcceptedIsolation : Type 1
AcceptedIsolation = IsolationOf AcceptedList
