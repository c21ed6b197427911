-- What the library promises beside the single calls. A refused fresh start, step, run, writing or
-- asking for a latest finish leaves what it was lent (document 01, "The plan text"). What a call
-- leaves is what the next call takes: a host that lends on the numbers it got runs one machine
-- (document 01, "Two lists of calls"). A frame is made exactly when it can be, and keeps its promises
-- (document 02, E1). Assumes nothing.
use Rattle.std.specs.Prelude.{true, ◌↔◌, ◌⊎◌, ◌≡◌, List, ℕ, replicate}
use Rattle.lists.specs.Part.{part}
use Rattle.plan.specs.declared.Plan.{Plan}
use Rattle.plan.specs.Limits.{most_windows}
use Rattle.state.specs.declared.State.{State}
use Rattle.machine.specs.View.{world_with}
use Rattle.reader.specs.Read.{read_of}
use Rattle.engine.specs.FreshStart.{fresh_start_of}
use Rattle.engine.specs.Keeping.{kept_call_of}
use Rattle.engine.specs.LogQuery.{log_query_of}
use Rattle.engine.specs.Running.{run_call_of}
use Rattle.frame.specs.Theorems.{FrameByWeights, WithinLimits}
use Rattle.pirkvezo.specs.Finishing.{host_latest}
use Rattle.pirkvezo.specs.Framing.{frame_fits, host_frame}
use Rattle.pirkvezo.specs.Keeping.{host_run_kept}
use Rattle.pirkvezo.specs.LogQuery.{log_answer_of}
use Rattle.pirkvezo.specs.Numbers.{plan_numbers, plan_of, state_numbers, state_of}
use Rattle.pirkvezo.specs.Running.{RunCall, host_run}
use Rattle.pirkvezo.specs.Starting.{FreshCall, host_fresh_start}
use Rattle.pirkvezo.specs.Writing.{host_write}

-- ---- a refused call

pub record FreshKept (state cache boxes : List ℕ) (call : FreshCall) : Type 0 where
  pub state_is : call.state ≡ state
  pub cache_is : call.cache ≡ cache
  pub boxes_are : call.boxes ≡ boxes

-- a refused fresh start leaves state, cache table and boxes
abbrev pub RefusedFreshKeeps : Type 0
RefusedFreshKeeps =
    (plan state cache boxes answer : List ℕ)
    → ((host_fresh_start plan state cache boxes answer).number ≡ 0 → ⊥)
    → FreshKept state cache boxes (host_fresh_start plan state cache boxes answer)

pub record RunKept (state cache boxes log : List ℕ) (call : RunCall) : Type 0 where
  pub state_is : call.state ≡ state
  pub cache_is : call.cache ≡ cache
  pub boxes_are : call.boxes ≡ boxes
  pub log_is : call.log ≡ log

-- a refused run leaves state, cache table, boxes and log; a step is a run with limit 1
abbrev pub RefusedRunKeeps : Type 0
RefusedRunKeeps =
    (plan scripts state cache boxes log : List ℕ) (limit : ℕ) (answer : List ℕ)
    → ((host_run plan scripts state cache boxes log limit answer).number ≡ 0 → ⊥)
    → RunKept state cache boxes log (host_run plan scripts state cache boxes log limit answer)

-- so does a refused run that keeps one domain's log
abbrev pub RefusedKeptRunKeeps : Type 0
RefusedKeptRunKeeps =
    (plan scripts state cache boxes kept : List ℕ) (domain part limit : ℕ) (answer : List ℕ)
    → ((host_run_kept plan scripts state cache boxes kept domain part limit answer).number ≡ 0 → ⊥)
    → RunKept state cache boxes kept
    (host_run_kept plan scripts state cache boxes kept domain part limit answer)

-- a refused writing leaves the buffer
abbrev pub RefusedWriteKeeps : Type 0
RefusedWriteKeeps =
    (plan scripts out answer : List ℕ)
    → ((host_write plan scripts out answer).number ≡ 0 → ⊥)
    → (host_write plan scripts out answer).out ≡ out

-- a refused asking for a latest finish leaves the buffer for its script
abbrev pub RefusedLatestKeeps : Type 0
RefusedLatestKeeps =
    (plan : List ℕ) (domain : ℕ) (script answer : List ℕ)
    → ((host_latest plan domain script answer).number ≡ 0 → ⊥)
    → (host_latest plan domain script answer).script ≡ script

-- ---- numbers that are lent again

-- the numbers of the plan that was read, refused or not, stand for that plan
abbrev pub ReadPlanReturns : Type 0
ReadPlanReturns =
    (text scripts : List ℕ)
    → plan_of (plan_numbers (read_of text scripts).plan) ≡ (read_of text scripts).plan

-- the numbers of the state that a fresh start leaves stand for that state
abbrev pub FreshStateReturns : Type 0
FreshStateReturns =
    (plan state cache boxes : List ℕ)
    → state_of (state_numbers (fresh_start_of (plan_of plan) (state_of state) cache boxes).state)
    ≡ (fresh_start_of (plan_of plan) (state_of state) cache boxes).state

-- so do those of the state that a run leaves
abbrev pub RunStateReturns : Type 0
RunStateReturns =
    (plan scripts state cache boxes log : List ℕ) (limit : ℕ)
    → state_of
    (state_numbers
    (run_call_of (plan_of plan) scripts (world_with (state_of state) cache boxes log) limit).world.state)
    ≡ (run_call_of (plan_of plan) scripts (world_with (state_of state) cache boxes log) limit).world.state

-- and those of the state that is left by a run that keeps one domain's log
abbrev pub KeptStateReturns : Type 0
KeptStateReturns =
    (plan scripts state cache boxes kept : List ℕ) (domain part limit : ℕ)
    → state_of
    (state_numbers
    (kept_call_of (plan_of plan) scripts domain part (world_with (state_of state) cache boxes kept) limit
    ).world.state)
    ≡ (kept_call_of (plan_of plan) scripts domain part (world_with (state_of state) cache boxes kept) limit
    ).world.state

-- ---- a frame

-- a call is accepted exactly when every length is right and the numbers are within their limits
abbrev pub FrameAcceptedExactly : Type 0
FrameAcceptedExactly =
    (count : ℕ) (weights frame answer : List ℕ)
    → ((host_frame count weights frame answer).number ≡ 0)
    ↔ ((frame_fits weights frame answer ≡ true) × WithinLimits count weights)

-- the frame of an accepted call keeps the promises of a frame by weights
abbrev pub FrameKeepsPromises : Type 0
FrameKeepsPromises =
    (count : ℕ) (weights frame answer : List ℕ)
    → (host_frame count weights frame answer).number ≡ 0
    → FrameByWeights count weights (host_frame count weights frame answer).frame

-- a refused call is 11 and leaves the frame as it was lent, or 15 and leaves zeros
abbrev pub RefusedFrameLeaves : Type 0
RefusedFrameLeaves =
    (count : ℕ) (weights frame answer : List ℕ)
    → ((host_frame count weights frame answer).number ≡ 0 → ⊥)
    → (((host_frame count weights frame answer).number ≡ 11)
    × ((host_frame count weights frame answer).frame ≡ frame))
    ⊎ (((host_frame count weights frame answer).number ≡ 15)
    × ((host_frame count weights frame answer).frame ≡ replicate most_windows 0))

-- ---- a log query

-- the bytes that it points at are the log that was asked for: none where it is refused
abbrev pub QueryPointsAtLog : Type 0
QueryPointsAtLog =
    (plan : Plan) (state : State) (log : List ℕ) (domain : ℕ)
    → part (log_answer_of plan state log domain).offset (log_answer_of plan state log domain).length log
    ≡ log_query_of plan state log domain
