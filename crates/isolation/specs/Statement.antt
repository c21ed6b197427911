-- Document 01, "Two lists of calls": demand 3. (A) Windows start when the plan alone says. (B)
-- Where two lists end at corresponding points, the domains of any set see the same, whatever their
-- rivals' scripts hold, if each of their windows began with the same in the boxes addressed to
-- them. Assumes nothing.
use Rattle.std.specs.Prelude.{ℕ, ◌+◌, ◌*◌, ◌<◌, ◌≤◌, true, List, ◌≡◌, get_or, length, Ok}
use Rattle.plan.specs.declared.Plan.{Plan}
use Rattle.plan.specs.Colours.{owns_colour}
use Rattle.plan.specs.Windows.{window_owner, window_start, windows_total}
use Rattle.script.specs.Limits.{most_ops}
use Rattle.bound.specs.Bound.{step_bound}
use Rattle.cache.specs.Lines.{kernel_colour, l1_length, set_colour, set_index, set_count, ways_per_set}
use Rattle.state.specs.World.{position_at}
use Rattle.refusal.specs.Code.{code_of}
use Rattle.engine.specs.LogQuery.{log_query_of, log_status_of}
use Rattle.engine.specs.Running.{run_call_of}
use Rattle.isolation.specs.Calls.{Admissible, AllOwn, Call, CallList, IsList, after_call}
use Rattle.isolation.specs.Calls.{is_refused, leaves_of, point_of, refused_code, run_twice}
use Rattle.isolation.specs.Calls.{verdict_after}
use Rattle.isolation.specs.Points.{FreshRun, InWindowOf, SameBoxesTo, Starts}
use Rattle.isolation.specs.Points.{ops_of, ops_of_domain, windows_after, world_after}

-- the run of a list
abbrev pub run_of_list : CallList → FreshRun
run_of_list list = record { plan = list.plan; scripts = list.scripts; log = list.log }

-- ---- (A)

-- a window started within the first `count` steps of a run, at the tick that the plan gives
pub record StartedOnTime (run : FreshRun) (count window : ℕ) : Type 0 where
  pub at : ℕ
  pub so_far : at ≤ count
  pub starts : Starts run window at
  pub on_time : (world_after run at).state.clock ≡ window_start run.plan window

-- windows so far: those that a list's run has completed and the one it is in. Each started on time;
-- of an ended run the end itself is counted in, which is where a next window would start.
abbrev pub WindowsOnTime : CallList → Type 0
WindowsOnTime list =
    (window : ℕ)
    → window ≤ windows_after (run_of_list list) (point_of list)
    → StartedOnTime (run_of_list list) (point_of list) window

-- ---- (B): its premises, over a predicate that names the domains for which two lists must agree

-- two plans are the same to the named domains. Whoever is named, that is equality: what the unnamed
-- may have of their own in one list and not in the other is their scripts, and a plan does not hold
-- scripts.
abbrev pub SamePlan : (ℕ → Type 0) → Plan → Plan → Type 0
SamePlan Named one other = one ≡ other

-- two script stores hold the same numbers for each named domain
abbrev pub ScriptsAgree : (ℕ → Type 0) → List ℕ → List ℕ → Type 0
ScriptsAgree Named one other =
    (domain : ℕ)
    → Named domain
    → (index : ℕ)
    → index < most_ops
    → get_or one (most_ops * domain + index) 0 ≡ get_or other (most_ops * domain + index) 0

-- points of two runs correspond: the same number of windows is completed, and where the current one
-- is a named domain's, the same number of ops was done in it
pub record Correspond
    (Named : ℕ → Type 0) (one : FreshRun) (count : ℕ) (other : FreshRun) (count' : ℕ) : Type 0 where
  pub windows : windows_after one count ≡ windows_after other count'
  pub ops :
      InWindowOf Named one count
      → ops_of one (windows_after one count) count ≡ ops_of other (windows_after one count) count'

-- whenever a named domain's window started, in both runs and no later than these points, the boxes
-- addressed to named domains were equal. A window starts exactly once in a run, so there is one
-- such pair of points for each window so far.
abbrev pub BoxesAgree : (ℕ → Type 0) → FreshRun → ℕ → FreshRun → ℕ → Type 0
BoxesAgree Named one count other count' =
    (window at at' : ℕ)
    → window < windows_total one.plan
    → Named (window_owner one.plan window)
    → Starts one window at
    → at ≤ count
    → Starts other window at'
    → at' ≤ count'
    → SameBoxesTo Named (world_after one at) (world_after other at')

-- what two lists have in common: the plan, the named domains' scripts, and the length of the log.
-- The log's contents, what the fresh start overwrote and the other domains' scripts may differ.
pub record InCommon (Named : ℕ → Type 0) (one other : CallList) : Type 0 where
  pub plans : SamePlan Named one.plan other.plan
  pub declared : (domain : ℕ) → Named domain → domain < one.plan.domains
  pub scripts : ScriptsAgree Named one.scripts other.scripts
  pub logs : length one.log ≡ length other.log

-- they end at corresponding points, and the boxes agreed until then
pub record ComparableFor (Named : ℕ → Type 0) (one other : CallList) : Type 0 where
  pub common : InCommon Named one other
  pub points : Correspond Named (run_of_list one) (point_of one) (run_of_list other) (point_of other)
  pub boxes : BoxesAgree Named (run_of_list one) (point_of one) (run_of_list other) (point_of other)

-- the observer alone is named
abbrev pub Only : ℕ → ℕ → Type 0
Only observer domain = domain ≡ observer

abbrev pub Comparable : ℕ → CallList → CallList → Type 0
Comparable observer one other = ComparableFor (Only observer) one other

-- ---- (B): its conclusion

-- every number of the L2 sets that have one of a domain's colours is equal
abbrev pub SameSets : Plan → ℕ → List ℕ → List ℕ → Type 0
SameSets plan domain one other =
    (set way : ℕ)
    → set < set_count
    → way < ways_per_set
    → owns_colour plan domain (set_colour set) ≡ true
    → get_or one (set_index set + way) 0 ≡ get_or other (set_index set + way) 0

-- the 16 numbers of L1 are equal
abbrev pub SameL1 : List ℕ → List ℕ → Type 0
SameL1 one other = (index : ℕ) → index < l1_length → get_or one index 0 ≡ get_or other index 0

-- every number of the kernel's sets is equal
abbrev pub SameKernelSets : List ℕ → List ℕ → Type 0
SameKernelSets one other =
    (set way : ℕ)
    → set < set_count
    → way < ways_per_set
    → set_colour set ≡ kernel_colour
    → get_or one (set_index set + way) 0 ≡ get_or other (set_index set + way) 0

-- a list ends in a window of a named domain
abbrev pub EndsInWindowOf : (ℕ → Type 0) → CallList → Type 0
EndsInWindowOf Named list = InWindowOf Named (run_of_list list) (point_of list)

-- two lists leave the clock at one tick
abbrev pub SameClock : CallList → CallList → Type 0
SameClock one other = (leaves_of one).state.clock ≡ (leaves_of other).state.clock

-- what the observer sees is equal after two lists
pub record SameSeen (observer : ℕ) (one other : CallList) : Type 0 where
  -- its log, every byte, as a log query hands it back; the query is refused after neither list
  pub queried :
      log_status_of one.plan (leaves_of one).state (leaves_of one).log observer ≡ Ok tt
  pub queried' :
      log_status_of other.plan (leaves_of other).state (leaves_of other).log observer ≡ Ok tt
  pub log :
      log_query_of one.plan (leaves_of one).state (leaves_of one).log observer
      ≡ log_query_of other.plan (leaves_of other).state (leaves_of other).log observer
  -- its script position
  pub position :
      position_at (leaves_of one).state observer ≡ position_at (leaves_of other).state observer
  -- its part of the partitioned cache, entry by entry
  pub sets : SameSets one.plan observer (leaves_of one).cache (leaves_of other).cache
  -- the number of ops in each window that it has completed
  pub ops :
      (window : ℕ)
      → window < (leaves_of one).state.windows
      → window_owner one.plan window ≡ observer
      → ops_of (run_of_list one) window (point_of one) ≡ ops_of (run_of_list other) window (point_of other)
  -- in its own window: the clock
  pub clock : EndsInWindowOf (Only observer) one → SameClock one other
  -- and, beyond the demand, all that its next op could meet: L1, the kernel's sets, and the boxes
  -- addressed to it
  pub l1 : EndsInWindowOf (Only observer) one → SameL1 (leaves_of one).cache (leaves_of other).cache
  pub kernel_sets :
      EndsInWindowOf (Only observer) one
      → SameKernelSets (leaves_of one).cache (leaves_of other).cache
  pub boxes :
      EndsInWindowOf (Only observer) one
      → SameBoxesTo (Only observer) (leaves_of one) (leaves_of other)
  -- of two ended runs: the clock
  pub ended_clock : windows_total one.plan ≤ (leaves_of one).state.windows → SameClock one other

-- what the domains of a set see is equal after two lists, also where they put it together: each
-- sees the same, and in a window of one of them the boxes addressed to any of them are equal
pub record SameSeenBy (Named : ℕ → Type 0) (one other : CallList) : Type 0 where
  pub each : (member : ℕ) → Named member → SameSeen member one other
  pub boxes : EndsInWindowOf Named one → SameBoxesTo Named (leaves_of one) (leaves_of other)

-- ---- corresponding points are there

-- a point of one run has a corresponding one in the other
pub record HasCorresponding
    (Named : ℕ → Type 0) (one : FreshRun) (count : ℕ) (other : FreshRun) : Type 0 where
  pub at : ℕ
  pub corresponds : Correspond Named one count other at

-- ---- laws of a single list

pub record ListLaws (list : CallList) : Type 0 where
  -- what it leaves is what n steps from a fresh start leave, n its point
  pub leaves : leaves_of list ≡ world_after (run_of_list list) (point_of list)
  -- one more call, on its own things: if it is admissible it is not refused
  pub accepted :
      (call : Call)
      → AllOwn call
      → Admissible list.plan list.scripts call
      → verdict_after list call ≡ Ok tt
  -- and else it is, with 11, 0 or with 4, 0
  pub refused :
      (call : Call)
      → AllOwn call
      → (Admissible list.plan list.scripts call → ⊥)
      → code_of (verdict_after list call) ≡ refused_code call
  -- a refused call, whatever it was handed, leaves the list's own world as it was
  pub unchanged :
      (call : Call)
      → is_refused (verdict_after list call) ≡ true
      → after_call list.plan list.scripts call (leaves_of list) ≡ leaves_of list
  -- a running that may do a + b steps is one that may do a, then one that may do b. The sum is a
  -- number like any other here, also where it is more than the entry point's limit can hold.
  pub split :
      (first second : ℕ)
      → run_call_of list.plan list.scripts (leaves_of list) (first + second)
      ≡ run_twice list.plan list.scripts (leaves_of list) first second
  -- every window of the plan does start in its run, on time, and so does the run's end, which is
  -- where a next window would start: the run is over after at most as many steps as its bound
  pub starts :
      (window : ℕ)
      → window ≤ windows_total list.plan
      → StartedOnTime (run_of_list list) (step_bound list.plan list.scripts) window
  -- a domain's script position is the number of ops that its windows so far held
  pub positions :
      (domain : ℕ)
      → position_at (leaves_of list).state domain
      ≡ ops_of_domain (run_of_list list) domain (point_of list)

-- ---- demand 3

-- said of all lists of some kind
pub record IsolationOf (Kind : CallList → Type 0) : Type 1 where
  -- (A): after either list, each window so far started at the tick that the plan alone gives
  pub on_time : (list : CallList) → Kind list → WindowsOnTime list
  -- (B): wherever two lists end at corresponding points, what the observer sees is equal
  pub isolated :
      (observer : ℕ) (one other : CallList)
      → Kind one
      → Kind other
      → Comparable observer one other
      → SameSeen observer one other
  -- (B) of any set of domains that can be told apart from the others: what its members see together
  -- is equal
  pub together :
      (Named : ℕ → Type 0)
      → ((domain : ℕ) → Dec (Named domain))
      → (one other : CallList)
      → Kind one
      → Kind other
      → ComparableFor Named one other
      → SameSeenBy Named one other
  -- (B) is never empty: whatever point a list has come to, the other's run has a corresponding one,
  -- where the boxes were equal as above
  pub corresponding :
      (Named : ℕ → Type 0)
      → ((domain : ℕ) → Dec (Named domain))
      → (one other : CallList)
      → Kind one
      → Kind other
      → InCommon Named one other
      → ((at : ℕ) → BoxesAgree Named (run_of_list one) (point_of one) (run_of_list other) at)
      → HasCorresponding Named (run_of_list one) (point_of one) (run_of_list other)
  -- and what holds of each list
  pub lists : (list : CallList) → Kind list → ListLaws list

-- of every list whose fresh start was not refused
abbrev pub Isolation : Type 1
Isolation = IsolationOf IsList
