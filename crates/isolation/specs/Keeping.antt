-- Document 02, E8, and document 01, "Two lists of calls": lists whose runs keep only one domain's
-- log. Such a list leaves what the same list of runs leaves, with that domain's part for the log,
-- so that a domain may be watched by such runs alone. Assumes nothing.
use Rattle.std.specs.Prelude.{ℕ, ◌+◌, ◌*◌, ◌≤◌, ◌<◌, Bool, true, false, cond, List, [], ◌∷◌, ◌⊎◌, ◌≡◌, length, take}
use Rattle.plan.specs.declared.Plan.{Plan}
use Rattle.plan.specs.Windows.{window_owner, windows_total}
use Rattle.records.specs.Records.{log_part, part_records, record_size}
use Rattle.state.specs.declared.State.{State}
use Rattle.state.specs.World.{World, position_at, records_at}
use Rattle.machine.specs.Keeping.{kept_world}
use Rattle.engine.specs.FreshStart.{FreshOutcome, fresh_start_of}
use Rattle.engine.specs.Keeping.{kept_call_of, kept_outcome}
use Rattle.engine.specs.Running.{RunOutcome}
use Rattle.isolation.specs.Calls.{Call, CallList, IsList, OwnRun, RunThings, handed, handed_world}
use Rattle.isolation.specs.Calls.{is_refused, leaves_of, left_world, point_of, run_answer, run_call}
use Rattle.isolation.specs.Points.{SameBoxesTo, ops_of}
use Rattle.isolation.specs.Statement.{Comparable, Only, SameKernelSets, SameL1, SameSets}
use Rattle.isolation.specs.Statement.{WindowsOnTime, run_of_list}

-- ---- a list

-- a run that keeps one domain's log: what it was handed, its log being the buffer for that domain's
-- records; the domain; how many records a part holds; and its limit
pub record KeptCall : Type 0 where
  pub things : RunThings
  pub domain : ℕ
  pub part : ℕ
  pub limit : ℕ

-- a list of them: the plan and the script store; the domain whose log is kept, how many records a
-- part holds, and the buffer; what the fresh start overwrote; and the runs after it
pub record KeptList : Type 0 where
  pub plan : Plan
  pub scripts : List ℕ
  pub domain : ℕ
  pub part : ℕ
  pub kept : List ℕ
  pub old_state : State
  pub old_cache : List ℕ
  pub old_boxes : List ℕ
  pub calls : List KeptCall

-- a run was handed the list's own things: its domain and its number of records too
pub record OwnKept (domain part : ℕ) (call : KeptCall) : Type 0 where
  pub things : OwnRun call.things
  pub domain_is : call.domain ≡ domain
  pub part_is : call.part ≡ part

module _ (plan : Plan) (scripts : List ℕ) where
  -- what the entry point answers, by its contract's definition
  unfoldable pub kept_answer : KeptCall → World → RunOutcome
  kept_answer call world =
      kept_call_of (handed call.things.plan plan) (handed call.things.scripts scripts)
      call.domain call.part (handed_world call.things world) call.limit

  -- the list's own world after a run, whose log is the buffer
  unfoldable pub after_kept : KeptCall → World → World
  after_kept call world = left_world call.things world (kept_answer call world).world

  -- it was refused
  abbrev pub kept_refused : KeptCall → World → Bool
  kept_refused call world = is_refused (kept_answer call world).verdict

  -- the list's own world after some runs, and the steps that they counted together: those that a
  -- run asks for, and none where it is refused
  unfoldable pub after_kept_calls : List KeptCall → World → World
  after_kept_calls [] world = world
  after_kept_calls (call ∷ calls) world = after_kept_calls calls (after_kept call world)

  unfoldable pub steps_of_kept : List KeptCall → World → ℕ
  steps_of_kept [] world = 0
  steps_of_kept (call ∷ calls) world =
      cond (kept_refused call world) 0 call.limit + steps_of_kept calls (after_kept call world)

  -- every run was refused, and then whatever it was handed will do, or it was handed the list's own
  -- things, as the runs before it left them
  unfoldable pub ProperKept : ℕ → ℕ → List KeptCall → World → Type 0
  ProperKept domain part [] world = Unit {0}
  ProperKept domain part (call ∷ calls) world =
      ((kept_refused call world ≡ true) ⊎ OwnKept domain part call)
      × ProperKept domain part calls (after_kept call world)

  -- the same list of runs that keep everyone's log. A refused run is left out: it changes nothing,
  -- and what it was refused for may be its buffer, its domain or its number of records, which a run
  -- does not take.
  unfoldable pub same_runs : List KeptCall → World → List Call
  same_runs [] world = []
  same_runs (call ∷ calls) world =
      elim (kept_refused call world) [
        | true ↦ same_runs calls (after_kept call world)
        | false ↦ run_call call.things call.limit ∷ same_runs calls (after_kept call world)
      ]

-- what the fresh start of a list answered and left
abbrev pub kept_fresh : KeptList → FreshOutcome
kept_fresh list = fresh_start_of list.plan list.old_state list.old_cache list.old_boxes

-- the world from which its runs start
unfoldable pub kept_start : KeptList → World
kept_start list =
    let fresh = kept_fresh list in
    record { state = fresh.state; cache = fresh.cache; boxes = fresh.boxes; log = list.kept }

-- a list begins with a fresh start that was not refused, and its runs are as above
pub record IsKeptList (list : KeptList) : Type 0 where
  pub started : is_refused (kept_fresh list).verdict ≡ false
  pub proper :
      ProperKept list.plan list.scripts list.domain list.part list.calls
      (kept_start list)

-- what a list leaves, and its point: how many steps its runs counted together
abbrev pub kept_leaves : KeptList → World
kept_leaves list = after_kept_calls list.plan list.scripts list.calls (kept_start list)

abbrev pub kept_point : KeptList → ℕ
kept_point list = steps_of_kept list.plan list.scripts list.calls (kept_start list)

-- ---- beside a list of runs

-- the same list with a whole log
abbrev pub full_list : KeptList → List ℕ → CallList
full_list list log =
    record {
      plan = list.plan;
      scripts = list.scripts;
      log = log;
      old_state = list.old_state;
      old_cache = list.old_cache;
      old_boxes = list.old_boxes;
      calls = same_runs list.plan list.scripts list.calls (kept_start list);
    }

-- a whole log of which a list keeps one domain's part: its length gives how many records a part
-- holds, and the buffer is the domain's part
pub record IsWholeLog (log : List ℕ) (list : KeptList) : Type 0 where
  pub part_is : list.part ≡ part_records list.plan (length log)
  pub kept_is : list.kept ≡ log_part list.part list.domain list.part log

-- beside any such log
pub record LeavesAlike (list : KeptList) (log : List ℕ) : Type 0 where
  -- the same list of runs is a list
  pub is_list : IsList (full_list list log)
  -- it leaves the same, and the buffer is the domain's part of its log
  pub leaves :
      kept_leaves list ≡ kept_world list.part list.domain (leaves_of (full_list list log))
  -- its point is the same
  pub point : kept_point list ≡ point_of (full_list list log)
  -- one more run on the list's own things answers what the run with the whole log answers, number,
  -- steps and ending, and leaves the same
  pub answers :
      (call : KeptCall)
      → OwnKept list.domain list.part call
      → list.domain < list.plan.domains
      → kept_answer list.plan list.scripts call (kept_leaves list)
      ≡ kept_outcome list.part list.domain
      (run_answer list.plan list.scripts call.things call.limit
      (leaves_of (full_list list log)))
  -- a refused one, whatever it was handed, leaves the list's own world as it was
  pub unchanged :
      (call : KeptCall)
      → kept_refused list.plan list.scripts call (kept_leaves list) ≡ true
      → after_kept list.plan list.scripts call (kept_leaves list) ≡ kept_leaves list

abbrev pub KeptListsAlike : Type 0
KeptListsAlike =
    (list : KeptList) (log : List ℕ) → IsKeptList list → IsWholeLog log list → LeavesAlike list log

-- ---- a domain that is watched by such runs alone

-- the records that it has so far, from the buffer's start
abbrev pub kept_log : ℕ → World → List ℕ
kept_log domain world = take (record_size * records_at world.state domain) world.log

-- a list ends in a window of its own
pub record InOwnWindow (observer : ℕ) (list : KeptList) : Type 0 where
  pub not_ended : (kept_leaves list).state.windows < windows_total list.plan
  pub owner : window_owner list.plan (kept_leaves list).state.windows ≡ observer

-- what is seen of the observer through two such lists is equal: its log, its script position, its
-- part of the partitioned cache and the number of ops in each window that it has completed; in its
-- own window also the clock and all that its next op could meet; of two ended runs the clock. Where
-- windows start is said of the runs, beside whole logs.
pub record SameWatched (observer : ℕ) (one other : KeptList) (log log' : List ℕ) : Type 0 where
  -- (A): each window so far started at the tick that the plan alone gives
  pub on_time : WindowsOnTime (full_list one log)
  pub on_time' : WindowsOnTime (full_list other log')
  -- (B)
  pub log_is : kept_log observer (kept_leaves one) ≡ kept_log observer (kept_leaves other)
  pub position :
      position_at (kept_leaves one).state observer ≡ position_at (kept_leaves other).state observer
  pub sets : SameSets one.plan observer (kept_leaves one).cache (kept_leaves other).cache
  pub ops :
      (window : ℕ)
      → window < (kept_leaves one).state.windows
      → window_owner one.plan window ≡ observer
      → ops_of (run_of_list (full_list one log)) window (kept_point one)
      ≡ ops_of (run_of_list (full_list other log')) window (kept_point other)
  pub clock :
      InOwnWindow observer one
      → (kept_leaves one).state.clock ≡ (kept_leaves other).state.clock
  pub l1 :
      InOwnWindow observer one
      → SameL1 (kept_leaves one).cache (kept_leaves other).cache
  pub kernel_sets :
      InOwnWindow observer one
      → SameKernelSets (kept_leaves one).cache (kept_leaves other).cache
  pub boxes :
      InOwnWindow observer one
      → SameBoxesTo (Only observer) (kept_leaves one) (kept_leaves other)
  pub ended_clock :
      windows_total one.plan ≤ (kept_leaves one).state.windows
      → (kept_leaves one).state.clock ≡ (kept_leaves other).state.clock

-- demand 3, where the observer is watched by runs that keep its log alone. The premise is that of
-- the same lists of runs, with whole logs of which the buffers are the observer's part.
abbrev pub KeptIsolation : Type 0
KeptIsolation =
    (observer : ℕ) (one other : KeptList) (log log' : List ℕ)
    → IsKeptList one
    → IsKeptList other
    → one.domain ≡ observer
    → other.domain ≡ observer
    → IsWholeLog log one
    → IsWholeLog log' other
    → Comparable observer (full_list one log) (full_list other log')
    → SameWatched observer one other log log'

-- a whole log of which a list keeps one domain's part
pub record WholeLog (list : KeptList) : Type 0 where
  pub log : List ℕ
  pub long : length log ≡ record_size * (list.part * list.plan.domains)
  pub whole : IsWholeLog log list

-- there is one wherever the buffer has its length and the domain is declared, without which every
-- run is refused; and lists of one plan and one number of records have logs of one length
abbrev pub WholeLogsExist : Type 0
WholeLogsExist =
    (list : KeptList)
    → length list.kept ≡ record_size * list.part
    → list.domain < list.plan.domains
    → WholeLog list
