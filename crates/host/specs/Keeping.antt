-- Document 02, E8, of the library's C functions: lists whose runs are `pirkvezo_run_kept` leave
-- what the same lists of `pirkvezo_run` leave, with one domain's part for the log. Assumes nothing.
use Rattle.std.specs.Prelude.{ℕ, ◌+◌, ◌<◌, Bool, true, false, cond, List, [], ◌∷◌, ◌⊎◌, ◌≡◌, length}
use Rattle.records.specs.Records.{log_part, part_records}
use Rattle.isolation.specs.Calls.{handed}
use Rattle.pirkvezo.specs.Keeping.{host_run_kept, kept_numbers}
use Rattle.pirkvezo.specs.Numbers.{plan_of}
use Rattle.pirkvezo.specs.Running.{RunCall}
use Rattle.pirkvezo.specs.Starting.{FreshCall, host_fresh_start}
use Rattle.host.specs.Calls.{Arrays, HostCall, HostList, IsHostList, OwnRunArrays, RunArrays}
use Rattle.host.specs.Calls.{arrays_left, host_point_of, host_run_call, is_refusal, left_arrays}
use Rattle.host.specs.Calls.{run_return}

-- a call: the arrays that it was handed, its log being the buffer for one domain's records; the
-- domain; how many records a part holds; and its limit
pub record HostKeptCall : Type 0 where
  pub arrays : RunArrays
  pub domain : ℕ
  pub part : ℕ
  pub limit : ℕ

-- it was handed the list's own arrays, its domain and its number of records
pub record OwnKeptArrays (domain part : ℕ) (call : HostKeptCall) : Type 0 where
  pub arrays : OwnRunArrays call.arrays
  pub domain_is : call.domain ≡ domain
  pub part_is : call.part ≡ part

module _ (plan scripts : List ℕ) where
  -- what the C function returns and leaves
  unfoldable pub kept_return : HostKeptCall → Arrays → RunCall
  kept_return call held =
      host_run_kept (handed call.arrays.plan plan) (handed call.arrays.scripts scripts)
      (handed call.arrays.state held.state) (handed call.arrays.cache held.cache)
      (handed call.arrays.boxes held.boxes) (handed call.arrays.log held.log)
      call.domain call.part call.limit call.arrays.answer

  abbrev pub host_kept_refused : HostKeptCall → Arrays → Bool
  host_kept_refused call held = is_refusal (kept_return call held).number

  -- the list's own arrays after a call, whose log is the buffer
  unfoldable pub after_host_kept : HostKeptCall → Arrays → Arrays
  after_host_kept call held = left_arrays call.arrays held (kept_return call held)

  -- after some calls, and the steps that they counted together
  unfoldable pub after_host_kept_calls : List HostKeptCall → Arrays → Arrays
  after_host_kept_calls [] held = held
  after_host_kept_calls (call ∷ calls) held = after_host_kept_calls calls (after_host_kept call held)

  unfoldable pub host_steps_of_kept : List HostKeptCall → Arrays → ℕ
  host_steps_of_kept [] held = 0
  host_steps_of_kept (call ∷ calls) held =
      cond (host_kept_refused call held) 0 call.limit
      + host_steps_of_kept calls (after_host_kept call held)

  -- every call was refused, or was handed the list's own things as the calls before it left them
  unfoldable pub ProperHostKept : ℕ → ℕ → List HostKeptCall → Arrays → Type 0
  ProperHostKept domain part [] held = Unit {0}
  ProperHostKept domain part (call ∷ calls) held =
      ((host_kept_refused call held ≡ true) ⊎ OwnKeptArrays domain part call)
      × ProperHostKept domain part calls (after_host_kept call held)

  -- the same list of `pirkvezo_run`, without the refused calls, which change nothing
  unfoldable pub same_host_runs : List HostKeptCall → Arrays → List HostCall
  same_host_runs [] held = []
  same_host_runs (call ∷ calls) held =
      elim (host_kept_refused call held) [
        | true ↦ same_host_runs calls (after_host_kept call held)
        | false ↦ host_run_call call.arrays call.limit
            ∷ same_host_runs calls (after_host_kept call held)
      ]

-- a list: as a host's list of calls, with the domain whose log is kept, how many records a part
-- holds, and the buffer in the place of the log
pub record HostKeptList : Type 0 where
  pub plan : List ℕ
  pub scripts : List ℕ
  pub domain : ℕ
  pub part : ℕ
  pub kept : List ℕ
  pub old_state : List ℕ
  pub old_cache : List ℕ
  pub old_boxes : List ℕ
  pub start_answer : List ℕ
  pub calls : List HostKeptCall

-- what `pirkvezo_fresh_start` returned and left, and the arrays from which the calls start
abbrev pub kept_fresh_return : HostKeptList → FreshCall
kept_fresh_return list =
    host_fresh_start list.plan list.old_state list.old_cache list.old_boxes
    list.start_answer

unfoldable pub kept_start_arrays : HostKeptList → Arrays
kept_start_arrays list =
    let fresh = kept_fresh_return list in
    record { state = fresh.state; cache = fresh.cache; boxes = fresh.boxes; log = list.kept }

-- it begins with a fresh start that returned 0, and its calls are as above
pub record IsHostKeptList (list : HostKeptList) : Type 0 where
  pub started : (kept_fresh_return list).number ≡ 0
  pub proper :
      ProperHostKept list.plan list.scripts list.domain list.part list.calls
      (kept_start_arrays list)

-- what it leaves in its arrays, and its point
abbrev pub kept_arrays_left : HostKeptList → Arrays
kept_arrays_left list =
    after_host_kept_calls list.plan list.scripts list.calls (kept_start_arrays list)

abbrev pub host_kept_point : HostKeptList → ℕ
host_kept_point list =
    host_steps_of_kept list.plan list.scripts list.calls (kept_start_arrays list)

-- the same list with a whole log
abbrev pub full_host_list : HostKeptList → List ℕ → HostList
full_host_list list log =
    record {
      plan = list.plan;
      scripts = list.scripts;
      log = log;
      old_state = list.old_state;
      old_cache = list.old_cache;
      old_boxes = list.old_boxes;
      start_answer = list.start_answer;
      calls = same_host_runs list.plan list.scripts list.calls (kept_start_arrays list);
    }

-- arrays whose log is one domain's part of another's
abbrev pub kept_arrays : ℕ → ℕ → Arrays → Arrays
kept_arrays part domain held =
    record {
      state = held.state;
      cache = held.cache;
      boxes = held.boxes;
      log = log_part part domain part held.log;
    }

-- a whole log of which the buffer is one domain's part
pub record IsWholeHostLog (log : List ℕ) (list : HostKeptList) : Type 0 where
  pub part_is : list.part ≡ part_records (plan_of list.plan) (length log)
  pub kept_is : list.kept ≡ log_part list.part list.domain list.part log

-- beside any such log
pub record HostLeavesAlike (list : HostKeptList) (log : List ℕ) : Type 0 where
  -- the same list of `pirkvezo_run` is a list of calls, of which demand 3 holds
  pub is_list : IsHostList (full_host_list list log)
  -- it leaves the same arrays, and the buffer is the domain's part of its log
  pub leaves :
      kept_arrays_left list
      ≡ kept_arrays list.part list.domain (arrays_left (full_host_list list log))
  -- its point is the same
  pub point : host_kept_point list ≡ host_point_of (full_host_list list log)
  -- one more call on the list's own arrays returns the same number, and leaves the same
  pub answers :
      (call : HostKeptCall)
      → OwnKeptArrays list.domain list.part call
      → kept_return list.plan list.scripts call (kept_arrays_left list)
      ≡ kept_numbers list.part list.domain
      (run_return list.plan list.scripts call.arrays call.limit
      (arrays_left (full_host_list list log)))

-- of every declared domain
abbrev pub HostKeptListsAlike : Type 0
HostKeptListsAlike =
    (list : HostKeptList) (log : List ℕ)
    → IsHostKeptList list
    → list.domain < (plan_of list.plan).domains
    → IsWholeHostLog log list
    → HostLeavesAlike list log
