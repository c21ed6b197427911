-- Document 01, "Two lists of calls", of the library's C functions: what a host's calls were handed,
-- array by array, and what they return and leave, read off the definitions that the C functions'
-- contracts cite. Assumes nothing.
use Rattle.std.specs.Prelude.{ℕ, ◌+◌, Bool, true, cond, not, List, [], ◌∷◌, ◌⊎◌, ◌≡◌, eqb, length}
use Rattle.cache.specs.Lines.{table_length}
use Rattle.ops.specs.Ops.{boxes_length}
use Rattle.isolation.specs.Calls.{Handed, IsOwn, handed, left_in}
use Rattle.pirkvezo.specs.Answers.{answer_length}
use Rattle.pirkvezo.specs.LogQuery.{LogCall, host_log}
use Rattle.pirkvezo.specs.Numbers.{state_length}
use Rattle.pirkvezo.specs.Reading.{ReadCall, host_read}
use Rattle.pirkvezo.specs.Running.{RunCall, host_run, host_step}
use Rattle.pirkvezo.specs.Starting.{FreshCall, host_fresh_start}

-- the list's own arrays that its calls rewrite; an array is a list of numbers
pub record Arrays : Type 0 where
  pub state : List ℕ
  pub cache : List ℕ
  pub boxes : List ℕ
  pub log : List ℕ

-- what a step or a run was handed, array by array: the list's own, or another of any content and
-- length. Its answer array is no part of a list and may be any.
pub record RunArrays : Type 0 where
  pub plan : Handed (List ℕ)
  pub scripts : Handed (List ℕ)
  pub state : Handed (List ℕ)
  pub cache : Handed (List ℕ)
  pub boxes : Handed (List ℕ)
  pub log : Handed (List ℕ)
  pub answer : List ℕ

-- what a log query was handed, besides a domain's number
pub record LogArrays : Type 0 where
  pub plan : Handed (List ℕ)
  pub state : Handed (List ℕ)
  pub log : Handed (List ℕ)
  pub answer : List ℕ

-- the calls that may follow a fresh start: `pirkvezo_step`; `pirkvezo_run`, with its limit;
-- `pirkvezo_log`, with a domain's number
pub data HostCall : Type 0 where
  host_step_call : RunArrays → HostCall
  host_run_call : RunArrays → ℕ → HostCall
  host_log_call : LogArrays → ℕ → HostCall

-- a call is refused exactly when the number that it returns is not 0
abbrev pub is_refusal : ℕ → Bool
is_refusal number = not (eqb number 0)

-- every array that a step or a run was handed, its answer aside, is the list's own
abbrev pub OwnRunArrays : RunArrays → Type 0
OwnRunArrays arrays =
    IsOwn arrays.plan
    × IsOwn arrays.scripts
    × IsOwn arrays.state
    × IsOwn arrays.cache
    × IsOwn arrays.boxes
    × IsOwn arrays.log

-- every array that a log query was handed
abbrev pub OwnLogArrays : LogArrays → Type 0
OwnLogArrays arrays = IsOwn arrays.plan × IsOwn arrays.state × IsOwn arrays.log

-- every array that a call was handed
abbrev pub AllOwnArrays : HostCall → Type 0
AllOwnArrays (host_step_call arrays) = OwnRunArrays arrays
AllOwnArrays (host_run_call arrays limit) = OwnRunArrays arrays
AllOwnArrays (host_log_call arrays domain) = OwnLogArrays arrays

-- the answer array that a call was handed
abbrev pub answer_handed : HostCall → List ℕ
answer_handed (host_step_call arrays) = arrays.answer
answer_handed (host_run_call arrays limit) = arrays.answer
answer_handed (host_log_call arrays domain) = arrays.answer

-- how many steps a call asks for: a step one, a run as many as its limit, a log query none
abbrev pub host_steps_asked : HostCall → ℕ
host_steps_asked (host_step_call arrays) = 1
host_steps_asked (host_run_call arrays limit) = limit
host_steps_asked (host_log_call arrays domain) = 0

-- the list's own arrays after a step or a run: those that it was handed are as it left them
abbrev pub left_arrays : RunArrays → Arrays → RunCall → Arrays
left_arrays arrays held left =
    record {
      state = left_in arrays.state held.state left.state;
      cache = left_in arrays.cache held.cache left.cache;
      boxes = left_in arrays.boxes held.boxes left.boxes;
      log = left_in arrays.log held.log left.log;
    }

-- a list's own plan array and script store, which no call writes
module _ (plan scripts : List ℕ) where
  -- what the C functions return and leave, where the list's own arrays hold something
  unfoldable pub run_return : RunArrays → ℕ → Arrays → RunCall
  run_return arrays limit held =
      host_run (handed arrays.plan plan) (handed arrays.scripts scripts)
      (handed arrays.state held.state) (handed arrays.cache held.cache)
      (handed arrays.boxes held.boxes) (handed arrays.log held.log)
      limit arrays.answer

  unfoldable pub step_return : RunArrays → Arrays → RunCall
  step_return arrays held =
      host_step (handed arrays.plan plan) (handed arrays.scripts scripts)
      (handed arrays.state held.state) (handed arrays.cache held.cache)
      (handed arrays.boxes held.boxes) (handed arrays.log held.log)
      arrays.answer

  unfoldable pub log_return : LogArrays → ℕ → Arrays → LogCall
  log_return arrays domain held =
      host_log (handed arrays.plan plan) (handed arrays.state held.state)
      (handed arrays.log held.log) domain arrays.answer

  -- the number that a call returns
  unfoldable pub number_returned : HostCall → Arrays → ℕ
  number_returned (host_step_call arrays) held = (step_return arrays held).number
  number_returned (host_run_call arrays limit) held = (run_return arrays limit held).number
  number_returned (host_log_call arrays domain) held = (log_return arrays domain held).number

  -- the list's own arrays after a call; a log query writes to its answer alone
  unfoldable pub after_host_call : HostCall → Arrays → Arrays
  after_host_call (host_step_call arrays) held = left_arrays arrays held (step_return arrays held)
  after_host_call (host_run_call arrays limit) held =
      left_arrays arrays held (run_return arrays limit held)
  after_host_call (host_log_call arrays domain) held = held

  -- the steps that a call adds to its list's run: those it asks for, and none where it is refused
  unfoldable pub host_steps_counted : HostCall → Arrays → ℕ
  host_steps_counted call held = cond (is_refusal (number_returned call held)) 0 (host_steps_asked call)

  -- the list's own arrays after some calls, and the steps that they counted together
  unfoldable pub after_host_calls : List HostCall → Arrays → Arrays
  after_host_calls [] held = held
  after_host_calls (call ∷ calls) held = after_host_calls calls (after_host_call call held)

  unfoldable pub host_steps_of : List HostCall → Arrays → ℕ
  host_steps_of [] held = 0
  host_steps_of (call ∷ calls) held =
      host_steps_counted call held + host_steps_of calls (after_host_call call held)

  -- every call was refused, and then whatever it was handed will do, or it was handed the list's
  -- own arrays, as the calls before it left them
  unfoldable pub ProperCalls : List HostCall → Arrays → Type 0
  ProperCalls [] held = Unit {0}
  ProperCalls (call ∷ calls) held =
      ((is_refusal (number_returned call held) ≡ true) ⊎ AllOwnArrays call)
      × ProperCalls calls (after_host_call call held)

-- a list: the plan array, the script store and the log; what the fresh start was handed besides;
-- and the calls after it
pub record HostList : Type 0 where
  pub plan : List ℕ
  pub scripts : List ℕ
  pub log : List ℕ
  pub old_state : List ℕ
  pub old_cache : List ℕ
  pub old_boxes : List ℕ
  pub start_answer : List ℕ
  pub calls : List HostCall

-- what `pirkvezo_fresh_start` returned and left
abbrev pub fresh_return : HostList → FreshCall
fresh_return list =
    host_fresh_start list.plan list.old_state list.old_cache list.old_boxes
    list.start_answer

-- the arrays from which the calls of a list start: what the fresh start left, and the log, which it
-- does not take
unfoldable pub start_arrays : HostList → Arrays
start_arrays list =
    let fresh = fresh_return list in
    record { state = fresh.state; cache = fresh.cache; boxes = fresh.boxes; log = list.log }

-- a list begins with a fresh start that returned 0, and its calls are as above
pub record IsHostList (list : HostList) : Type 0 where
  pub started : (fresh_return list).number ≡ 0
  pub proper : ProperCalls list.plan list.scripts list.calls (start_arrays list)

-- what a list leaves in its arrays
abbrev pub arrays_left : HostList → Arrays
arrays_left list = after_host_calls list.plan list.scripts list.calls (start_arrays list)

-- a list's point: how many steps its run is, which is what its calls counted together
abbrev pub host_point_of : HostList → ℕ
host_point_of list = host_steps_of list.plan list.scripts list.calls (start_arrays list)

-- what `pirkvezo_read_plan` was handed
pub record ReadArrays : Type 0 where
  pub text : List ℕ
  pub scripts : List ℕ
  pub plan : List ℕ
  pub answer : List ℕ

-- what it returned and left
abbrev pub read_return : ReadArrays → ReadCall
read_return arrays = host_read arrays.text arrays.scripts arrays.plan arrays.answer

-- a list from a text: `pirkvezo_read_plan` returned 0 for it and wrote the list's plan array and
-- script store, and the fresh start was handed arrays of the right lengths, of any content
pub record IsTextList (arrays : ReadArrays) (list : HostList) : Type 0 where
  pub read : (read_return arrays).number ≡ 0
  pub plan_written : list.plan ≡ (read_return arrays).plan
  pub scripts_written : list.scripts ≡ (read_return arrays).scripts
  pub state_fits : length list.old_state ≡ state_length
  pub cache_fits : length list.old_cache ≡ table_length
  pub boxes_fit : length list.old_boxes ≡ boxes_length
  pub answer_fits : length list.start_answer ≡ answer_length
  pub proper : ProperCalls list.plan list.scripts list.calls (start_arrays list)
