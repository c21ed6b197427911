-- Document 01, "Two lists of calls": demand 3 of the library's C functions. (A) Windows start when
-- the plan alone says. (B) Where two lists of a host's calls end at corresponding points, a domain
-- sees the same in the arrays, whatever its rivals' scripts hold, if each of its windows began with
-- the same in the boxes addressed to it. Assumes nothing.
use Rattle.std.specs.Prelude.{ℕ, ◌+◌, ◌<◌, ◌≤◌, cond, true, List, ◌≡◌, eqb, get_or, length}
use Rattle.lists.specs.Part.{part}
use Rattle.plan.specs.Limits.{most_domains}
use Rattle.plan.specs.Windows.{window_owner}
use Rattle.script.specs.Limits.{scripts_length}
use Rattle.ops.specs.Ops.{box_index}
use Rattle.state.specs.World.{World}
use Rattle.reader.specs.Read.{read_of}
use Rattle.isolation.specs.Points.{FreshRun, InWindowOf, ops_of, windows_after, world_after}
use Rattle.isolation.specs.Statement.{BoxesAgree, Correspond, Only, SameKernelSets, SameL1}
use Rattle.isolation.specs.Statement.{SameSets, ScriptsAgree, StartedOnTime}
use Rattle.pirkvezo.specs.Answers.{answer_length, fourth_of, third_of}
use Rattle.pirkvezo.specs.LogQuery.{LogCall, host_log}
use Rattle.pirkvezo.specs.Numbers.{state_clock_offset, completed_offset, plan_of}
use Rattle.pirkvezo.specs.Numbers.{positions_offset, state_numbers}
use Rattle.host.specs.Calls.{AllOwnArrays, Arrays, HostCall, HostList, IsHostList, IsTextList}
use Rattle.host.specs.Calls.{ReadArrays, after_host_call, arrays_left, host_log_call, host_point_of}
use Rattle.host.specs.Calls.{host_run_call, host_step_call, is_refusal, number_returned}

-- the run of a list: its plan array stands for a plan
abbrev pub run_of_host : HostList → FreshRun
run_of_host list = record { plan = plan_of list.plan; scripts = list.scripts; log = list.log }

-- a world of the machine, in arrays
abbrev pub arrays_of : World → Arrays
arrays_of world =
    record {
      state = state_numbers world.state;
      cache = world.cache;
      boxes = world.boxes;
      log = world.log;
    }

-- what a call on the list's own arrays must still bring, not to be refused: an answer array of four
-- numbers; and a step or a run wants a script store of 2,048 numbers, a log query the number of a
-- declared domain
abbrev pub HostAdmissible : HostList → HostCall → Type 0
HostAdmissible list (host_step_call arrays) =
    (length arrays.answer ≡ answer_length) × (length list.scripts ≡ scripts_length)
HostAdmissible list (host_run_call arrays limit) =
    (length arrays.answer ≡ answer_length) × (length list.scripts ≡ scripts_length)
HostAdmissible list (host_log_call arrays domain) =
    (length arrays.answer ≡ answer_length) × (domain < (plan_of list.plan).domains)

-- the number with which any other is refused: 4 where it is only that the domain is not declared,
-- and else 11
abbrev pub refusal_number : HostCall → ℕ
refusal_number (host_step_call arrays) = 11
refusal_number (host_run_call arrays limit) = 11
refusal_number (host_log_call arrays domain) = cond (eqb (length arrays.answer) answer_length) 4 11

-- ---- (A)

-- each window so far started when the plan says
abbrev pub HostWindowsOnTime : HostList → Type 0
HostWindowsOnTime list =
    (window : ℕ)
    → window ≤ windows_after (run_of_host list) (host_point_of list)
    → StartedOnTime (run_of_host list) (host_point_of list) window

-- ---- (B): its premises

-- what two lists must have in common, over a predicate that names domains: the plan's numbers, the
-- named domains' scripts, the logs' length; they end at corresponding points, and the boxes
-- addressed to named domains were equal at the start of each of their windows so far
pub record HostComparableFor (Named : ℕ → Type 0) (one other : HostList) : Type 0 where
  pub plans : one.plan ≡ other.plan
  pub declared : (domain : ℕ) → Named domain → domain < (plan_of one.plan).domains
  pub scripts : ScriptsAgree Named one.scripts other.scripts
  pub logs : length one.log ≡ length other.log
  pub points :
      Correspond Named (run_of_host one) (host_point_of one) (run_of_host other) (host_point_of other)
  pub boxes :
      BoxesAgree Named (run_of_host one) (host_point_of one) (run_of_host other) (host_point_of other)

-- the observer alone is named
abbrev pub HostComparable : ℕ → HostList → HostList → Type 0
HostComparable observer one other = HostComparableFor (Only observer) one other

-- ---- (B): its conclusion

-- what `pirkvezo_log` shows of a domain: the number that it returns, the answer that it leaves, and
-- the bytes of the log array at the offset and of the length that are the answer's third and fourth
-- number
pub record LogShown : Type 0 where
  pub number : ℕ
  pub answer : List ℕ
  pub bytes : List ℕ

abbrev pub shown_by : List ℕ → LogCall → LogShown
shown_by log query =
    record {
      number = query.number;
      answer = query.answer;
      bytes = part (third_of query.answer) (fourth_of query.answer) log;
    }

unfoldable pub log_shown : List ℕ → List ℕ → List ℕ → ℕ → List ℕ → LogShown
log_shown plan state log domain answer = shown_by log (host_log plan state log domain answer)

-- after a list, on its own arrays
abbrev pub shown_after : HostList → ℕ → List ℕ → LogShown
shown_after list domain answer =
    log_shown list.plan (arrays_left list).state (arrays_left list).log domain answer

-- a list ends in a window of a named domain
abbrev pub HostEndsInWindowOf : (ℕ → Type 0) → HostList → Type 0
HostEndsInWindowOf Named list = InWindowOf Named (run_of_host list) (host_point_of list)

-- what the observer sees is equal after two lists
pub record HostSameSeen (observer : ℕ) (one other : HostList) : Type 0 where
  -- a query for its log, with any answer array of four numbers, returns 0 after both
  pub queried :
      (answer : List ℕ)
      → length answer ≡ answer_length
      → (shown_after one observer answer).number ≡ 0
  pub queried' :
      (answer : List ℕ)
      → length answer ≡ answer_length
      → (shown_after other observer answer).number ≡ 0
  -- it answers the same four numbers, and the bytes of the log array at that offset and of that
  -- length are equal
  pub log :
      (answer answer' : List ℕ)
      → length answer ≡ answer_length
      → length answer' ≡ answer_length
      → shown_after one observer answer ≡ shown_after other observer answer'
  -- its script position
  pub position :
      get_or (arrays_left one).state (positions_offset + observer) 0
      ≡ get_or (arrays_left other).state (positions_offset + observer) 0
  -- its part of the partitioned cache, entry by entry
  pub sets :
      SameSets (plan_of one.plan) observer (arrays_left one).cache (arrays_left other).cache
  -- the number of ops in each window that it has completed
  pub ops :
      (window : ℕ)
      → window < get_or (arrays_left one).state completed_offset 0
      → window_owner (plan_of one.plan) window ≡ observer
      → ops_of (run_of_host one) window (host_point_of one)
      ≡ ops_of (run_of_host other) window (host_point_of other)
  -- in its own window: the clock, L1, the kernel's sets, and the boxes addressed to it
  pub clock :
      HostEndsInWindowOf (Only observer) one
      → get_or (arrays_left one).state state_clock_offset 0 ≡ get_or (arrays_left other).state state_clock_offset 0
  pub l1 :
      HostEndsInWindowOf (Only observer) one
      → SameL1 (arrays_left one).cache (arrays_left other).cache
  pub kernel_sets :
      HostEndsInWindowOf (Only observer) one
      → SameKernelSets (arrays_left one).cache (arrays_left other).cache
  pub boxes :
      HostEndsInWindowOf (Only observer) one
      → (sender : ℕ)
      → sender < most_domains
      → get_or (arrays_left one).boxes (box_index sender observer) 0
      ≡ get_or (arrays_left other).boxes (box_index sender observer) 0

-- ---- one list

pub record HostListLaws (list : HostList) : Type 0 where
  -- what it leaves in its arrays is what the machine's steps from a fresh start leave
  pub leaves : arrays_left list ≡ arrays_of (world_after (run_of_host list) (host_point_of list))
  -- one more call on its own arrays: if it is admissible it returns 0
  pub accepted :
      (call : HostCall)
      → AllOwnArrays call
      → HostAdmissible list call
      → number_returned list.plan list.scripts call (arrays_left list) ≡ 0
  -- and else it is refused, with 11 or with 4
  pub refused :
      (call : HostCall)
      → AllOwnArrays call
      → (HostAdmissible list call → ⊥)
      → number_returned list.plan list.scripts call (arrays_left list) ≡ refusal_number call
  -- a refused call, whatever it was handed, leaves every array of the list's own as it was
  pub unchanged :
      (call : HostCall)
      → is_refusal (number_returned list.plan list.scripts call (arrays_left list)) ≡ true
      → after_host_call list.plan list.scripts call (arrays_left list) ≡ arrays_left list

-- ---- demand 3

pub record HostIsolation : Type 1 where
  -- (A)
  pub on_time : (list : HostList) → IsHostList list → HostWindowsOnTime list
  -- (B)
  pub isolated :
      (observer : ℕ) (one other : HostList)
      → IsHostList one
      → IsHostList other
      → HostComparable observer one other
      → HostSameSeen observer one other
  -- (B) of any set of domains: each of its members sees the same
  pub together :
      (Named : ℕ → Type 0)
      → ((domain : ℕ) → Dec (Named domain))
      → (one other : HostList)
      → IsHostList one
      → IsHostList other
      → HostComparableFor Named one other
      → (member : ℕ)
      → Named member
      → HostSameSeen member one other
  pub laws : (list : HostList) → IsHostList list → HostListLaws list
  -- a list from a text is such a list: its fresh start is never refused
  pub from_text : (arrays : ReadArrays) (list : HostList) → IsTextList arrays list → IsHostList list
  -- and its run is that of the plan and the script store that the text gives
  pub run_of_text :
      (arrays : ReadArrays) (list : HostList)
      → IsTextList arrays list
      → run_of_host list
      ≡ record {
        plan = (read_of arrays.text arrays.scripts).plan;
        scripts = (read_of arrays.text arrays.scripts).scripts;
        log = list.log;
      }
