-- Document 02, E6, of the library's C functions: what `pirkvezo_latest` tells is the latest finish
-- of a domain, and the script that it leaves reaches it. Assumes nothing.
use Rattle.std.specs.Prelude.{ℕ, ◌≤◌, List, ◌≡◌, length}
use Rattle.plan.specs.Windows.{window_owner}
use Rattle.script.specs.Limits.{most_ops}
use Rattle.state.specs.World.{World}
use Rattle.machine.specs.View.{world_with}
use Rattle.latest.specs.Bounds.{Fitting}
use Rattle.lateness.specs.Lateness.{lateness_of}
use Rattle.lateness.specs.Theorems.{IsLatest, IsScript}
use Rattle.pirkvezo.specs.Answers.{answer_length, third_of}
use Rattle.pirkvezo.specs.Finishing.{LatestCall, host_latest}
use Rattle.pirkvezo.specs.Numbers.{plan_length, plan_of, state_of}
use Rattle.host.specs.Calls.{HostList, IsHostList, arrays_left}

-- the ticks that a call tells, its answer's third number
abbrev pub ticks_told : LatestCall → ℕ
ticks_told call = third_of call.answer

-- the world that the arrays left by a host's calls stand for
abbrev pub world_left : HostList → World
world_left list =
    let held = arrays_left list in
    world_with (state_of held.state) held.cache held.boxes held.log

pub record HostLatest : Type 0 where
  -- it returns 0 where arrays have their lengths and the domain of a valid plan is declared and has
  -- windows within the limits alone
  pub answered :
      (plan : List ℕ) (domain : ℕ) (script answer : List ℕ)
      → length plan ≡ plan_length
      → length answer ≡ answer_length
      → length script ≡ most_ops
      → Fitting (plan_of plan) domain
      → (host_latest plan domain script answer).number ≡ 0
  -- where it does, it tells the maximum, of runs under the plan that the array stands for, and
  -- leaves a script that reaches it
  pub told :
      (plan : List ℕ) (domain : ℕ) (script answer : List ℕ)
      → (host_latest plan domain script answer).number ≡ 0
      → IsLatest (plan_of plan) domain (host_latest plan domain script answer).script
      (ticks_told (host_latest plan domain script answer))
  -- that script is 256 numbers: those of its ops, and then zeros
  pub left :
      (plan : List ℕ) (domain : ℕ) (script answer : List ℕ)
      → (host_latest plan domain script answer).number ≡ 0
      → IsScript (host_latest plan domain script answer).script
  -- and wherever a list of a host's calls has come to in a window of the domain, a switch taken
  -- there is no later
  pub none_later :
      (list : HostList) (domain : ℕ) (script answer : List ℕ)
      → IsHostList list
      → (host_latest list.plan domain script answer).number ≡ 0
      → window_owner (plan_of list.plan) (world_left list).state.windows ≡ domain
      → lateness_of (plan_of list.plan) (world_left list)
      ≤ ticks_told (host_latest list.plan domain script answer)
