-- An example that computes: two lists of a host's calls under the worked example's plan, with other ops of the rival's.
-- One has calls that are refused for the length of an answer and of a plan. They end in the observer's window after
-- different numbers of steps, and a log query shows the same. Assumes nothing.
use Prim.Native.Nat.{ℕ, zero, suc, ◌+◌, ◌-◌, ◌*◌, ◌<◌}
use mathlib.Core.Bool.{true}
use mathlib.Core.List.{List, [], ◌∷◌, ◌++◌, map}
use mathlib.Core.Logic.{inl, inr}
use mathlib.Core.Path.{◌≡◌, refl}
use native.Mathlib.Omega.{arith}
use borrow.Author.Tests.{eqb-true}
use lib.Dec.{eqb}
use lib.ListN.{get_or, length, replicate}
use Rattle.plan.specs.Limits.{most_domains, most_windows}
use Rattle.plan.specs.Sums.{all_below}
use Rattle.plan.specs.Validity.{plan_valid}
use Rattle.plan.specs.Windows.{window_owner, windows_total}
use Rattle.plan.proofs.Sums.{all_below_lem}
use Rattle.script.specs.declared.Op.{Op}
use Rattle.script.specs.declared.Op.TheVariants.{Read, Write, Send, Receive, Compute}
use Rattle.script.specs.Limits.{most_ops, scripts_length}
use Rattle.script.specs.Stored.{stored_of}
use Rattle.cache.specs.Lines.{table_length}
use Rattle.ops.specs.Ops.{box_index, boxes_length}
use Rattle.state.specs.World.{World}
use Rattle.engine.proofs.Computing as engine
use Rattle.isolation.specs.Calls.{foreign, own}
use Rattle.isolation.specs.Points.{FreshRun, SameBoxesTo, Starts, ops_of, windows_after, world_after}
use Rattle.isolation.specs.Statement.{Only, ScriptsAgree}
use Rattle.isolation.proofs.TwoRuns.Progress.{no_fewer, one_start}
use Rattle.pirkvezo.specs.Answers.{answer_length, answer_of}
use Rattle.pirkvezo.specs.LogQuery.{host_log, log_answer_of, log_done}
use Rattle.pirkvezo.specs.Numbers.{numbers_from, plan_of, state_length, state_numbers, state_of}
use Rattle.pirkvezo.specs.Running.{host_run, host_run_by, host_step, run_done}
use Rattle.pirkvezo.specs.Starting.{fresh_done, host_fresh_start}
use Rattle.host.specs.Calls.{HostCall, HostList, IsHostList, LogArrays, ProperCalls, RunArrays, after_host_call}
use Rattle.host.specs.Calls.{after_host_calls, host_log_call, host_point_of, host_run_call, host_step_call, host_steps_of}
use Rattle.host.specs.Calls.{host_steps_counted, log_return, number_returned, run_return, start_arrays, step_return}
use Rattle.host.specs.Statement.{HostComparable, HostSameSeen, log_shown, run_of_host, shown_after}
use Rattle.host.proofs.Isolation.{host_isolation}

-- ---- the lists

-- the worked example's plan: domain 0 may send to 1, and each has one window
abbrev plan : List ℕ
plan =
    376 ∷ 1 ∷ 2 ∷ 2
    ∷ ((400 ∷ 300 ∷ replicate (most_domains - 2) 0)
    ++ ((2 ∷ replicate (most_domains - 1) 0)
    ++ ((0 ∷ 1 ∷ replicate (most_windows - 2) 0)
    ++ ((400 ∷ 300 ∷ replicate (most_windows - 2) 0)
    ++ (63 ∷ 1_984 ∷ replicate (most_domains - 2) 0)))))

abbrev script : List Op → List ℕ
script ops = map stored_of ops ++ replicate (most_ops - length ops) 0

-- a store in which domain 0, the rival, has ops of its own
abbrev store_with : List Op → List ℕ
store_with ops = script ops ++ (script (Receive 0 ∷ Read 100 ∷ []) ++ replicate (scripts_length - 2 * most_ops) 0)

-- every array is the list's own, or the plan is an empty one
abbrev own_with : List ℕ → RunArrays
own_with answer =
    record { plan = own; scripts = own; state = own; cache = own; boxes = own; log = own; answer = answer }

abbrev no_plan_array : RunArrays
no_plan_array =
    record {
      plan = foreign [];
      scripts = own;
      state = own;
      cache = own;
      boxes = own;
      log = own;
      answer = replicate answer_length 0;
    }

abbrev own_log : LogArrays
own_log = record { plan = own; state = own; log = own; answer = replicate answer_length 0 }

abbrev list_of : List Op → ℕ → List HostCall → HostList
list_of rival filler calls =
    record {
      plan = plan;
      scripts = store_with rival;
      log = replicate 160 filler;
      old_state = replicate state_length filler;
      old_cache = replicate table_length filler;
      old_boxes = replicate boxes_length filler;
      start_answer = replicate answer_length filler;
      calls = calls;
    }

abbrev one : HostList
one =
    list_of (Write 3 ∷ Read 3 ∷ Send 1 77 ∷ []) 7
    (host_step_call (own_with (replicate answer_length 9))
    ∷ host_run_call (own_with (replicate 3 9)) 9
    ∷ host_step_call no_plan_array
    ∷ host_run_call (own_with (replicate answer_length 9)) 5
    ∷ host_log_call own_log 1
    ∷ [])

abbrev other : HostList
other = list_of (Compute 9 ∷ Send 1 77 ∷ []) 8 (host_run_call (own_with (replicate answer_length 0)) 5 ∷ [])

-- every definition that they compute with, named once
computing : ℕ
unfolding
    engine.computing world_after ops_of
    numbers_from plan_of state_of state_numbers answer_of host_fresh_start fresh_done host_run_by host_run host_step run_done
    host_log log_answer_of log_done
    run_return step_return log_return number_returned after_host_call host_steps_counted after_host_calls host_steps_of
    ProperCalls start_arrays log_shown
computing = 0

one_is : IsHostList one
unfolding computing
one_is =
    record {
      started = refl;
      proper = (
        inr (tt, tt, tt, tt, tt, tt),
        (inl refl, (inl refl, (inr (tt, tt, tt, tt, tt, tt), (inr (tt, tt, tt), tt)))),
      );
    }

other_is : IsHostList other
unfolding computing
other_is = record { started = refl; proper = (inr (tt, tt, tt, tt, tt, tt), tt) }

-- ---- they may be compared

scripts_agree : (numbers numbers' : List ℕ)
    → all_below (λ index. eqb (get_or numbers (most_ops + index) 0) (get_or numbers' (most_ops + index) 0)) most_ops ≡ true
    → ScriptsAgree (Only 1) numbers numbers'
scripts_agree numbers numbers' tests domain observer index below =
    let here : most_ops * domain + index ≡ most_ops + index = omega arith in
    rw here
    (eqb-true _ _
    (all_below_lem (λ i. eqb (get_or numbers (most_ops + i) 0) (get_or numbers' (most_ops + i) 0)) most_ops index tests below))

-- the box from a sender to the observer
abbrev box : World → ℕ → ℕ
box world sender = get_or world.boxes (box_index sender 1) 0

boxes_by_test : (world world' : World)
    → all_below (λ sender. eqb (box world sender) (box world' sender)) most_domains ≡ true
    → SameBoxesTo (Only 1) world world'
boxes_by_test world world' tests sender recipient below is =
    rw is (eqb-true _ _ (all_below_lem (λ s. eqb (box world s) (box world' s)) most_domains sender tests below))

-- the observer has one window, the second, which a switch starts
second : (window : ℕ) → window < windows_total (plan_of plan) → window_owner (plan_of plan) window ≡ 1 → window ≡ 1
unfolding computing
second zero room owner = absurd (omega arith)
second (suc zero) room owner = refl
second (suc (suc window)) room owner = absurd (omega arith)

starts_after : (run : FreshRun) → plan_valid run.plan ≡ true → (last : ℕ)
    → windows_after run last ≡ 0
    → windows_after run (suc last) ≡ 1
    → Starts run 1 (suc last)
starts_after run valid last within past =
    record { reached = past; first = λ earlier below. omega (arith, no_fewer run valid earlier last (omega arith)) }

boxes_there : (window at at' : ℕ) → window ≡ 1 → Starts (run_of_host one) window at → Starts (run_of_host other) window at'
    → SameBoxesTo (Only 1) (world_after (run_of_host one) at) (world_after (run_of_host other) at')
unfolding computing
boxes_there window at at' is s s' =
    rw (
      one_start (run_of_host one) 1 at 4 (rw is at s) (starts_after (run_of_host one) refl 3 refl refl),
      one_start (run_of_host other) 1 at' 3 (rw is at s') (starts_after (run_of_host other) refl 2 refl refl),
    )
    (boxes_by_test (world_after (run_of_host one) 4) (world_after (run_of_host other) 3) refl)

comparable : HostComparable 1 one other
unfolding computing
comparable =
    record {
      plans = refl;
      declared = λ domain is. omega arith;
      scripts = scripts_agree one.scripts other.scripts refl;
      logs = refl;
      points = record { windows = refl; ops = λ within. refl };
      boxes = λ window at at' room owner s so_far s' so_far'. boxes_there window at at' (second window room owner) s s';
    }

-- so the observer sees the same
pub seen : HostSameSeen 1 one other
seen = host_isolation.isolated 1 one other one_is other_is comparable

-- after 6 and after 5 steps: the word 77 got at 882, and a miss of line 100 at 982
pub shown :
    (host_point_of one ≡ 6)
    × (host_point_of other ≡ 5)
    × (shown_after one 1 (replicate answer_length 0)
    ≡ record {
      number = 0;
      answer = 0 ∷ 0 ∷ 80 ∷ 16 ∷ [];
      bytes = 5 ∷ 0 ∷ 77 ∷ 0 ∷ 114 ∷ 3 ∷ 0 ∷ 0 ∷ 3 ∷ 0 ∷ 100 ∷ 0 ∷ 214 ∷ 3 ∷ 0 ∷ 0 ∷ [];
    })
unfolding computing
shown = (refl, refl, refl)
