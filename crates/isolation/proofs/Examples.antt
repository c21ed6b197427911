-- Examples that compute. Two lists of calls that may be compared and that have something to see: the rivals' ops
-- differ, the observer gets a message in each of its two windows, a running's limit ends inside the second, and a call
-- that was handed some things of others is refused. And that demand 3 needs what it assumes: without the premise on
-- boxes it fails, and so it does with masks that overlap. Assumes nothing.
use Prim.Native.Nat.{ℕ, zero, suc, ◌+◌, ◌-◌, ◌*◌, ◌≤◌, ◌<◌}
use mathlib.Core.Bool.{Bool, true}
use mathlib.Core.List.{List, [], ◌∷◌, ◌++◌, map}
use mathlib.Core.Logic.{inl, inr}
use mathlib.Core.Path.{◌≡◌, refl, sym, ap, ◌∙◌}
use native.Mathlib.Omega.{arith}
use borrow.Author.Tests.{eqb-true}
use lib.Dec.{eqb}
use lib.ListN.{get_or-append, get_or, length, replicate}
use Rattle.script.specs.declared.Op.{Op}
use Rattle.script.specs.declared.Op.TheVariants.{Read, Write, Send, Receive, Compute}
use Rattle.script.specs.Limits.{most_ops, scripts_length}
use Rattle.script.specs.Stored.{stored_of}
use Rattle.plan.specs.declared.Plan.{Plan}
use Rattle.plan.specs.Limits.{most_domains, most_windows}
use Rattle.plan.specs.Sums.{all_below}
use Rattle.plan.specs.Validity.{plan_valid}
use Rattle.plan.specs.Windows.{window_owner, windows_total}
use Rattle.plan.proofs.Sums.{all_below_lem}
use Rattle.cache.specs.Lines.{table_length}
use Rattle.ops.specs.Ops.{box_index, boxes_length}
use Rattle.machine.specs.LeastPad.{with_pad}
use Rattle.state.specs.declared.State.{State}
use Rattle.state.specs.World.{World, position_at, records_at}
use Rattle.engine.specs.LogQuery.{log_query_of}
use Rattle.engine.proofs.Computing as engine
use Rattle.isolation.specs.Calls.{CallList, IsList, LogThings, Proper, RunThings, foreign, own}
use Rattle.isolation.specs.Calls.{log_call, log_status, run_call, step_call}
use Rattle.isolation.specs.Calls.{after_call, after_calls, leaves_of, log_answer, point_of, run_answer, start_world, step_answer}
use Rattle.isolation.specs.Calls.{is_refused, steps_counted, steps_of_calls, verdict_of}
use Rattle.isolation.specs.Points.{FreshRun, InWindowOf, SameBoxesTo, Starts, ops_of, windows_after, world_after}
use Rattle.isolation.specs.Statement.{BoxesAgree, Comparable, Correspond, InCommon, Only, SamePlan, SameSeen, StartedOnTime}
use Rattle.isolation.specs.Statement.{ScriptsAgree, run_of_list}
use Rattle.isolation.proofs.Isolation.{isolation}
use Rattle.isolation.proofs.TwoRuns.{Same}
use Rattle.isolation.proofs.TwoRuns.Progress.{no_fewer, one_start}

-- ---- one plan and two script stores

-- three domains with 5, 6 and 4 colours, all that there are; the observer is 0, and 1 may send to it; the windows 1, 0, 2
-- twice
abbrev pub plan : Plan
plan =
    record {
      pad = 376;
      run = 2;
      domains = 3;
      windows = 3;
      shares = 300 ∷ 400 ∷ 270 ∷ 0 ∷ 0 ∷ 0 ∷ 0 ∷ 0 ∷ [];
      rights = 0 ∷ 1 ∷ 2 ∷ 0 ∷ 0 ∷ 0 ∷ 0 ∷ 0 ∷ [];
      owners = 1 ∷ 0 ∷ 2 ∷ replicate (most_windows - 3) 0;
      lengths = 300 ∷ 300 ∷ 300 ∷ replicate (most_windows - 3) 0;
      masks = 31 ∷ 2_016 ∷ 30_720 ∷ 0 ∷ 0 ∷ 0 ∷ 0 ∷ 0 ∷ [];
    }

-- a domain's numbers in the store
abbrev script : List Op → List ℕ
script ops = map stored_of ops ++ replicate (most_ops - length ops) 0

abbrev mine : List ℕ
mine = script (Receive 1 ∷ Read 17 ∷ Read 81 ∷ Receive 1 ∷ Read 17 ∷ Compute 7 ∷ Write 5 ∷ [])

-- in one run a rival sends two words; in the other it writes, and overwrites a word that it sent; and the third domain
-- computes, or sends and reads
abbrev rivals : List ℕ
rivals =
    script (Send 0 77 ∷ Read 40 ∷ Send 0 88 ∷ [])
    ++ (script (Compute 200 ∷ Compute 200 ∷ []) ++ replicate (scripts_length - 3 * most_ops) 0)

abbrev rivals' : List ℕ
rivals' =
    script (Write 30 ∷ Send 0 77 ∷ Send 0 99 ∷ Send 0 88 ∷ [])
    ++ (script (Send 1 5 ∷ Read 46 ∷ Write 47 ∷ Read 57 ∷ []) ++ replicate (scripts_length - 3 * most_ops) 0)

-- ---- two lists of calls

abbrev garbage : State
garbage = record { windows = 9; clock = 5; positions = []; records = [] }

-- what a call is handed: all of the list's own, or a mixture with another state and a table of no length
abbrev own_things : RunThings
own_things = record { plan = own; scripts = own; state = own; cache = own; boxes = own; log = own }

abbrev mixed_things : RunThings
mixed_things = record { plan = own; scripts = own; state = foreign garbage; cache = foreign []; boxes = own; log = own }

abbrev log_things : LogThings
log_things = record { plan = own; state = own; log = own }

-- the first list steps once, has a call on mixed things refused, runs on into the observer's second window, and asks
abbrev pub one : CallList
one =
    record {
      plan = plan;
      scripts = mine ++ rivals;
      log = replicate 192 0;
      old_state = garbage;
      old_cache = replicate table_length 7;
      old_boxes = replicate boxes_length 70_000;
      calls =
          step_call own_things
          ∷ run_call mixed_things 9
          ∷ run_call own_things 13
          ∷ log_call log_things 0
          ∷ log_status log_things 7
          ∷ [];
    }

-- the second asks between two runs; its run takes two steps more to the same point
abbrev pub other : CallList
other =
    record {
      plan = plan;
      scripts = mine ++ rivals';
      log = replicate 192 255;
      old_state = garbage;
      old_cache = replicate table_length 9;
      old_boxes = replicate boxes_length 1;
      calls = run_call own_things 9 ∷ log_call log_things 0 ∷ run_call own_things 7 ∷ [];
    }

-- every definition that the examples compute with, named once
unfoldable pub computing : ℕ
unfolding
    engine.computing
    run_answer step_answer log_answer after_call verdict_of steps_counted after_calls steps_of_calls
    Proper start_world world_after ops_of
computing = 0

pub one_is : IsList one
unfolding computing
one_is =
    record {
      started = refl;
      proper = (
        inr (tt, tt, tt, tt, tt, tt),
        (inl refl, (inr (tt, tt, tt, tt, tt, tt), (inr (tt, tt, tt), (inr (tt, tt, tt), tt)))),
      );
    }

pub other_is : IsList other
unfolding computing
other_is =
    record { started = refl; proper = (inr (tt, tt, tt, tt, tt, tt), (inr (tt, tt, tt), (inr (tt, tt, tt, tt, tt, tt), tt))) }

-- ---- they may be compared

-- stores that begin with the observer's numbers agree on them
scripts_agree :
    (numbers rest rest' : List ℕ)
    → length numbers ≡ most_ops
    → ScriptsAgree (Only 0) (numbers ++ rest) (numbers ++ rest')
scripts_agree numbers rest rest' long domain observer index below =
    let here : most_ops * domain + index ≡ index = omega arith in
    let within : index < length numbers = omega arith in
    rw here (get_or-append numbers rest 0 index within ∙ sym (get_or-append numbers rest' 0 index within))

-- boxes that pass eight tests
abbrev same_box : ℕ → World → World → ℕ → Bool
same_box domain world world' sender =
    eqb (get_or world.boxes (box_index sender domain) 0) (get_or world'.boxes (box_index sender domain) 0)

boxes_by_test :
    (domain : ℕ) (world world' : World)
    → all_below (same_box domain world world') most_domains ≡ true
    → SameBoxesTo (Only domain) world world'
boxes_by_test domain world world' tests sender recipient below is =
    rw is (eqb-true _ _ (all_below_lem (same_box domain world world') most_domains sender tests below))

-- the step that completes a window starts the next
starts_after :
    (run : FreshRun)
    → plan_valid run.plan ≡ true
    → (window last : ℕ)
    → windows_after run last ≡ window
    → windows_after run (suc last) ≡ suc window
    → Starts run (suc window) (suc last)
starts_after run possible window last within past =
    record { reached = past; first = λ earlier below. omega (arith, no_fewer run possible earlier last (omega arith)) }

-- the observer's windows are 1 and 4
data Observed : ℕ → Type 0 where
  second : Observed 1
  fifth : Observed 4

observed : (window : ℕ) → window < windows_total plan → window_owner plan window ≡ 0 → Observed window
unfolding computing
observed zero room owner = absurd (omega arith)
observed (suc zero) room owner = second
observed (suc (suc zero)) room owner = absurd (omega arith)
observed (suc (suc (suc zero))) room owner = absurd (omega arith)
observed (suc (suc (suc (suc zero)))) room owner = fifth
observed (suc (suc (suc (suc (suc zero))))) room owner = absurd (omega arith)
observed (suc (suc (suc (suc (suc (suc window)))))) room owner = absurd (omega arith)

-- at their starts the boxes addressed to it are equal
boxes_there :
    (window at at' : ℕ)
    → Observed window
    → Starts (run_of_list one) window at
    → Starts (run_of_list other) window at'
    → SameBoxesTo (Only 0) (world_after (run_of_list one) at) (world_after (run_of_list other) at')
unfolding computing
boxes_there window at at' second s s' =
    rw (
      one_start (run_of_list one) 1 at 3 s (starts_after (run_of_list one) refl 0 2 refl refl),
      one_start (run_of_list other) 1 at' 3 s' (starts_after (run_of_list other) refl 0 2 refl refl),
    )
    (boxes_by_test 0 (world_after (run_of_list one) 3) (world_after (run_of_list other) 3) refl)
boxes_there window at at' fifth s s' =
    rw (
      one_start (run_of_list one) 4 at 12 s (starts_after (run_of_list one) refl 3 11 refl refl),
      one_start (run_of_list other) 4 at' 14 s' (starts_after (run_of_list other) refl 3 13 refl refl),
    )
    (boxes_by_test 0 (world_after (run_of_list one) 12) (world_after (run_of_list other) 14) refl)

pub comparable : Comparable 0 one other
unfolding computing
comparable =
    record {
      common =
          record {
            plans = refl;
            declared = λ domain is. omega arith;
            scripts = scripts_agree mine rivals rivals' refl;
            logs = refl;
          };
      points = record { windows = refl; ops = λ within. refl };
      boxes = λ window at at' room owner s so_far s' so_far'. boxes_there window at at' (observed window room owner) s s';
    }

-- so the observer sees the same after both
pub seen : SameSeen 0 one other
seen = isolation.isolated 0 one other one_is other_is comparable

-- ---- and there is something to see

abbrev handed_back : CallList → ℕ → List ℕ
handed_back list domain = log_query_of list.plan (leaves_of list).state (leaves_of list).log domain

-- the lists end after 14 and after 16 steps, both in the observer's second window, after two of its ops there
pub mid_window :
    (point_of one ≡ 14)
    × (point_of other ≡ 16)
    × InWindowOf (Only 0) (run_of_list one) (point_of one)
    × (ops_of (run_of_list one) 4 (point_of one) ≡ 2)
unfolding computing
mid_window = (refl, refl, record { not_ended = omega arith; owner = refl }, refl)

-- a host that stops both after 14 steps shows the observer five records of one run and three of the other: a limit on
-- steps is no corresponding point
pub fourteen_steps :
    (records_at (world_after (run_of_list one) 14).state 0 ≡ 5) × (records_at (world_after (run_of_list other) 14).state 0 ≡ 3)
unfolding computing
fourteen_steps = (refl, refl)

-- the call on mixed things was refused
pub mixed_refused :
    is_refused (verdict_of plan (mine ++ rivals) (run_call mixed_things 9) (world_after (run_of_list one) 1)) ≡ true
unfolding computing
mixed_refused = refl

-- the observer was sent 77 in its first window and 88 in its second: the kinds and values of its first and fourth
-- records
pub received :
    (get_or (handed_back one 0) 0 0 ≡ 5)
    × (get_or (handed_back one 0) 2 0 ≡ 77)
    × (get_or (handed_back one 0) 24 0 ≡ 5)
    × (get_or (handed_back one 0) 26 0 ≡ 88)
unfolding computing
received = (refl, refl, refl, refl)

-- its rivals did different things: 1 got further in one run, and 2 saw another first record
pub rivals_differ :
    (position_at (leaves_of one).state 1 ≡ 3)
    × (position_at (leaves_of other).state 1 ≡ 4)
    × (get_or (handed_back one 2) 0 0 ≡ 8)
    × (get_or (handed_back other 2) 0 0 ≡ 4)
unfolding computing
rivals_differ = (refl, refl, refl, refl)

-- ---- without the premise on boxes it fails

-- a store in which the observer and its first rival have one op each
abbrev rival : Op → List ℕ
rival op = script (op ∷ []) ++ replicate (scripts_length - 2 * most_ops) 0

-- a rival sends a word, and the observer receives it
abbrev sends : ℕ → CallList
sends word =
    record {
      plan = plan;
      scripts = script (Receive 1 ∷ []) ++ rival (Send 0 word);
      log = replicate 192 0;
      old_state = garbage;
      old_cache = replicate table_length 0;
      old_boxes = replicate boxes_length 0;
      calls = run_call own_things 3 ∷ [];
    }

pub boxes_needed :
    ((observer : ℕ) (one other : CallList)
    → IsList one
    → IsList other
    → InCommon (Only observer) one other
    → Correspond (Only observer) (run_of_list one) (point_of one) (run_of_list other) (point_of other)
    → SameSeen observer one other)
    → ⊥
unfolding computing
boxes_needed claim =
    let same =
    claim 0 (sends 77) (sends 78)
    (record { started = refl; proper = (inr (tt, tt, tt, tt, tt, tt), tt) })
    (record { started = refl; proper = (inr (tt, tt, tt, tt, tt, tt), tt) })
    (record {
      plans = refl;
      declared = λ domain is. omega arith;
      scripts = scripts_agree (script (Receive 1 ∷ [])) (rival (Send 0 77)) (rival (Send 0 78)) refl;
      logs = refl;
    })
    (record { windows = refl; ops = λ within. refl })
    in
    let word : ◌≡◌ {A = ℕ} 77 78 = ap (λ (log : List ℕ). get_or log 2 0) same.log in
    omega arith

-- ---- with masks that overlap it fails

-- the plan above, but domain 1 is let the observer's colours
abbrev overlapping : Plan
overlapping =
    record {
      pad = plan.pad;
      run = plan.run;
      domains = plan.domains;
      windows = plan.windows;
      shares = plan.shares;
      rights = plan.rights;
      owners = plan.owners;
      lengths = plan.lengths;
      masks = 31 ∷ 31 ∷ 30_720 ∷ 0 ∷ 0 ∷ 0 ∷ 0 ∷ 0 ∷ [];
    }

-- the observer reads a line that its rival read before it, or did not
abbrev reads : Op → FreshRun
reads op = record { plan = overlapping; scripts = script (Read 3 ∷ []) ++ rival op; log = replicate 192 0 }

-- no box is full in the first three steps
abbrev box_empty : FreshRun → ℕ → ℕ → Bool
box_empty run count index = eqb (get_or (world_after run count).boxes index 0) 0

abbrev boxes_empty : FreshRun → ℕ → Bool
boxes_empty run count = all_below (box_empty run count) boxes_length

no_mail :
    (run : FreshRun)
    → all_below (boxes_empty run) 4 ≡ true
    → (count index : ℕ)
    → count ≤ 3
    → index < boxes_length
    → get_or (world_after run count).boxes index 0 ≡ 0
no_mail run tests count index early below =
    let empty = all_below_lem (boxes_empty run) 4 count tests (omega arith) in
    eqb-true _ _ (all_below_lem (box_empty run count) boxes_length index empty below)

pub masks_needed :
    ((observer : ℕ) (one : FreshRun) (count : ℕ) (other : FreshRun) (count' : ℕ)
    → SamePlan (Only observer) one.plan other.plan
    → observer < one.plan.domains
    → ScriptsAgree (Only observer) one.scripts other.scripts
    → length one.log ≡ length other.log
    → Correspond (Only observer) one count other count'
    → BoxesAgree (Only observer) one count other count'
    → Same observer one count other count')
    → ⊥
unfolding computing
masks_needed claim =
    let same =
    claim 0 (reads (Read 3)) 3 (reads (Compute 5)) 3 refl (omega arith)
    (scripts_agree (script (Read 3 ∷ [])) (rival (Read 3)) (rival (Compute 5)) refl)
    refl
    (record { windows = refl; ops = λ within. refl })
    (λ window at at' room owner s so_far s' so_far' sender recipient below is.
    no_mail (reads (Read 3)) refl at (box_index sender recipient) so_far (omega arith)
    ∙ sym (no_mail (reads (Compute 5)) refl at' (box_index sender recipient) so_far' (omega arith)))
    in
    let kind : ◌≡◌ {A = ℕ} 2 3 = ap (λ (log : List ℕ). get_or log 0 0) same.log in
    omega arith

-- ---- with a pad of 0 windows start late

-- the plan above without its pad
abbrev no_pad : FreshRun
no_pad = record { plan = with_pad plan 0; scripts = replicate scripts_length 0; log = replicate 192 0 }

-- nobody has an op: the first step is the first window's switch
first_switch : (earlier : ℕ) → earlier < 1 → windows_after no_pad earlier < 1
unfolding computing
first_switch zero below = omega arith
first_switch (suc earlier) below = absurd (omega arith)

-- (A) fails: the two flushes take 8 ticks each and the touch takes 100, and the second window starts at 416 and not at 300
pub pad_needed :
    ((run : FreshRun) (count window : ℕ) → window ≤ windows_after run count → StartedOnTime run count window) → ⊥
unfolding computing
pad_needed claim =
    let t = claim no_pad 1 1 (omega arith) in
    let at_first : t.at ≡ 1 = one_start no_pad 1 t.at 1 t.starts (record { reached = refl; first = first_switch }) in
    let late : ◌≡◌ {A = ℕ} 416 300 = ap (λ (at : ℕ). (world_after no_pad at).state.clock) (sym at_first) ∙ t.on_time in
    omega arith
