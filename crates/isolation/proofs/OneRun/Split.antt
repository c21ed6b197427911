-- Running a + b steps after a list is running a steps, then b: the same answer, the same world, and the steps done add
-- up. Assumes nothing.
use Rattle.std.specs.Prelude.{Ok, Err}
use Prim.Native.Nat.{ℕ, ◌+◌}
use mathlib.Core.Bool.{true}
use mathlib.Core.List.{List}
use mathlib.Core.Path.{◌≡◌, sym, ap, subst, ◌∙◌}
use native.Mathlib.Decide.{ℕ_discrete}
use lib.ListN.{length}
use Rattle.plan.specs.declared.Plan.{Plan}
use Rattle.plan.specs.Validity.{plan_valid}
use Rattle.script.specs.Limits.{scripts_length}
use Rattle.records.specs.Records.{part_records}
use Rattle.state.specs.World.{World}
use Rattle.machine.specs.Steps.{run_of}
use Rattle.machine.proofs.Runs.{run_add}
use Rattle.refusal.specs.declared.Refusal.{Refusal}
use Rattle.engine.specs.Checks.{run_verdict}
use Rattle.engine.specs.Running.{RunOutcome, ran_from, run_call_of, run_from}
use Rattle.isolation.specs.Calls.{CallList, IsList, leaves_of, point_of, run_twice}
use Rattle.isolation.specs.Points.{FreshRun, world_after}
use Rattle.isolation.specs.Statement.{run_of_list}
use Rattle.isolation.proofs.OneRun.Accepted.{run_verdict_accepted}
use Rattle.isolation.proofs.OneRun.Leaves.{leaves, list_valid, quota_kept, steps_later}
use Rattle.isolation.proofs.OneRun.Verdicts.{wrong_store}
use Rattle.refusal.specs.Verdict.{Verdict}

-- an answer, with the steps that were done before it
abbrev after : ℕ → RunOutcome → RunOutcome
after done run = record { verdict = run.verdict; steps = done + run.steps; ending = run.ending; world = run.world }

module _ (plan : Plan) (scripts : List ℕ) where
  -- ---- what a run answers, by the checks' verdict

  judged : (world : World) (limit : ℕ) (verdict : Verdict) → run_verdict plan scripts world ≡ verdict
      → run_call_of plan scripts world limit ≡ run_from verdict plan scripts world limit
  unfolding run_call_of ran_from
  judged world limit verdict is = ap (λ (v : Verdict). run_from v plan scripts world limit) is

  -- ---- two runs, one after the other

  -- a refused one is refused again, on the same world
  refused_twice : (world : World) (first second : ℕ) (refusal : Refusal)
      → run_verdict plan scripts world ≡ Err refusal
      → run_call_of plan scripts world (first + second) ≡ run_twice plan scripts world first second
  unfolding run_twice
  refused_twice world first second refusal refused =
      let one = judged world first (Err refusal) refused in
      let two = judged world second (Err refusal) refused in
      judged world (first + second) (Err refusal) refused
      ∙ sym (ap (λ (r : RunOutcome). after r.steps (run_call_of plan scripts r.world second)) one ∙ ap (after 0) two)

  -- one that is not refused, and leads to a world with parts as large on which the other is not refused either
  module _ (world : World) (first second quota : ℕ) (quota_is : part_records plan (length world.log) ≡ quota)
      (accepted : run_verdict plan scripts world ≡ Ok tt) where
    -- the world that the first leaves
    abbrev later : World
    later = (run_of plan scripts quota first world).world

    ran : (limit : ℕ) → run_call_of plan scripts world limit ≡ ran_from plan (run_of plan scripts quota limit world)
    ran limit = judged world limit (Ok tt) accepted ∙ ap (λ (q : ℕ). ran_from plan (run_of plan scripts q limit world)) quota_is

    accepted_twice : run_call_of plan scripts later second ≡ ran_from plan (run_of plan scripts quota second later)
        → run_call_of plan scripts world (first + second) ≡ run_twice plan scripts world first second
    unfolding run_twice ran_from
    accepted_twice two =
        ran (first + second)
        ∙ ap (ran_from plan) (run_add _ plan scripts quota first second world)
        ∙ sym (ap (λ (r : RunOutcome). after r.steps (run_call_of plan scripts r.world second)) (ran first) ∙ ap (after (run_of plan scripts quota first world).done) two)

-- ---- after n steps of a run, and after a list

module _ (run : FreshRun) (possible : plan_valid run.plan ≡ true) (count first second : ℕ) where
  abbrev here : World
  here = world_after run count

  abbrev quota : ℕ
  quota = part_records run.plan (length run.log)

  there : (run_of run.plan run.scripts quota first here).world ≡ world_after run (count + first)
  there =
      ap (λ (q : ℕ). (run_of run.plan run.scripts q first here).world) (sym (quota_kept run possible count))
      ∙ steps_later run possible count first

  goes_on : length run.scripts ≡ scripts_length → (limit : ℕ) (world : World) (at : ℕ) → world ≡ world_after run at
      → run_call_of run.plan run.scripts world limit ≡ ran_from run.plan (run_of run.plan run.scripts quota limit world)
  goes_on store limit world at is =
      subst (λ (w : World). run_call_of run.plan run.scripts w limit ≡ ran_from run.plan (run_of run.plan run.scripts quota limit w)) (sym is)
      (ran run.plan run.scripts (world_after run at) first second quota (quota_kept run possible at)
      (run_verdict_accepted run at possible store) limit)

  split_after : Dec (length run.scripts ≡ scripts_length)
      → run_call_of run.plan run.scripts here (first + second) ≡ run_twice run.plan run.scripts here first second
  split_after (yes store) =
      accepted_twice run.plan run.scripts here first second quota (quota_kept run possible count)
      (run_verdict_accepted run count possible store) (goes_on store second _ (count + first) there)
  split_after (no differs) =
      refused_twice run.plan run.scripts here first second _ (wrong_store run.plan run.scripts here differs)

pub split : (list : CallList) → IsList list → (first second : ℕ)
    → run_call_of list.plan list.scripts (leaves_of list) (first + second) ≡ run_twice list.plan list.scripts (leaves_of list) first second
split list is first second =
    subst
    (λ (w : World). run_call_of list.plan list.scripts w (first + second) ≡ run_twice list.plan list.scripts w first second)
    (sym (leaves list is))
    (split_after (run_of_list list) (list_valid list is) (point_of list) first second (ℕ_discrete (length list.scripts) scripts_length))
