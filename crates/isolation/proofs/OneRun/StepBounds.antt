-- The steps that the calls of a list answer: each call brings the list's run as far as it says. Assumes nothing.
use Rattle.std.specs.Prelude.{Ok, Err}
use Prim.Native.Nat.{ℕ, ◌+◌, ◌≤◌, ◌<◌}
use mathlib.Core.Bool.{Bool, true, false, false≢true}
use mathlib.Core.List.{List, [], ◌∷◌}
use mathlib.Core.Logic.{◌⊎◌, inl, inr}
use mathlib.Core.Path.{◌≡◌, refl, sym, ap, subst, ◌∙◌}
use native.Mathlib.Omega.{arith}
use lib.ListN.{length}
use Rattle.plan.specs.declared.Plan.{Plan}
use Rattle.plan.specs.Limits.{most_domains}
use Rattle.plan.specs.Sums.{sum_to}
use Rattle.plan.specs.Validity.{plan_valid}
use Rattle.plan.specs.Windows.{window_start}
use Rattle.script.specs.Limits.{scripts_length}
use Rattle.bound.specs.Bound.{step_bound}
use Rattle.records.specs.Records.{part_records}
use Rattle.state.specs.World.{World, ended_of, fresh_state}
use Rattle.machine.specs.Fresh.{fresh_world}
use Rattle.machine.specs.Steps.{run_of, steps}
use Rattle.reachable.proofs.Cells.{zeros_length}
use Rattle.reachable.proofs.Ending.{before_end, run_whole, steps_are, steps_within}
use Rattle.reachable.proofs.Progress.{Further, progress_of, run_further}
use Rattle.reachable.proofs.WindowSteps.{all_windows, window_steps_lem}
use Rattle.engine.specs.Checks.{run_verdict}
use Rattle.engine.specs.declared.Ending.TheVariants.{Ended}
use Rattle.engine.specs.Running.{ending_of, ran_from, run_call_of, run_from, step_call_of}
use Rattle.isolation.specs.Calls.{AllOwn, Call, CallList, IsList, OwnRun, Proper, RunThings, after_call, after_calls}
use Rattle.isolation.specs.Calls.{is_refused, leaves_of, log_call, log_status, point_of, run_answer, run_call}
use Rattle.isolation.specs.Calls.{start_world, step_answer, step_call, verdict_of}
use Rattle.isolation.specs.Points.{world_after}
use Rattle.isolation.specs.Statement.{run_of_list}
use Rattle.isolation.specs.StepBounds.{ListsBounded, answered_by, answered_together, steps_answered}
use Rattle.isolation.proofs.OneRun.Accepted.{run_verdict_accepted}
use Rattle.isolation.proofs.OneRun.Calls.{all_own, refused_stays}
use Rattle.isolation.proofs.OneRun.Leaves.{leaves, list_start, list_valid, steps_later}
use Rattle.refusal.specs.Verdict.{Verdict}

-- ---- a run, refused or not

-- a world stays where it is
stays : (world : World) → length world.state.positions ≡ most_domains → Further world 0 world
stays world eight = record { eight = eight; far = omega arith }

-- it goes as far as the steps that it answers
run_goes : (plan : Plan) (scripts : List ℕ) (world : World) (limit : ℕ) → plan_valid plan ≡ true → length world.state.positions ≡ most_domains
    → Further world (run_call_of plan scripts world limit).steps (run_call_of plan scripts world limit).world
unfolding run_call_of ran_from
run_goes plan scripts world limit possible eight = go (run_verdict plan scripts world)
  where
    go : (verdict : Verdict) → Further world (run_from verdict plan scripts world limit).steps (run_from verdict plan scripts world limit).world
    go (Ok tt) = run_further plan scripts (part_records plan (length world.log)) possible limit world eight
    go (Err refusal) = stays world eight

-- a refused one answers none
refused_none : (plan : Plan) (scripts : List ℕ) (world : World) (limit : ℕ) → is_refused (run_call_of plan scripts world limit).verdict ≡ true
    → (run_call_of plan scripts world limit).steps ≡ 0
unfolding run_call_of ran_from
refused_none plan scripts world limit = go (run_verdict plan scripts world)
  where
    go : (verdict : Verdict) → is_refused (run_from verdict plan scripts world limit).verdict ≡ true → (run_from verdict plan scripts world limit).steps ≡ 0
    go (Ok tt) refused = absurd (false≢true refused)
    go (Err refusal) refused = refl

-- ---- a call on a list's own world

module _ (plan : Plan) (scripts : List ℕ) (possible : plan_valid plan ≡ true) where
  refused_answers : (call : Call) (world : World) → is_refused (verdict_of plan scripts call world) ≡ true → steps_answered plan scripts call world ≡ 0
  unfolding verdict_of steps_answered step_answer run_answer step_call_of
  refused_answers (step_call things) world refused = refused_none _ _ _ 1 refused
  refused_answers (run_call things limit) world refused = refused_none _ _ _ limit refused
  refused_answers (log_call things domain) world refused = refl
  refused_answers (log_status things domain) world refused = refl

  own_goes : (call : Call) (world : World) → AllOwn call → length world.state.positions ≡ most_domains
      → Further world (steps_answered plan scripts call world) (after_call plan scripts call world)
  unfolding after_call steps_answered step_answer run_answer step_call_of
  own_goes (step_call things) world owned eight =
      subst (λ handed-things. Further world (steps_answered plan scripts (step_call handed-things) world) (after_call plan scripts (step_call handed-things) world))
      (sym (all_own things owned)) (run_goes plan scripts world 1 possible eight)
  own_goes (run_call things limit) world owned eight =
      subst (λ handed-things. Further world (steps_answered plan scripts (run_call handed-things limit) world) (after_call plan scripts (run_call handed-things limit) world))
      (sym (all_own things owned)) (run_goes plan scripts world limit possible eight)
  own_goes (log_call things domain) world owned eight = stays world eight
  own_goes (log_status things domain) world owned eight = stays world eight

  call_goes : (call : Call) (world : World)
      → (is_refused (verdict_of plan scripts call world) ≡ true) ⊎ AllOwn call
      → length world.state.positions ≡ most_domains
      → Further world (steps_answered plan scripts call world) (after_call plan scripts call world)
  call_goes call world (inl refused) eight =
      rw (refused_answers call world refused, refused_stays plan scripts call world refused) (stays world eight)
  call_goes call world (inr owned) eight = own_goes call world owned eight

  calls_go : (calls : List Call) (world : World) → Proper plan scripts calls world → length world.state.positions ≡ most_domains
      → Further world (answered_together plan scripts calls world) (after_calls plan scripts calls world)
  unfolding Proper answered_together after_calls
  calls_go [] world proper eight = stays world eight
  calls_go (call ∷ calls) world proper eight =
      let first = call_goes call world proper.0 eight in
      let rest = calls_go calls (after_call plan scripts call world) proper.1 first.eight in
      record { eight = rest.eight; far = omega (arith, first.far, rest.far) }

-- ---- a list

module _ (list : CallList) (is : IsList list) where
  abbrev quota : ℕ
  quota = part_records list.plan (length list.log)

  abbrev possible_plan : plan_valid list.plan ≡ true
  possible_plan = list_valid list is

  -- its calls answer as many steps as its run has come far
  counted : answered_by list ≡ progress_of (leaves_of list)
  unfolding fresh_world fresh_state sum_to
  counted =
      let start = list_start list is in
      let eight = ap (λ (world : World). length world.state.positions) start ∙ zeros_length most_domains in
      let none : progress_of (start_world list) ≡ 0 = ap progress_of start in
      omega (arith, none, (calls_go list.plan list.scripts possible_plan list.calls (start_world list) is.proper eight).far)

  -- which is what its run does in as many steps as it asked for
  run_does : (run_of list.plan list.scripts quota (point_of list) (fresh_world list.log)).done ≡ answered_by list
  unfolding world_after
  run_does =
      steps_are list.plan list.scripts quota possible_plan (point_of list) list.log
      ∙ ap progress_of (sym (leaves list is)) ∙ sym counted

  within : answered_by list ≤ step_bound list.plan list.scripts
  within = subst (λ done. done ≤ step_bound list.plan list.scripts) run_does
      (steps_within list.plan list.scripts quota possible_plan (point_of list) list.log)

  -- ---- one running more

  -- it is not refused
  passes : length list.scripts ≡ scripts_length → run_verdict list.plan list.scripts (leaves_of list) ≡ Ok tt
  passes store =
      subst (λ world. run_verdict list.plan list.scripts world ≡ Ok tt) (sym (leaves list is))
      (run_verdict_accepted (run_of_list list) (point_of list) possible_plan store)

  -- the world that it leaves, which the list's run reaches as many steps later
  abbrev after : ℕ → World
  after limit = steps list.plan list.scripts (part_records list.plan (length (leaves_of list).log)) limit (leaves_of list)

  after_is : (limit : ℕ) → after limit ≡ world_after (run_of_list list) (point_of list + limit)
  after_is limit =
      ap (λ from. steps list.plan list.scripts (part_records list.plan (length from.log)) limit from) (leaves list is)
      ∙ steps_later (run_of_list list) possible_plan (point_of list) limit

  over : (limit : ℕ) → step_bound list.plan list.scripts ≤ answered_by list + limit → ended_of list.plan (after limit).state ≡ true
  unfolding world_after fresh_world fresh_state
  over limit enough = go (ended_of list.plan (after limit).state) refl
    where
      eight : length (leaves_of list).state.positions ≡ most_domains
      eight =
          ap (λ (world : World). length world.state.positions) (leaves list is)
          ∙ (run_further list.plan list.scripts quota possible_plan (point_of list) (fresh_world list.log) (zeros_length most_domains)).eight

      go : (ended : Bool) → ended_of list.plan (after limit).state ≡ ended → ended_of list.plan (after limit).state ≡ true
      go true test = test
      go false test =
          let from = part_records list.plan (length (leaves_of list).log) in
          let whole = run_whole list.plan list.scripts from limit (leaves_of list) test in
          let goes = (run_further list.plan list.scripts from possible_plan limit (leaves_of list) eight).far in
          let less : progress_of (after limit) < step_bound list.plan list.scripts =
          subst (λ world. ended_of list.plan world.state ≡ false → progress_of world < step_bound list.plan list.scripts) (sym (after_is limit))
          (before_end list.plan list.scripts quota possible_plan (point_of list + limit) list.log) test in
          absurd (omega (arith, counted))

  ends : (things : RunThings) (limit : ℕ)
      → OwnRun things
      → length list.scripts ≡ scripts_length
      → step_bound list.plan list.scripts ≤ answered_by list + limit
      → (run_answer list.plan list.scripts things limit (leaves_of list)).ending ≡ Ended
  unfolding run_answer run_call_of ran_from
  ends things limit owned store enough =
      ap (λ handed-things. (run_answer list.plan list.scripts handed-things limit (leaves_of list)).ending) (all_own things owned)
      ∙ ap (λ (verdict : Verdict). (run_from verdict list.plan list.scripts (leaves_of list) limit).ending) (passes store)
      ∙ ap ending_of (over limit enough)

pub lists_bounded : ListsBounded
unfolding fresh_world fresh_state window_start
lists_bounded list is =
    record {
      within = within list is;
      counted = counted list is;
      ends = ends list is;
      each = λ window. window_steps_lem list.plan list.scripts (quota list is) window (point_of list) (fresh_world list.log) (omega arith);
      together = all_windows list.plan list.scripts (quota list is) (point_of list) (fresh_world list.log) ∙ run_does list is;
    }
