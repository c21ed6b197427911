-- The steps that a host's calls answer: as many as those of the engine's list. Assumes nothing.
use Prim.Native.Nat.{ℕ, ◌+◌, ◌≤◌}
use mathlib.Core.Bool.{Bool, true, false, false≢true, cond}
use mathlib.Core.List.{List, [], ◌∷◌}
use mathlib.Core.Logic.{◌⊎◌, inl, inr}
use mathlib.Core.Path.{◌≡◌, refl, sym, ap, subst, ◌∙◌}
use native.Mathlib.Decide.{ℕ_discrete}
use native.Mathlib.Nat.{zero-add}
use native.Mathlib.Omega.{arith}
use lib.ListN.{length}
use borrow.Author.Tests.{eq-eqb}
use Rattle.plan.specs.declared.Plan.{Plan}
use Rattle.plan.specs.Limits.{most_domains}
use Rattle.plan.specs.Sums.{sum_to}
use Rattle.plan.specs.Validity.{plan_valid}
use Rattle.plan.specs.Windows.{window_length, windows_total}
use Rattle.script.specs.Limits.{scripts_length}
use Rattle.state.specs.World.{World, position_at}
use Rattle.machine.specs.Fresh.{fresh_world}
use Rattle.engine.specs.Theorems.{steps_in_window}
use Rattle.bound.specs.Bound.{BoundAnswer}
use Rattle.bound.specs.Bound.{bound_answer_of, step_bound}
use Rattle.bound.proofs.Answers.{accepted as bound-accepted, wrong_length_lem}
use Rattle.engine.specs.declared.Ending.TheVariants.{Ended}
use Rattle.engine.specs.Running.{ending_number, run_call_of, step_call_of}
use Rattle.isolation.specs.Calls.{Call, after_call, run_answer}
use Rattle.isolation.specs.StepBounds.{ListBounded, answered_by, answered_together, steps_answered}
use Rattle.isolation.proofs.OneRun.Calls.{own_things}
use Rattle.isolation.proofs.OneRun.Leaves.{list_valid}
use Rattle.isolation.proofs.OneRun.StepBounds.{lists_bounded}
use Rattle.pirkvezo.specs.Answers.{answer_length, answer_of, fourth_of, plan_fits, third_of, verdict_number, wrong_length}
use Rattle.pirkvezo.specs.Bounding.{BoundCall, bound_done, host_bound, host_bound_with}
use Rattle.pirkvezo.specs.Numbers.{plan_length, plan_of, state_length, state_of}
use Rattle.pirkvezo.specs.Running.{RunCall, host_run, host_step, run_done}
use Rattle.pirkvezo.proofs.Calls.{lengths, read_lengths}
use Rattle.host.specs.Calls.{AllOwnArrays, Arrays, HostCall, HostList, IsHostList, OwnRunArrays, ProperCalls, RunArrays, after_host_call}
use Rattle.host.specs.Calls.{arrays_left, host_log_call, host_run_call, host_step_call, is_refusal, number_returned, run_return}
use Rattle.host.specs.Calls.{start_arrays, step_return}
use Rattle.host.specs.StepBounds.{HostListsBounded, bound_return, bound_told, host_answered_by, host_answered_together}
use Rattle.host.specs.StepBounds.{host_steps_answered, steps_told}
use Rattle.host.proofs.Calls.{accepted_fits, all_own_arrays, as_call, did_is, meant, mirrors, own_run_arrays}
use Rattle.host.proofs.Calls.{all_fit_lem, fitting, refused_keeps}
use Rattle.host.proofs.Lists.{as_calls, engine_is, engine_leaves, engine_point, engine_list, next_long, plan_long, start_long, start_meant, state_long}
use Rattle.refusal.specs.Verdict.{Verdict}

-- an answer array of four numbers is given its four
pub third_is : (verdict : Verdict) (third fourth : ℕ) (answer : List ℕ) → length answer ≡ answer_length → third_of (answer_of verdict third fourth answer) ≡ third
unfolding answer_of
third_is verdict third fourth answer four = rw (eq-eqb (length answer) answer_length four) refl

fourth_is : (verdict : Verdict) (third fourth : ℕ) (answer : List ℕ) → length answer ≡ answer_length → fourth_of (answer_of verdict third fourth answer) ≡ fourth
unfolding answer_of
fourth_is verdict third fourth answer four = rw (eq-eqb (length answer) answer_length four) refl

-- ---- one call

module _ (plan scripts : List ℕ) where
  -- a refused call answers none
  refused_none : (call : HostCall) (held : Arrays) → is_refusal (number_returned plan scripts call held) ≡ true → host_steps_answered plan scripts call held ≡ 0
  unfolding host_steps_answered number_returned
  refused_none (host_step_call arrays) held refused = rw refused refl
  refused_none (host_run_call arrays limit) held refused = rw refused refl
  refused_none (host_log_call arrays domain) held refused = refl

  -- a run that does what the engine's does answers its steps
  run_answers : (limit : ℕ) (held : Arrays) (did : RunCall) (answer : List ℕ)
      → length answer ≡ answer_length
      → did ≡ run_done (run_call_of (plan_of plan) scripts (meant held) limit) answer
      → is_refusal did.number ≡ false
      → steps_told did ≡ (run_call_of (plan_of plan) scripts (meant held) limit).steps
  unfolding run_done
  run_answers limit held did answer four is accepted =
      let ran = run_call_of (plan_of plan) scripts (meant held) limit in
      rw accepted (ap (λ (call : RunCall). third_of call.answer) is ∙ third_is ran.verdict ran.steps (ending_number ran.ending) answer four)

  -- one on the list's own arrays answers what the engine's answers
  own_run_answers : (answer : List ℕ) (limit : ℕ) (held : Arrays)
      → is_refusal (run_return plan scripts (own_run_arrays answer) limit held).number ≡ false
      → steps_told (run_return plan scripts (own_run_arrays answer) limit held) ≡ (run_call_of (plan_of plan) scripts (meant held) limit).steps
  unfolding run_return number_returned
  own_run_answers answer limit held accepted =
      let fit = accepted_fits plan scripts held (host_run_call (own_run_arrays answer) limit) (tt, tt, tt, tt, tt, tt) accepted in
      run_answers limit held _ answer (lengths plan held.state answer fit).answer_is (did_is plan scripts held limit answer fit) accepted

  run_arrays_answer : (arrays : RunArrays) (limit : ℕ) (held : Arrays) → OwnRunArrays arrays
      → is_refusal (run_return plan scripts arrays limit held).number ≡ false
      → steps_told (run_return plan scripts arrays limit held) ≡ (run_call_of (plan_of plan) scripts (meant held) limit).steps
  run_arrays_answer arrays limit held owned =
      subst (λ (a : RunArrays). is_refusal (run_return plan scripts a limit held).number ≡ false
      → steps_told (run_return plan scripts a limit held) ≡ (run_call_of (plan_of plan) scripts (meant held) limit).steps)
      (sym (all_own_arrays arrays owned)) (own_run_answers arrays.answer limit held)

  own_answers : (call : HostCall) (held : Arrays) → AllOwnArrays call → is_refusal (number_returned plan scripts call held) ≡ false
      → host_steps_answered plan scripts call held ≡ steps_answered (plan_of plan) scripts (as_call call) (meant held)
  unfolding host_steps_answered number_returned steps_answered run_answer step_return run_return host_step host_run step_call_of
  own_answers (host_step_call arrays) held owned accepted = run_arrays_answer arrays 1 held owned accepted
  own_answers (host_run_call arrays limit) held owned accepted = run_arrays_answer arrays limit held owned accepted
  own_answers (host_log_call arrays domain) held owned accepted = refl

  -- ---- some calls

  answers_same : (calls : List HostCall) (held : Arrays)
      → length held.state ≡ state_length
      → ProperCalls plan scripts calls held
      → answered_together (plan_of plan) scripts (as_calls plan scripts calls held) (meant held) ≡ host_answered_together plan scripts calls held
  unfolding ProperCalls as_calls answered_together host_answered_together
  answers_same [] held long proper = refl
  answers_same (call ∷ calls) held long proper =
      go (is_refusal (number_returned plan scripts call held)) refl proper.0
      (answers_same calls next (next_long plan scripts call held long _ refl proper.0) proper.1)
    where
      next : Arrays
      next = after_host_call plan scripts call held

      rest : List Call
      rest = as_calls plan scripts calls next

      go :
          (refused : Bool)
          → is_refusal (number_returned plan scripts call held) ≡ refused
          → (is_refusal (number_returned plan scripts call held) ≡ true) ⊎ AllOwnArrays call
          → answered_together (plan_of plan) scripts rest (meant next) ≡ host_answered_together plan scripts calls next
          → answered_together (plan_of plan) scripts (cond refused rest (as_call call ∷ rest)) (meant held)
          ≡ host_steps_answered plan scripts call held + host_answered_together plan scripts calls next
      go true test proper' same =
          ap (λ (arrays : Arrays). answered_together (plan_of plan) scripts rest (meant arrays)) (sym (refused_keeps plan scripts call held test))
          ∙ same
          ∙ sym (zero-add _)
          ∙ ap (λ none. none + host_answered_together plan scripts calls next) (sym (refused_none call held test))
      go false test (inl refused) same = absurd (false≢true (sym test ∙ refused))
      go false test (inr owned) same =
          let world = (mirrors plan scripts held call owned).world (accepted_fits plan scripts held call owned test) in
          ap (λ steps. steps + answered_together (plan_of plan) scripts rest (after_call (plan_of plan) scripts (as_call call) (meant held)))
          (sym (own_answers call held owned test))
          ∙ ap (λ later. host_steps_answered plan scripts call held + answered_together (plan_of plan) scripts rest later) (sym world)
          ∙ ap (λ more. host_steps_answered plan scripts call held + more) same

-- ---- a list

module _ (list : HostList) (is : IsHostList list) where
  abbrev plan : Plan
  plan = plan_of list.plan

  bounded : ListBounded (engine_list list)
  bounded = lists_bounded (engine_list list) (engine_is list is)

  valid : plan_valid plan ≡ true
  valid = list_valid (engine_list list) (engine_is list is)

  -- it answers as many steps as the engine's list
  answered : host_answered_by list ≡ answered_by (engine_list list)
  answered =
      sym (answers_same list.plan list.scripts list.calls (start_arrays list) (start_long list is) is.proper)
      ∙ ap (answered_together plan list.scripts (engine_list list).calls) (start_meant list is)

  counted : host_answered_by list ≡ sum_to (position_at (state_of (arrays_left list).state)) most_domains + (state_of (arrays_left list).state).windows
  counted =
      answered
      ∙ bounded.counted
      ∙ ap (λ (world : World). sum_to (position_at world.state) most_domains + world.state.windows) (engine_leaves list is)

  -- ---- what it is told of the bound

  module _ (answer : List ℕ) where
    abbrev done : BoundCall
    done = bound_done (bound_answer_of plan list.scripts) answer

    fit_call : plan_fits list.plan answer ≡ true → bound_return list answer ≡ done
    unfolding host_bound
    fit_call fit = rw (fit, host_bound) refl

    asked : length answer ≡ answer_length → length list.scripts ≡ scripts_length → (bound_return list answer).number ≡ 0
    unfolding bound_done
    asked four store =
        let fit : plan_fits list.plan answer ≡ true = rw (eq-eqb _ plan_length (plan_long list is), eq-eqb _ answer_length four) refl in
        ap (λ (call : BoundCall). call.number) (fit_call fit)
        ∙ ap (λ (found : BoundAnswer). verdict_number found.verdict) (sym (bound-accepted plan list.scripts store valid))

    -- a call that returns 0 was handed arrays of the right lengths
    fits : (bound_return list answer).number ≡ 0 → plan_fits list.plan answer ≡ true
    unfolding host_bound
    fits none =
        (fitting (λ (call : BoundCall). call.number) (plan_fits list.plan answer)
        (host_bound_with (verdict_number wrong_length) (answer_of wrong_length 0 0 answer)) done refl (ap is_refusal none)).0

    store_fits : (bound_return list answer).number ≡ 0 → length list.scripts ≡ scripts_length
    unfolding bound_done
    store_fits none = go (ℕ_discrete (length list.scripts) scripts_length)
      where
        go : Dec (length list.scripts ≡ scripts_length) → length list.scripts ≡ scripts_length
        go (yes same) = same
        go (no differs) =
            let number : ◌≡◌ {A = ℕ} 11 0 =
            ap (λ (found : BoundAnswer). verdict_number found.verdict) (wrong_length_lem plan list.scripts differs)
            ∙ sym (ap (λ (call : BoundCall). call.number) (fit_call (fits none))) ∙ none in
            absurd (omega arith)

    told : (bound_return list answer).number ≡ 0 → bound_told list answer ≡ step_bound plan list.scripts
    unfolding bound_done
    told none =
        let four = (read_lengths list.plan answer (fits none)).1 in
        let found = bound_answer_of plan list.scripts in
        ap (λ (call : BoundCall). third_of call.answer) (fit_call (fits none))
        ∙ third_is found.verdict found.steps 0 answer four
        ∙ ap (λ (answer-found : BoundAnswer). answer-found.steps) (sym (bound-accepted plan list.scripts (store_fits none) valid))

    within : (bound_return list answer).number ≡ 0 → host_answered_by list ≤ bound_told list answer
    within none = rw (answered, told none) bounded.within

    -- ---- one run more

    -- the engine's run on what the list's arrays stand for ends
    engine_ends : (bound_return list answer).number ≡ 0 → (limit : ℕ) → bound_told list answer ≤ host_answered_by list + limit
        → (run_call_of plan list.scripts (meant (arrays_left list)) limit).ending ≡ Ended
    unfolding run_answer
    engine_ends none limit enough =
        subst (λ (world : World). (run_call_of plan list.scripts world limit).ending ≡ Ended) (engine_leaves list is)
        (bounded.ends own_things limit (tt, tt, tt, tt, tt, tt) (store_fits none) (rw (sym answered, sym (told none)) enough))

    own_ends : (bound_return list answer).number ≡ 0
        → (lent : List ℕ) (limit : ℕ)
        → length lent ≡ answer_length
        → bound_told list answer ≤ host_answered_by list + limit
        → fourth_of (run_return list.plan list.scripts (own_run_arrays lent) limit (arrays_left list)).answer ≡ 1
    unfolding run_return run_done
    own_ends none lent limit four enough =
        let held = arrays_left list in
        let ran = run_call_of plan list.scripts (meant held) limit in
        let fit = all_fit_lem list.plan held.state lent (plan_long list is) (state_long list is) four in
        ap (λ (call : RunCall). fourth_of call.answer) (did_is list.plan list.scripts held limit lent fit)
        ∙ fourth_is ran.verdict ran.steps (ending_number ran.ending) lent four
        ∙ ap ending_number (engine_ends none limit enough)

    ends : (bound_return list answer).number ≡ 0
        → (arrays : RunArrays) (limit : ℕ)
        → OwnRunArrays arrays
        → length arrays.answer ≡ answer_length
        → bound_told list answer ≤ host_answered_by list + limit
        → fourth_of (run_return list.plan list.scripts arrays limit (arrays_left list)).answer ≡ 1
    ends none arrays limit owned four enough =
        subst (λ (a : RunArrays). fourth_of (run_return list.plan list.scripts a limit (arrays_left list)).answer ≡ 1)
        (sym (all_own_arrays arrays owned)) (own_ends none arrays.answer limit four enough)

pub host_lists_bounded : HostListsBounded
host_lists_bounded list is =
    let plan = plan_of list.plan in
    let steps = steps_in_window plan list.scripts (fresh_world list.log) in
    record {
      counted = counted list is;
      asked = asked list is;
      told = told list is;
      within = within list is;
      ends = ends list is;
      each = λ window.
          subst (λ count. steps count window ≤ window_length plan window + 1) (engine_point list is) ((bounded list is).each window);
      together =
          subst (λ count. sum_to (steps count) (windows_total plan) ≡ answered_by (engine_list list)) (engine_point list is) (bounded list is).together
          ∙ sym (answered list is);
    }
