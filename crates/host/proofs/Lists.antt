-- A list of a host's calls, as a list of the engine's: refused calls are left out, and any other is the engine's call
-- on the list's own things. Both come to the same world and count the same steps. Assumes nothing.
use Prim.Native.Nat.{ℕ, ◌+◌}
use mathlib.Core.Bool.{Bool, true, false, cond, false≢true}
use mathlib.Core.List.{List, [], ◌∷◌}
use mathlib.Core.Logic.{◌⊎◌, inl, inr}
use mathlib.Core.Path.{◌≡◌, refl, sym, ap, subst, ◌∙◌}
use native.Mathlib.Nat.{zero-add}
use lib.ListN.{length}
use Rattle.state.specs.World.{World}
use Rattle.machine.specs.View.{world_with}
use Rattle.engine.specs.FreshStart.{FreshOutcome, fresh_start_of}
use Rattle.isolation.specs.Calls.{AllOwn, Call, CallList, IsList, Proper, after_call, after_calls, is_refused, leaves_of}
use Rattle.isolation.specs.Calls.{point_of, start_world, steps_asked, steps_counted, steps_of_calls}
use Rattle.isolation.specs.Points.{world_after}
use Rattle.isolation.proofs.OneRun.{leaves}
use Rattle.pirkvezo.specs.Answers.{all_fit, answer_of, verdict_number, wrong_length}
use Rattle.pirkvezo.specs.Numbers.{numbers_from, plan_length, plan_of, state_length, state_numbers, state_of}
use Rattle.pirkvezo.specs.Starting.{FreshCall, fresh_done, host_fresh_start, host_fresh_with}
use Rattle.pirkvezo.proofs.Calls.{lengths}
use Rattle.pirkvezo.proofs.StateBack.{fresh_back}
use Rattle.pirkvezo.proofs.Whole.{state_kept}
use Rattle.host.specs.Calls.{AllOwnArrays, Arrays, HostCall, HostList, IsHostList, ProperCalls, after_host_call}
use Rattle.host.specs.Calls.{after_host_calls, arrays_left, fresh_return, host_log_call, host_point_of, host_run_call}
use Rattle.host.specs.Calls.{host_step_call, host_steps_asked}
use Rattle.host.specs.Calls.{host_steps_counted, host_steps_of, is_refusal, number_returned, start_arrays}
use Rattle.host.specs.Statement.{arrays_of, run_of_host}
use Rattle.host.proofs.Calls.{accepted_fits, as_own, as_call, fitting, meant, mirrors, refused_keeps}

-- ---- the calls

module _ (plan scripts : List ℕ) where
  -- the engine's calls for a host's
  unfoldable pub as_calls : List HostCall → Arrays → List Call
  as_calls [] held = []
  as_calls (call ∷ calls) held =
      let rest = as_calls calls (after_host_call plan scripts call held) in
      cond (is_refusal (number_returned plan scripts call held)) rest (as_call call ∷ rest)

  -- engine's calls lead from a world to the one that arrays stand for
  pub record Followed (calls : List Call) (world : World) (count : ℕ) (after : Arrays) : Type 0 where
    pub proper : Proper (plan_of plan) scripts calls world
    pub world_is : meant after ≡ after_calls (plan_of plan) scripts calls world
    pub steps : steps_of_calls (plan_of plan) scripts calls world ≡ count
    pub long : length after.state ≡ state_length

  -- none lead nowhere
  none : (held : Arrays) → length held.state ≡ state_length → Followed [] (meant held) 0 held
  unfolding Proper after_calls steps_of_calls
  none held long = record { proper = tt; world_is = refl; steps = refl; long = long }

  -- one more on the list's own things leads further
  more : (call : Call) (calls : List Call) (world : World) (count counted : ℕ) (after : Arrays)
      → AllOwn call
      → steps_counted (plan_of plan) scripts call world ≡ counted
      → Followed calls (after_call (plan_of plan) scripts call world) count after
      → Followed (call ∷ calls) world (counted + count) after
  unfolding Proper after_calls steps_of_calls
  more call calls world count counted after owned counts rest =
      record {
        proper = (inr owned, rest.proper);
        world_is = rest.world_is;
        steps = λ i. counts i + rest.steps i;
        long = rest.long;
      }

  asks_same : (call : HostCall) → steps_asked (as_call call) ≡ host_steps_asked call
  asks_same (host_step_call arrays) = refl
  asks_same (host_run_call arrays limit) = refl
  asks_same (host_log_call arrays domain) = refl

  -- a call of the host's, refused or on the list's own arrays, and the calls after it
  module _ (call : HostCall) (held : Arrays) (long : length held.state ≡ state_length) where
    abbrev next : Arrays
    next = after_host_call plan scripts call held

    abbrev refusal : Bool
    refusal = is_refusal (number_returned plan scripts call held)

    counts :
        AllOwnArrays call
        → refusal ≡ false
        → steps_counted (plan_of plan) scripts (as_call call) (meant held) ≡ host_steps_asked call
    unfolding steps_counted
    counts owned accepted =
        let fit = accepted_fits plan scripts held call owned accepted in
        let number = (mirrors plan scripts held call owned).returns fit in
        ap (λ (refused : Bool). cond refused 0 (steps_asked (as_call call))) (sym (ap is_refusal number) ∙ accepted)
        ∙ asks_same call

    pub next_long :
        (refused : Bool)
        → refusal ≡ refused
        → (refusal ≡ true) ⊎ AllOwnArrays call
        → length next.state ≡ state_length
    next_long true test proper =
        ap (λ (arrays : Arrays). length arrays.state) (refused_keeps plan scripts call held test) ∙ long
    next_long false test (inl refused) = absurd (false≢true (sym test ∙ refused))
    next_long false test (inr owned) =
        (mirrors plan scripts held call owned).long (accepted_fits plan scripts held call owned test)

    one_more_lem :
        (refused : Bool)
        → refusal ≡ refused
        → (refusal ≡ true) ⊎ AllOwnArrays call
        → (calls : List Call) (count : ℕ) (after : Arrays)
        → Followed calls (meant next) count after
        → Followed (cond refused calls (as_call call ∷ calls)) (meant held)
        (cond refused 0 (host_steps_asked call) + count) after
    one_more_lem true test proper calls count after rest =
        rw (zero-add count)
        (subst (λ (w : World). Followed calls w count after)
        (ap meant (refused_keeps plan scripts call held test)) rest)
    one_more_lem false test (inl refused) calls count after rest = absurd (false≢true (sym test ∙ refused))
    one_more_lem false test (inr owned) calls count after rest =
        let world = (mirrors plan scripts held call owned).world (accepted_fits plan scripts held call owned test) in
        more (as_call call) calls (meant held) count (host_steps_asked call) after (as_own call) (counts owned test)
        (subst (λ (w : World). Followed calls w count after) world rest)

  pub followed : (calls : List HostCall) (held : Arrays)
      → length held.state ≡ state_length
      → ProperCalls plan scripts calls held
      → Followed (as_calls calls held) (meant held) (host_steps_of plan scripts calls held)
      (after_host_calls plan scripts calls held)
  unfolding ProperCalls host_steps_of host_steps_counted after_host_calls as_calls
  followed [] held long proper = none held long
  followed (call ∷ calls) held long proper =
      let next = after_host_call plan scripts call held in
      let refused = is_refusal (number_returned plan scripts call held) in
      one_more_lem call held long refused refl proper.0 (as_calls calls next) (host_steps_of plan scripts calls next)
      (after_host_calls plan scripts calls next)
      (followed calls next (next_long call held long refused refl proper.0) proper.1)

-- ---- a list

-- the engine's list for a host's
abbrev pub engine_list : HostList → CallList
engine_list list =
    record {
      plan = plan_of list.plan;
      scripts = list.scripts;
      log = list.log;
      old_state = state_of list.old_state;
      old_cache = list.old_cache;
      old_boxes = list.old_boxes;
      calls = as_calls list.plan list.scripts list.calls (start_arrays list);
    }

module _ (list : HostList) (is : IsHostList list) where
  abbrev fresh : FreshOutcome
  fresh = fresh_start_of (plan_of list.plan) (state_of list.old_state) list.old_cache list.old_boxes

  -- the fresh start was handed arrays of the right lengths, and is the engine's
  start_fits :
      (all_fit list.plan list.old_state list.start_answer ≡ true)
      × (fresh_return list ≡ fresh_done fresh list.start_answer)
  unfolding host_fresh_start
  start_fits =
      let answer = answer_of wrong_length 0 0 list.start_answer in
      fitting (λ (call : FreshCall). call.number) (all_fit list.plan list.old_state list.start_answer)
      (host_fresh_with (verdict_number wrong_length) list.old_state list.old_cache list.old_boxes answer)
      (fresh_done fresh list.start_answer) refl (ap is_refusal is.started)

  pub plan_long : length list.plan ≡ plan_length
  plan_long = (lengths list.plan list.old_state list.start_answer start_fits.0).plan_is

  started : is_refused fresh.verdict ≡ false
  unfolding fresh_done
  started = ap is_refusal (sym (ap (λ (call : FreshCall). call.number) start_fits.1) ∙ is.started)

  start_is : start_arrays list ≡ arrays_of (start_world (engine_list list))
  unfolding start_arrays start_world fresh_done
  start_is =
      ap
      (λ (call : FreshCall). record { state = call.state; cache = call.cache; boxes = call.boxes; log = list.log })
      start_fits.1

  pub start_meant : meant (start_arrays list) ≡ start_world (engine_list list)
  unfolding start_world
  start_meant =
      let again = fresh_back list.plan list.old_state list.old_cache list.old_boxes in
      ap meant start_is ∙ (λ i. world_with (again i) fresh.cache fresh.boxes list.log)

  pub start_long : length (start_arrays list).state ≡ state_length
  unfolding state_numbers numbers_from
  start_long = ap (λ (a : Arrays). length a.state) start_is

  abbrev FollowedFrom : World → Type 0
  FollowedFrom world =
      Followed list.plan list.scripts (engine_list list).calls world (host_point_of list) (arrays_left list)

  all_followed : FollowedFrom (start_world (engine_list list))
  all_followed =
      subst FollowedFrom start_meant
      (followed list.plan list.scripts list.calls (start_arrays list) start_long is.proper)

  pub engine_is : IsList (engine_list list)
  engine_is = record { started = started; proper = all_followed.proper }

  -- it has the same point
  pub engine_point : point_of (engine_list list) ≡ host_point_of list
  engine_point = all_followed.steps

  -- and leaves what the host's arrays stand for
  pub engine_leaves : leaves_of (engine_list list) ≡ meant (arrays_left list)
  engine_leaves = sym all_followed.world_is

  pub state_long : length (arrays_left list).state ≡ state_length
  state_long = all_followed.long

  -- so the arrays hold the machine's world
  pub host_leaves : arrays_left list ≡ arrays_of (world_after (run_of_host list) (host_point_of list))
  host_leaves =
      let held = arrays_left list in
      let kept = sym (state_kept held.state state_long) in
      (λ i. record { state = kept i; cache = held.cache; boxes = held.boxes; log = held.log })
      ∙ ap arrays_of
      (sym engine_leaves ∙ leaves (engine_list list) engine_is ∙ ap (world_after (run_of_host list)) engine_point)
