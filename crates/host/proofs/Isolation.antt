-- Demand 3 of the library's C functions, from demand 3 of the engine's lists: each list of a host's calls has an
-- engine's list of the same run and the same point, which leaves what the host's arrays stand for. Assumes nothing.
use Rattle.std.specs.Prelude.{Ok}
use Prim.Native.Nat.{ℕ, ◌+◌, ◌<◌, ◌≤◌}
use mathlib.Core.Bool.{true}
use mathlib.Core.List.{List}
use mathlib.Core.Path.{◌≡◌, refl, sym, ap, subst, subst₂, ◌∙◌}
use native.Mathlib.Decide.{ℕ_discrete}
use native.Mathlib.Omega.{arith}
use lib.ListN.{get_or, length}
use borrow.Author.Tests.{eq-eqb, ne_eqb}
use Rattle.plan.specs.Limits.{most_domains}
use Rattle.plan.specs.Validity.{plan_valid}
use Rattle.plan.proofs.Windows.{domains_most}
use Rattle.state.specs.World.{World, position_at}
use Rattle.machine.specs.Fresh.{fresh_world}
use Rattle.reachable.proofs.Reached.{log_length_lem}
use Rattle.refusal.specs.declared.Code.{Code}
use Rattle.engine.specs.LogQuery.{log_query_of, log_status_of}
use Rattle.isolation.specs.Calls.{Admissible, leaves_of, point_of, refused_code, verdict_after, verdict_of}
use Rattle.isolation.specs.Points.{InWindowOf, SameBoxesTo, ops_of, windows_after, world_after}
use Rattle.isolation.specs.Statement.{BoxesAgree, ComparableFor, Correspond, EndsInWindowOf, Only, SameKernelSets}
use Rattle.isolation.specs.Statement.{SameL1, SameSeen, SameSets, StartedOnTime}
use Rattle.isolation.proofs.Isolation.{isolation}
use Rattle.isolation.proofs.OneRun.{on_time_lem, own_accepted, own_refused}
use Rattle.isolation.proofs.OneRun.Leaves.{list_valid}
use Rattle.pirkvezo.specs.Answers.{all_fit, answer_length, verdict_number, wrong_length}
use Rattle.pirkvezo.specs.Numbers.{plan_of, positions_offset, state_of}
use Rattle.pirkvezo.proofs.Runs.{run_at}
use Rattle.host.specs.Calls.{AllOwnArrays, Arrays, HostCall, HostList, IsHostList, answer_handed, arrays_left}
use Rattle.host.specs.Calls.{host_log_call, host_point_of, host_run_call, host_step_call, number_returned}
use Rattle.host.specs.Statement.{HostAdmissible, HostComparableFor, HostEndsInWindowOf, HostIsolation}
use Rattle.host.specs.Statement.{HostSameSeen, HostWindowsOnTime, LogShown, refusal_number, run_of_host, shown_after}
use Rattle.host.proofs.Calls.{all_fit_lem, as_own, as_call, meant, mirrors, refused_keeps, unfit_answer}
use Rattle.host.proofs.Lists.{engine_is, engine_leaves, engine_point, engine_list, host_leaves, plan_long}
use Rattle.host.proofs.Lists.{state_long}
use Rattle.host.proofs.Shown.{bytes_on, shown_is, shown_from, status_on}
use Rattle.host.proofs.Texts.{text_list, text_run}

-- ---- one list

module _ (list : HostList) (is : IsHostList list) where
  abbrev held : Arrays
  held = arrays_left list

  abbrev returned : HostCall → ℕ
  returned call = number_returned list.plan list.scripts call held

  host_valid : plan_valid (plan_of list.plan) ≡ true
  host_valid = list_valid (engine_list list) (engine_is list is)

  log_long : length held.log ≡ length list.log
  unfolding world_after fresh_world
  log_long =
      ap (λ (arrays : Arrays). length arrays.log) (host_leaves list is)
      ∙ log_length_lem (plan_of list.plan) list.scripts list.log (host_point_of list) host_valid

  fits : (answer : List ℕ) → length answer ≡ answer_length → all_fit list.plan held.state answer ≡ true
  fits answer = all_fit_lem list.plan held.state answer (plan_long list is) (state_long list is)

  host_on_time : HostWindowsOnTime list
  host_on_time window =
      subst
      (λ (count : ℕ). window ≤ windows_after (run_of_host list) count → StartedOnTime (run_of_host list) count window)
      (engine_point list is) (on_time_lem (engine_list list) (engine_is list is) window)

  -- ---- one more call

  -- admissible on arrays: an answer of its length, and admissible to the engine
  admits :
      (call : HostCall)
      → HostAdmissible list call
      → (length (answer_handed call) ≡ answer_length) × Admissible (plan_of list.plan) list.scripts (as_call call)
  admits (host_step_call arrays) admissible = admissible
  admits (host_run_call arrays limit) admissible = admissible
  admits (host_log_call arrays domain) admissible = admissible

  admitted :
      (call : HostCall)
      → length (answer_handed call) ≡ answer_length
      → Admissible (plan_of list.plan) list.scripts (as_call call)
      → HostAdmissible list call
  admitted (host_step_call arrays) long admissible = (long, admissible)
  admitted (host_run_call arrays limit) long admissible = (long, admissible)
  admitted (host_log_call arrays domain) long admissible = (long, admissible)

  -- its number is that of the engine's verdict
  returned_is :
      (call : HostCall)
      → AllOwnArrays call
      → length (answer_handed call) ≡ answer_length
      → returned call ≡ verdict_number (verdict_after (engine_list list) (as_call call))
  returned_is call owned long =
      (mirrors list.plan list.scripts held call owned).returns (fits (answer_handed call) long)
      ∙ ap (λ (world : World). verdict_number (verdict_of (plan_of list.plan) list.scripts (as_call call) world))
      (sym (engine_leaves list is))

  host_accepted : (call : HostCall) → AllOwnArrays call → HostAdmissible list call → returned call ≡ 0
  host_accepted call owned admissible =
      let admit = admits call admissible in
      returned_is call owned admit.0
      ∙ ap verdict_number (own_accepted (engine_list list) (engine_is list is) (as_call call) (as_own call) admit.1)

  -- the number of a refusal, where the answer's length is right and where it is not
  refused_number :
      (call : HostCall)
      → length (answer_handed call) ≡ answer_length
      → (refused_code (as_call call)).number ≡ refusal_number call
  refused_number (host_step_call arrays) long = refl
  refused_number (host_run_call arrays limit) long = refl
  refused_number (host_log_call arrays domain) long = rw (eq-eqb (length arrays.answer) answer_length long) refl

  unfit_number :
      (call : HostCall)
      → (length (answer_handed call) ≡ answer_length → ⊥)
      → verdict_number wrong_length ≡ refusal_number call
  unfit_number (host_step_call arrays) differs = refl
  unfit_number (host_run_call arrays limit) differs = refl
  unfit_number (host_log_call arrays domain) differs = rw (ne_eqb (length arrays.answer) answer_length differs) refl

  host_refused :
      (call : HostCall) → AllOwnArrays call → (HostAdmissible list call → ⊥) → returned call ≡ refusal_number call
  host_refused call owned inadmissible = go (ℕ_discrete (length (answer_handed call)) answer_length)
    where
      go : Dec (length (answer_handed call) ≡ answer_length) → returned call ≡ refusal_number call
      go (yes long) =
          returned_is call owned long
          ∙ ap (λ (code : Code). code.number)
          (own_refused (engine_list list) (engine_is list is) (as_call call) (as_own call)
          (λ admissible. inadmissible (admitted call long admissible)))
          ∙ refused_number call long
      go (no differs) =
          (mirrors list.plan list.scripts held call owned).unfit
          (unfit_answer list.plan held.state (answer_handed call) differs)
          ∙ unfit_number call differs

  -- ---- what is seen

  shown_after_lem :
      (domain : ℕ) (answer : List ℕ)
      → length answer ≡ answer_length
      → shown_after list domain answer
      ≡ shown_from (status_on list.plan held domain) (plan_of list.plan) (length list.log)
      (bytes_on list.plan held domain) domain
  shown_after_lem domain answer long =
      let verdict = status_on list.plan held domain in
      let bytes = bytes_on list.plan held domain in
      shown_is list.plan held domain answer (fits answer long)
      ∙ ap (λ (log_length : ℕ). shown_from verdict (plan_of list.plan) log_length bytes domain) log_long

  position_at_lem :
      (domain : ℕ)
      → domain < (plan_of list.plan).domains
      → position_at (state_of held.state) domain ≡ get_or held.state (positions_offset + domain) 0
  unfolding state_of
  position_at_lem domain declared =
      run_at held.state positions_offset most_domains domain
      (omega (arith, domains_most (plan_of list.plan) host_valid))

-- ---- two lists

module _ (Named : ℕ → Type 0) (is_named : (domain : ℕ) → Dec (Named domain)) (one other : HostList) (is : IsHostList one)
    (is' : IsHostList other) (c : HostComparableFor Named one other) (observer : ℕ) (named : Named observer) where
  -- a relation between points of the two runs, and one between worlds, from the engine's lists to the host's
  at_points :
      (Related : ℕ → ℕ → Type 0)
      → Related (point_of (engine_list one)) (point_of (engine_list other))
      → Related (host_point_of one) (host_point_of other)
  at_points Related = subst₂ Related (engine_point one is) (engine_point other is')

  left :
      (Related : World → World → Type 0)
      → Related (leaves_of (engine_list one)) (leaves_of (engine_list other))
      → Related (meant (arrays_left one)) (meant (arrays_left other))
  left Related = subst₂ Related (engine_leaves one is) (engine_leaves other is')

  comparable : ComparableFor Named (engine_list one) (engine_list other)
  comparable =
      let point = sym (engine_point one is) in
      let point' = sym (engine_point other is') in
      record {
        common = record { plans = ap plan_of c.plans; declared = c.declared; scripts = c.scripts; logs = c.logs };
        points = subst₂ (λ n n'. Correspond Named (run_of_host one) n (run_of_host other) n') point point' c.points;
        boxes = subst₂ (λ n n'. BoxesAgree Named (run_of_host one) n (run_of_host other) n') point point' c.boxes;
      }

  seen : SameSeen observer (engine_list one) (engine_list other)
  seen =
      (isolation.together Named is_named (engine_list one) (engine_list other) (engine_is one is) (engine_is other is')
      comparable).each observer named

  -- the observer's own window, from the host's list to the engine's
  own_window : HostEndsInWindowOf (Only observer) one → EndsInWindowOf (Only observer) (engine_list one)
  own_window = subst (InWindowOf (Only observer) (run_of_host one)) (sym (engine_point one is))

  status : status_on one.plan (arrays_left one) observer ≡ Ok tt
  status = left (λ w w'. log_status_of (plan_of one.plan) w.state w.log observer ≡ Ok tt) seen.queried

  status' : status_on other.plan (arrays_left other) observer ≡ Ok tt
  status' = left (λ w w'. log_status_of (plan_of other.plan) w'.state w'.log observer ≡ Ok tt) seen.queried'

  same_bytes : bytes_on one.plan (arrays_left one) observer ≡ bytes_on other.plan (arrays_left other) observer
  same_bytes =
      left
      (λ w w'.
      log_query_of (plan_of one.plan) w.state w.log observer
      ≡ log_query_of (plan_of other.plan) w'.state w'.log observer)
      seen.log

  declared : observer < (plan_of one.plan).domains
  declared = c.declared observer named

  declared' : observer < (plan_of other.plan).domains
  declared' = subst (λ (plan : List ℕ). observer < (plan_of plan).domains) c.plans declared

  host_isolated : HostSameSeen observer one other
  unfolding state_of
  host_isolated =
      let number : LogShown → ℕ = λ shown. shown.number in
      let verdicts = status ∙ sym status' in
      record {
        queried = λ answer long. ap number (shown_after_lem one is observer answer long) ∙ ap verdict_number status;
        queried' = λ answer long. ap number (shown_after_lem other is' observer answer long) ∙ ap verdict_number status';
        log =
            λ answer answer' long long'.
            shown_after_lem one is observer answer long
            ∙ (λ i. shown_from (verdicts i) (plan_of (c.plans i)) (c.logs i) (same_bytes i) observer)
            ∙ sym (shown_after_lem other is' observer answer' long');
        position =
            sym (position_at_lem one is observer declared)
            ∙ left (λ w w'. position_at w.state observer ≡ position_at w'.state observer) seen.position
            ∙ position_at_lem other is' observer declared';
        sets = left (λ w w'. SameSets (plan_of one.plan) observer w.cache w'.cache) seen.sets;
        ops =
            λ window past owner.
            let before = subst (λ (w : World). window < w.state.windows) (sym (engine_leaves one is)) past in
            at_points (λ n n'. ops_of (run_of_host one) window n ≡ ops_of (run_of_host other) window n')
            (seen.ops window before owner);
        clock = λ within. left (λ w w'. w.state.clock ≡ w'.state.clock) (seen.clock (own_window within));
        l1 = λ within. left (λ w w'. SameL1 w.cache w'.cache) (seen.l1 (own_window within));
        kernel_sets =
            λ within. left (λ w w'. SameKernelSets w.cache w'.cache) (seen.kernel_sets (own_window within));
        boxes =
            λ within sender known.
            left (SameBoxesTo (Only observer)) (seen.boxes (own_window within)) sender observer known refl;
      }

pub host_isolation : HostIsolation
host_isolation =
    record {
      on_time = host_on_time;
      isolated =
          λ observer one other is is' c.
          host_isolated (Only observer) (λ domain. ℕ_discrete domain observer) one other is is' c observer refl;
      together = host_isolated;
      laws =
          λ list is.
          record {
            leaves = host_leaves list is;
            accepted = host_accepted list is;
            refused = host_refused list is;
            unchanged = λ call. refused_keeps list.plan list.scripts call (arrays_left list);
          };
      from_text = text_list;
      run_of_text = text_run;
    }
