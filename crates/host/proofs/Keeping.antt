-- Lists of `pirkvezo_run_kept` beside the same lists of `pirkvezo_run`, call by call. Assumes nothing.
use Rattle.std.specs.Prelude.{Ok, Err}
use Prim.Native.Nat.{ℕ, ◌+◌, ◌<◌}
use mathlib.Core.Bool.{Bool, true, false, cond, false≢true}
use mathlib.Core.List.{List, [], ◌∷◌}
use mathlib.Core.Logic.{◌⊎◌, inl, inr}
use mathlib.Core.Path.{◌≡◌, refl, sym, ap, ap₂, subst, ◌∙◌}
use native.Mathlib.Nat.{zero-add}
use lib.ListN.{length}
use Rattle.plan.specs.declared.Plan.{Plan}
use Rattle.records.specs.Records.{in_parts, part_records}
use Rattle.state.specs.World.{World}
use Rattle.machine.specs.Steps.{RunEffect}
use Rattle.machine.specs.View.{world_with}
use Rattle.machine.proofs.Invariant.{steps_log}
use Rattle.engine.specs.Checks.{run_verdict}
use Rattle.engine.specs.Running.{outcome_from, ran_from, run_call_of}
use Rattle.isolation.specs.Calls.{handed}
use Rattle.pirkvezo.specs.Answers.{all_fit}
use Rattle.pirkvezo.specs.Keeping.{kept_numbers}
use Rattle.pirkvezo.specs.Numbers.{plan_of, state_of}
use Rattle.pirkvezo.specs.Running.{RunCall, host_run, host_run_by, run_done}
use Rattle.pirkvezo.proofs.Kept.{kept_run_kept}
use Rattle.pirkvezo.proofs.KeptNumbers.{kept_numbers_alike}
use Rattle.host.specs.Calls.{Arrays, HostCall, OwnRunArrays, ProperCalls, after_host_call, after_host_calls}
use Rattle.host.specs.Calls.{arrays_left, host_run_call, host_steps_counted, host_steps_of, is_refusal, number_returned, run_return}
use Rattle.host.specs.Calls.{start_arrays}
use Rattle.host.specs.Keeping.{HostKeptCall, HostKeptList, HostKeptListsAlike, IsHostKeptList, IsWholeHostLog, OwnKeptArrays}
use Rattle.host.specs.Keeping.{ProperHostKept, after_host_kept, after_host_kept_calls, full_host_list, host_kept_refused, host_steps_of_kept}
use Rattle.host.specs.Keeping.{kept_arrays, kept_arrays_left, kept_fresh_return, kept_return, kept_start_arrays, same_host_runs}
use Rattle.host.proofs.Calls.{all_own_arrays, arrays_kept, not_zero, own_run_arrays}
use Rattle.refusal.specs.Verdict.{Verdict}

-- ---- the log keeps its length

outcome_log : (verdict : Verdict) (plan : Plan) (ran : RunEffect) (world : World) → length ran.world.log ≡ length world.log
    → length (outcome_from verdict plan ran world).world.log ≡ length world.log
unfolding ran_from
outcome_log (Ok tt) plan ran world same = same
outcome_log (Err refusal) plan ran world same = refl

run_log : (plan scripts state cache boxes log : List ℕ) (limit : ℕ) (answer : List ℕ)
    → length (host_run plan scripts state cache boxes log limit answer).log ≡ length log
unfolding host_run host_run_by run_done run_call_of
run_log plan scripts state cache boxes log limit answer = go (all_fit plan state answer) refl
  where
    go : (fit : Bool) → all_fit plan state answer ≡ fit → length (host_run plan scripts state cache boxes log limit answer).log ≡ length log
    go false unfit = rw (unfit, host_run_by) refl
    go true fit =
        let world = world_with (state_of state) cache boxes log in
        let quota = part_records (plan_of plan) (length log) in
        rw (fit, host_run_by)
        (outcome_log (run_verdict (plan_of plan) scripts world) (plan_of plan) _ world
        (steps_log (in_parts quota) (plan_of plan) scripts quota limit world))

module _ (plan scripts : List ℕ) (domain quota : ℕ) (declared : domain < (plan_of plan).domains) where
  -- ---- one call

  refused_stays : (call : HostKeptCall) (kept : Arrays) → host_kept_refused plan scripts call kept ≡ true
      → after_host_kept plan scripts call kept ≡ kept
  unfolding after_host_kept kept_return
  refused_stays call kept refused =
      arrays_kept call.arrays kept _
      (kept_run_kept (handed call.arrays.plan plan) (handed call.arrays.scripts scripts) _ _ _ _
      call.domain call.part call.limit call.arrays.answer (not_zero _ refused))

  abbrev own_call : ℕ → List ℕ → HostKeptCall
  own_call limit answer = record { arrays = own_run_arrays answer; domain = domain; part = quota; limit = limit }

  own_call_lem : (call : HostKeptCall) → OwnKeptArrays domain quota call → call ≡ own_call call.limit call.arrays.answer
  own_call_lem call owned =
      let arrays = all_own_arrays call.arrays owned.arrays in
      λ i. record { arrays = arrays i; domain = owned.domain_is i; part = owned.part_is i; limit = call.limit }

  -- beside the run with the whole log
  record Stepped (call : HostKeptCall) (kept full : Arrays) : Type 0 where
    answers : kept_return plan scripts call kept
        ≡ kept_numbers quota domain (run_return plan scripts call.arrays call.limit full)
    left : after_host_kept plan scripts call kept ≡ kept_arrays quota domain (after_host_call plan scripts (host_run_call call.arrays call.limit) full)
    parts : quota ≡ part_records (plan_of plan) (length (after_host_call plan scripts (host_run_call call.arrays call.limit) full).log)
    owned : OwnRunArrays call.arrays

  own_stepped : (limit : ℕ) (answer : List ℕ) (kept full : Arrays) → quota ≡ part_records (plan_of plan) (length full.log)
      → kept ≡ kept_arrays quota domain full
      → Stepped (own_call limit answer) kept full
  unfolding after_host_kept kept_return after_host_call run_return
  own_stepped limit answer kept full whole is =
      let call = own_call limit answer in
      let alike : kept_return plan scripts call kept ≡ kept_numbers quota domain (run_return plan scripts (own_run_arrays answer) limit full) =
      ap (kept_return plan scripts call) is
      ∙ kept_numbers_alike plan scripts full.state full.cache full.boxes full.log domain quota limit answer declared whole in
      record {
        answers = alike;
        left = ap (λ (did : RunCall). record { state = did.state; cache = did.cache; boxes = did.boxes; log = did.log }) alike;
        parts =
            whole
            ∙ ap (part_records (plan_of plan))
            (sym (run_log plan scripts full.state full.cache full.boxes full.log limit answer));
        owned = (tt, tt, tt, tt, tt, tt);
      }

  stepped : (call : HostKeptCall) (kept full : Arrays) → quota ≡ part_records (plan_of plan) (length full.log)
      → kept ≡ kept_arrays quota domain full
      → OwnKeptArrays domain quota call
      → Stepped call kept full
  stepped call kept full whole is owned =
      subst (λ (c : HostKeptCall). Stepped c kept full) (sym (own_call_lem call owned))
      (own_stepped call.limit call.arrays.answer kept full whole is)

  -- ---- a list of them

  record Follows (calls : List HostKeptCall) (kept full : Arrays) (runs : List HostCall) : Type 0 where
    left : after_host_kept_calls plan scripts calls kept ≡ kept_arrays quota domain (after_host_calls plan scripts runs full)
    counted : host_steps_of_kept plan scripts calls kept ≡ host_steps_of plan scripts runs full
    proper : ProperCalls plan scripts runs full
    parts : quota ≡ part_records (plan_of plan) (length (after_host_calls plan scripts runs full).log)

  runs_refused : (call : HostKeptCall) (calls : List HostKeptCall) (kept : Arrays) → host_kept_refused plan scripts call kept ≡ true
      → same_host_runs plan scripts (call ∷ calls) kept ≡ same_host_runs plan scripts calls (after_host_kept plan scripts call kept)
  unfolding same_host_runs
  runs_refused call calls kept refused = rw (refused, same_host_runs) refl

  runs_accepted : (call : HostKeptCall) (calls : List HostKeptCall) (kept : Arrays) → host_kept_refused plan scripts call kept ≡ false
      → same_host_runs plan scripts (call ∷ calls) kept
      ≡ host_run_call call.arrays call.limit ∷ same_host_runs plan scripts calls (after_host_kept plan scripts call kept)
  unfolding same_host_runs
  runs_accepted call calls kept accepted = rw (accepted, same_host_runs) refl

  -- a call that is not refused counts its limit on both sides
  counts : (call : HostKeptCall) (kept full : Arrays) → host_kept_refused plan scripts call kept ≡ false → Stepped call kept full
      → call.limit ≡ host_steps_counted plan scripts (host_run_call call.arrays call.limit) full
  unfolding host_steps_counted number_returned
  counts call kept full accepted did =
      ap (λ (refused : Bool). cond refused 0 call.limit)
      (sym (ap (λ (run : RunCall). is_refusal run.number) (sym did.answers) ∙ accepted))

  follows : (calls : List HostKeptCall) (kept full : Arrays) → quota ≡ part_records (plan_of plan) (length full.log)
      → kept ≡ kept_arrays quota domain full
      → ProperHostKept plan scripts domain quota calls kept
      → Follows calls kept full (same_host_runs plan scripts calls kept)
  unfolding after_host_kept_calls host_steps_of_kept ProperHostKept after_host_calls host_steps_of ProperCalls same_host_runs
  follows [] kept full whole is proper = record { left = is; counted = refl; proper = tt; parts = whole }
  follows (call ∷ calls) kept full whole is proper =
      go (host_kept_refused plan scripts call kept) refl proper.0
      (λ next whole' is'. follows calls (after_host_kept plan scripts call kept) next whole' is' proper.1)
    where
      go : (refused : Bool) → host_kept_refused plan scripts call kept ≡ refused
          → (host_kept_refused plan scripts call kept ≡ true) ⊎ OwnKeptArrays domain quota call
          → ((next : Arrays) → quota ≡ part_records (plan_of plan) (length next.log) → after_host_kept plan scripts call kept ≡ kept_arrays quota domain next
          → Follows calls (after_host_kept plan scripts call kept) next (same_host_runs plan scripts calls (after_host_kept plan scripts call kept)))
          → Follows (call ∷ calls) kept full (same_host_runs plan scripts (call ∷ calls) kept)
      go true test given again =
          let later = host_steps_of_kept plan scripts calls (after_host_kept plan scripts call kept) in
          let rest = again full whole (refused_stays call kept test ∙ is) in
          subst (Follows (call ∷ calls) kept full) (sym (runs_refused call calls kept test))
          (record {
            left = rest.left;
            counted = ap (λ (refused : Bool). cond refused 0 call.limit + later) test ∙ zero-add later ∙ rest.counted;
            proper = rest.proper;
            parts = rest.parts;
          })
      go false test (inl refused) again = absurd (false≢true (sym test ∙ refused))
      go false test (inr owned) again =
          let later = host_steps_of_kept plan scripts calls (after_host_kept plan scripts call kept) in
          let did = stepped call kept full whole is owned in
          let rest = again _ did.parts did.left in
          subst (Follows (call ∷ calls) kept full) (sym (runs_accepted call calls kept test))
          (record {
            left = rest.left;
            counted =
                ap (λ (refused : Bool). cond refused 0 call.limit + later) test
                ∙ ap₂ (λ (here after : ℕ). here + after) (counts call kept full test did) rest.counted;
            proper = (inr did.owned, rest.proper);
            parts = rest.parts;
          })

module _ (list : HostKeptList) (log : List ℕ) (is : IsHostKeptList list) (declared : list.domain < (plan_of list.plan).domains)
    (whole : IsWholeHostLog log list) where
  all_follow : Follows list.plan list.scripts list.domain list.part declared list.calls (kept_start_arrays list)
      (start_arrays (full_host_list list log)) (same_host_runs list.plan list.scripts list.calls (kept_start_arrays list))
  unfolding start_arrays kept_start_arrays
  all_follow =
      follows list.plan list.scripts list.domain list.part declared list.calls (kept_start_arrays list)
      (start_arrays (full_host_list list log)) whole.part_is
      (ap
      (λ (kept : List ℕ).
      record {
        state = (kept_fresh_return list).state;
        cache = (kept_fresh_return list).cache;
        boxes = (kept_fresh_return list).boxes;
        log = kept;
      })
      whole.kept_is)
      is.proper

pub host_kept_lists_alike : HostKeptListsAlike
host_kept_lists_alike list log is declared whole =
    let all = all_follow list log is declared whole in
    record {
      is_list = record { started = is.started; proper = all.proper };
      leaves = all.left;
      point = all.counted;
      answers = λ call owned.
          (stepped list.plan list.scripts list.domain list.part declared call (kept_arrays_left list)
          (arrays_left (full_host_list list log)) all.parts all.left owned).answers;
    }
