-- A list whose runs keep one domain's log leaves what the same list of runs leaves, with that domain's part for the log; so
-- (B) of demand 3 holds of a domain that is watched by such runs alone. Assumes nothing.
use Rattle.std.specs.Prelude.{Ok}
use Prim.Native.Nat.{ℕ, suc, ◌+◌, ◌*◌, ◌/◌, ◌-◌, ◌≤◌, ◌<◌}
use mathlib.Core.Bool.{Bool, true, false, cond, false≢true}
use mathlib.Core.List.{List, [], ◌∷◌, ◌++◌}
use mathlib.Core.Logic.{◌⊎◌, inl, inr}
use mathlib.Core.Path.{◌≡◌, refl, sym, ap, ap₂, subst, subst₂, ◌∙◌}
use native.Mathlib.Nat.{mul-add, mul_assoc, mul_comm, mul-div_cancel_left, mul-suc, zero-add}
use native.Mathlib.Omega.{arith}
use lib.ListN.{drop, length, replicate, take}
use lib.ListN.{length-append, length-replicate}
use lib.Seq.{drop_at, take_at}
use Rattle.lists.specs.Part.{part}
use Rattle.plan.specs.declared.Plan.{Plan}
use Rattle.records.specs.declared.Keep.TheVariants.{One}
use Rattle.plan.specs.Windows.{window_owner, windows_total}
use Rattle.records.specs.Records.{in_parts, log_part, part_records, record_index, record_size}
use Rattle.records.proofs.Parts.{part_so_far}
use Rattle.state.specs.World.{World, position_at, records_at}
use Rattle.machine.specs.Keeping.{kept_world}
use Rattle.machine.specs.Steps.{run_keeping}
use Rattle.machine.specs.View.{world_with}
use Rattle.machine.proofs.Invariant.{steps_log}
use Rattle.reachable.proofs.Counts.{counted}
use Rattle.reachable.proofs.Reached.{log_length_lem}
use Rattle.engine.specs.Checks.{kept_verdict}
use Rattle.engine.specs.Keeping.{kept_call_of, kept_outcome}
use Rattle.engine.specs.LogQuery.{log_query_of}
use Rattle.engine.specs.Running.{RunOutcome, run_call_of}
use Rattle.engine.proofs.KeptCalls.{kept_calls_alike}
use Rattle.engine.proofs.Verdicts.{kept_accepted}
use Rattle.isolation.specs.Calls.{AllOwn, Call, CallList, IsList, Proper, after_call, after_calls, is_refused, leaves_of}
use Rattle.isolation.specs.Calls.{point_of, run_answer, run_call, start_world, steps_counted, steps_of_calls, verdict_of}
use Rattle.isolation.specs.Keeping.{InOwnWindow, IsKeptList, KeptCall, KeptIsolation, KeptList, KeptListsAlike, OwnKept}
use Rattle.isolation.specs.Keeping.{IsWholeLog, ProperKept, SameWatched, WholeLogsExist, after_kept, after_kept_calls, full_list}
use Rattle.isolation.specs.Keeping.{kept_answer, kept_fresh, kept_leaves, kept_log, kept_refused, kept_start, same_runs, steps_of_kept}
use Rattle.isolation.specs.Points.{SameBoxesTo, ops_of, world_after}
use Rattle.isolation.specs.Statement.{Comparable, EndsInWindowOf, Only, SameKernelSets, SameL1, SameSeen, SameSets, run_of_list}
use Rattle.isolation.proofs.Isolation.{isolation, log_after}
use Rattle.isolation.proofs.OneRun.Leaves.{leaves, list_valid}
use Rattle.isolation.proofs.OneRun.Calls.{all_own, left_handed, own_things}
use Rattle.isolation.proofs.OneRun.Verdicts.{outcome_accepted, outcome_refused, run_accepted}

-- a refused run leaves what it was handed
call_refused : (plan : Plan) (scripts : List ℕ) (domain quota : ℕ) (world : World) (limit : ℕ)
    → is_refused (kept_call_of plan scripts domain quota world limit).verdict ≡ true
    → (kept_call_of plan scripts domain quota world limit).world ≡ world
unfolding kept_call_of
call_refused plan scripts domain quota world limit refused =
    outcome_refused plan (run_keeping (One domain) plan scripts quota limit world) world (kept_verdict plan scripts domain quota world) refused

module _ (plan : Plan) (scripts : List ℕ) (domain quota : ℕ) where
  -- ---- one run

  -- a refused one leaves the list's own world
  refused_stays : (call : KeptCall) (kept : World) → kept_refused plan scripts call kept ≡ true → after_kept plan scripts call kept ≡ kept
  unfolding after_kept kept_answer
  refused_stays call kept refused = left_handed call.things kept _ (call_refused _ _ _ _ _ _ refused)

  -- one that was handed the list's own things
  abbrev own_call : ℕ → KeptCall
  own_call limit = record { things = own_things; domain = domain; part = quota; limit = limit }

  own_call_lem : (call : KeptCall) → OwnKept domain quota call → call ≡ own_call call.limit
  own_call_lem call owned =
      let things = all_own call.things owned.things in
      λ i. record { things = things i; domain = owned.domain_is i; part = owned.part_is i; limit = call.limit }

  -- such a one beside the run with the whole log: what both leave, and the steps that the latter counts
  record Stepped (call : KeptCall) (kept full : World) : Type 0 where
    left : after_kept plan scripts call kept ≡ kept_world quota domain (after_call plan scripts (run_call call.things call.limit) full)
    parts : quota ≡ part_records plan (length (after_call plan scripts (run_call call.things call.limit) full).log)
    counted : steps_counted plan scripts (run_call call.things call.limit) full ≡ call.limit
    owned : AllOwn (run_call call.things call.limit)

  module _ (limit : ℕ) (kept full : World) (whole : quota ≡ part_records plan (length full.log)) (is : kept ≡ kept_world quota domain full)
      (accepted : is_refused (kept_call_of plan scripts domain quota kept limit).verdict ≡ false) where
    passed : kept_verdict plan scripts domain quota kept ≡ Ok tt
    unfolding kept_call_of
    passed = outcome_accepted plan (run_keeping (One domain) plan scripts quota limit kept) kept (kept_verdict plan scripts domain quota kept) accepted

    alike : kept_call_of plan scripts domain quota (kept_world quota domain full) limit
        ≡ kept_outcome quota domain (run_call_of plan scripts full limit)
    alike = kept_calls_alike plan scripts full limit domain quota (kept_accepted plan scripts domain quota kept passed).declared whole

    taken : is_refused (run_call_of plan scripts full limit).verdict ≡ false
    taken =
        ap (λ (run : RunOutcome). is_refused run.verdict) (sym alike)
        ∙ ap (λ (world : World). is_refused (kept_call_of plan scripts domain quota world limit).verdict) (sym is)
        ∙ accepted

    same_log : length (run_call_of plan scripts full limit).world.log ≡ length full.log
    same_log =
        ap (λ (world : World). length world.log) (run_accepted plan scripts full limit taken)
        ∙ steps_log (in_parts (part_records plan (length full.log))) plan scripts (part_records plan (length full.log)) limit full

  own_stepped : (limit : ℕ) (kept full : World) → quota ≡ part_records plan (length full.log) → kept ≡ kept_world quota domain full
      → kept_refused plan scripts (own_call limit) kept ≡ false
      → Stepped (own_call limit) kept full
  unfolding after_kept kept_answer after_call run_answer steps_counted verdict_of
  own_stepped limit kept full whole is accepted =
      record {
        left =
            ap (λ (world : World). (kept_call_of plan scripts domain quota world limit).world) is
            ∙ ap (λ (run : RunOutcome). run.world) (alike limit kept full whole is accepted);
        parts = whole ∙ ap (part_records plan) (sym (same_log limit kept full whole is accepted));
        counted = ap (λ (refused : Bool). cond refused 0 limit) (taken limit kept full whole is accepted);
        owned = (tt, tt, tt, tt, tt, tt);
      }

  stepped : (call : KeptCall) (kept full : World) → quota ≡ part_records plan (length full.log) → kept ≡ kept_world quota domain full
      → OwnKept domain quota call
      → kept_refused plan scripts call kept ≡ false
      → Stepped call kept full
  stepped call kept full whole is owned accepted =
      subst (λ (c : KeptCall). kept_refused plan scripts c kept ≡ false → Stepped c kept full) (sym (own_call_lem call owned))
      (own_stepped call.limit kept full whole is) accepted

  -- ---- a list of them

  -- beside a list of runs
  record Follows (calls : List KeptCall) (kept full : World) (runs : List Call) : Type 0 where
    left : after_kept_calls plan scripts calls kept ≡ kept_world quota domain (after_calls plan scripts runs full)
    counted : steps_of_kept plan scripts calls kept ≡ steps_of_calls plan scripts runs full
    proper : Proper plan scripts runs full

  runs_refused : (call : KeptCall) (calls : List KeptCall) (kept : World) → kept_refused plan scripts call kept ≡ true
      → same_runs plan scripts (call ∷ calls) kept ≡ same_runs plan scripts calls (after_kept plan scripts call kept)
  unfolding same_runs
  runs_refused call calls kept refused = rw (refused, same_runs) refl

  runs_accepted : (call : KeptCall) (calls : List KeptCall) (kept : World) → kept_refused plan scripts call kept ≡ false
      → same_runs plan scripts (call ∷ calls) kept
      ≡ run_call call.things call.limit ∷ same_runs plan scripts calls (after_kept plan scripts call kept)
  unfolding same_runs
  runs_accepted call calls kept accepted = rw (accepted, same_runs) refl

  follows : (calls : List KeptCall) (kept full : World) → quota ≡ part_records plan (length full.log) → kept ≡ kept_world quota domain full
      → ProperKept plan scripts domain quota calls kept
      → Follows calls kept full (same_runs plan scripts calls kept)
  unfolding after_kept_calls steps_of_kept ProperKept after_calls steps_of_calls Proper same_runs
  follows [] kept full whole is proper = record { left = is; counted = refl; proper = tt }
  follows (call ∷ calls) kept full whole is proper =
      go (kept_refused plan scripts call kept) refl proper.0 (λ next whole' is'. follows calls (after_kept plan scripts call kept) next whole' is' proper.1)
    where
      go : (refused : Bool) → kept_refused plan scripts call kept ≡ refused
          → (kept_refused plan scripts call kept ≡ true) ⊎ OwnKept domain quota call
          → ((next : World) → quota ≡ part_records plan (length next.log) → after_kept plan scripts call kept ≡ kept_world quota domain next
          → Follows calls (after_kept plan scripts call kept) next (same_runs plan scripts calls (after_kept plan scripts call kept)))
          → Follows (call ∷ calls) kept full (same_runs plan scripts (call ∷ calls) kept)
      go true test handed again =
          let later = steps_of_kept plan scripts calls (after_kept plan scripts call kept) in
          let rest = again full whole (refused_stays call kept test ∙ is) in
          subst (Follows (call ∷ calls) kept full) (sym (runs_refused call calls kept test))
          (record {
            left = rest.left;
            counted = ap (λ (refused : Bool). cond refused 0 call.limit + later) test ∙ zero-add later ∙ rest.counted;
            proper = rest.proper;
          })
      go false test (inl refused) again = absurd (false≢true (sym test ∙ refused))
      go false test (inr owned) again =
          let later = steps_of_kept plan scripts calls (after_kept plan scripts call kept) in
          let did = stepped call kept full whole is owned test in
          let rest = again _ did.parts did.left in
          subst (Follows (call ∷ calls) kept full) (sym (runs_accepted call calls kept test))
          (record {
            left = rest.left;
            counted =
                ap (λ (refused : Bool). cond refused 0 call.limit + later) test
                ∙ ap₂ (λ (here after : ℕ). here + after) (sym did.counted) rest.counted;
            proper = (inr did.owned, rest.proper);
          })

module _ (list : KeptList) (log : List ℕ) (is : IsKeptList list) (whole : IsWholeLog log list) where
  fresh_alike : kept_start list ≡ kept_world list.part list.domain (start_world (full_list list log))
  unfolding kept_start start_world
  fresh_alike = ap (λ (kept : List ℕ). world_with (kept_fresh list).state (kept_fresh list).cache (kept_fresh list).boxes kept) whole.kept_is

  all_follow : Follows list.plan list.scripts list.domain list.part list.calls (kept_start list)
      (start_world (full_list list log)) (full_list list log).calls
  unfolding start_world
  all_follow =
      follows list.plan list.scripts list.domain list.part list.calls (kept_start list) (start_world (full_list list log))
      whole.part_is fresh_alike is.proper

  is_full : IsList (full_list list log)
  is_full = record { started = is.started; proper = all_follow.proper }

  -- the log that the list of runs leaves is as long as at first
  part_after : list.part ≡ part_records list.plan (length (leaves_of (full_list list log)).log)
  unfolding world_after
  part_after =
      whole.part_is
      ∙ ap (part_records list.plan)
      (sym (ap (λ (world : World). length world.log) (leaves (full_list list log) is_full)
      ∙ log_length_lem list.plan list.scripts log (point_of (full_list list log)) (list_valid (full_list list log) is_full)))

  own_answers : (limit : ℕ) → list.domain < list.plan.domains
      → kept_answer list.plan list.scripts (own_call list.plan list.scripts list.domain list.part limit) (kept_leaves list)
      ≡ kept_outcome list.part list.domain (run_answer list.plan list.scripts own_things limit (leaves_of (full_list list log)))
  unfolding kept_answer run_answer
  own_answers limit declared =
      ap (λ (world : World). kept_call_of list.plan list.scripts list.domain list.part world limit) all_follow.left
      ∙ kept_calls_alike list.plan list.scripts (leaves_of (full_list list log)) limit list.domain list.part declared part_after

  answers : (call : KeptCall) → OwnKept list.domain list.part call → list.domain < list.plan.domains
      → kept_answer list.plan list.scripts call (kept_leaves list)
      ≡ kept_outcome list.part list.domain
      (run_answer list.plan list.scripts call.things call.limit (leaves_of (full_list list log)))
  answers call owned declared =
      subst
      (λ (c : KeptCall).
      kept_answer list.plan list.scripts c (kept_leaves list)
      ≡ kept_outcome list.part list.domain
      (run_answer list.plan list.scripts c.things c.limit (leaves_of (full_list list log))))
      (sym (own_call_lem list.plan list.scripts list.domain list.part call owned)) (own_answers call.limit declared)

pub kept_lists_alike : KeptListsAlike
kept_lists_alike list log is whole =
    let all = all_follow list log is whole in
    record {
      is_list = is_full list log is whole;
      leaves = all.left;
      point = all.counted;
      answers = answers list log is whole;
      unchanged = λ call. refused_stays list.plan list.scripts list.domain list.part call (kept_leaves list);
    }

-- ---- the domain that is watched

module _ (list : KeptList) (log : List ℕ) (is : IsKeptList list) (whole : IsWholeLog log list) where
  abbrev full : CallList
  full = full_list list log

  -- what the list leaves is that of the steps of its run
  reached : kept_leaves list ≡ kept_world list.part list.domain (world_after (run_of_list full) (point_of full))
  reached = (kept_lists_alike list log is whole).leaves ∙ ap (kept_world list.part list.domain) (leaves full (is_full list log is whole))

  -- its records so far are those that a log query hands back
  records_so_far : list.domain < list.plan.domains
      → kept_log list.domain (kept_leaves list) ≡ log_query_of list.plan (leaves_of full).state (leaves_of full).log list.domain
  unfolding world_after
  records_so_far declared =
      let world = world_after (run_of_list full) (point_of full) in
      let count = records_at world.state list.domain in
      let quota = part_records list.plan (length log) in
      let few = (counted list.plan list.scripts quota (list_valid full (is_full list log is whole)) (point_of full) log).records list.domain in
      ap (kept_log list.domain) reached
      ∙ part_so_far list.part list.domain count world.log (subst (λ (n : ℕ). count ≤ n) (sym whole.part_is) few)
      ∙ ap (λ (n : ℕ). log_part n list.domain count world.log) whole.part_is
      ∙ sym (log_after full (is_full list log is whole) list.domain declared)

module _ (one other : KeptList) (log log' : List ℕ) (is : IsKeptList one) (is' : IsKeptList other) (whole : IsWholeLog log one)
    (whole' : IsWholeLog log' other) (same : other.domain ≡ one.domain)
    (comparable : Comparable one.domain (full_list one log) (full_list other log')) where
  seen : SameSeen one.domain (full_list one log) (full_list other log')
  seen = isolation.isolated one.domain (full_list one log) (full_list other log') (is_full one log is whole) (is_full other log' is' whole') comparable

  -- a relation between what the lists of runs leave, of what these leave
  left : (Related : World → World → Type 0)
      → Related (kept_world one.part one.domain (leaves_of (full_list one log)))
      (kept_world other.part other.domain (leaves_of (full_list other log')))
      → Related (kept_leaves one) (kept_leaves other)
  left Related =
      subst₂ Related (sym (kept_lists_alike one log is whole).leaves) (sym (kept_lists_alike other log' is' whole').leaves)

  in_window : InOwnWindow one.domain one → EndsInWindowOf (Only one.domain) (full_list one log)
  in_window within =
      record {
        not_ended = subst (λ (w : World). w.state.windows < windows_total one.plan) (reached one log is whole) within.not_ended;
        owner = subst (λ (w : World). window_owner one.plan w.state.windows ≡ one.domain) (reached one log is whole) within.owner;
      }

  declared : one.domain < one.plan.domains
  declared = comparable.common.declared one.domain refl

  declared' : other.domain < other.plan.domains
  declared' = subst₂ (λ (domain : ℕ) (plan : Plan). domain < plan.domains) (sym same) comparable.common.plans declared

  watched : SameWatched one.domain one other log log'
  watched =
      record {
        on_time = isolation.on_time (full_list one log) (is_full one log is whole);
        on_time' = isolation.on_time (full_list other log') (is_full other log' is' whole');
        log_is =
            records_so_far one log is whole declared
            ∙ seen.log
            ∙ ap (λ (domain : ℕ). log_query_of other.plan (leaves_of (full_list other log')).state (leaves_of (full_list other log')).log domain) (sym same)
            ∙ sym (records_so_far other log' is' whole' declared')
            ∙ ap (λ (domain : ℕ). kept_log domain (kept_leaves other)) same;
        position = left (λ w w'. position_at w.state one.domain ≡ position_at w'.state one.domain) seen.position;
        sets = left (λ w w'. SameSets one.plan one.domain w.cache w'.cache) seen.sets;
        ops = λ window past owner.
            ap (ops_of (run_of_list (full_list one log)) window) (kept_lists_alike one log is whole).point
            ∙ seen.ops window
            (subst (λ (w : World). window < w.state.windows) (kept_lists_alike one log is whole).leaves past) owner
            ∙ ap (ops_of (run_of_list (full_list other log')) window) (sym (kept_lists_alike other log' is' whole').point);
        clock = λ within. left (λ w w'. w.state.clock ≡ w'.state.clock) (seen.clock (in_window within));
        l1 = λ within. left (λ w w'. SameL1 w.cache w'.cache) (seen.l1 (in_window within));
        kernel_sets = λ within. left (λ w w'. SameKernelSets w.cache w'.cache) (seen.kernel_sets (in_window within));
        boxes = λ within. left (SameBoxesTo (Only one.domain)) (seen.boxes (in_window within));
        ended_clock =
            λ over.
            left (λ w w'. w.state.clock ≡ w'.state.clock)
            (seen.ended_clock
            (subst (λ (w : World). windows_total one.plan ≤ w.state.windows) (kept_lists_alike one log is whole).leaves over));
      }

pub kept_isolation : KeptIsolation
kept_isolation observer one other log log' is is' here here' whole whole' =
    subst (λ (domain : ℕ). Comparable domain (full_list one log) (full_list other log') → SameWatched domain one other log log') here
    (watched one other log log' is is' whole whole' (here' ∙ sym here))

-- ---- a whole log

pub whole_logs_exist : WholeLogsExist
unfolding part_records log_part part
whole_logs_exist list long declared = record { log = log; long = total; whole = record { part_is = part_is; kept_is = kept_is } }
  where
    before : List ℕ
    before = replicate (record_index list.part list.domain 0) 0

    rest : ℕ
    rest = list.plan.domains - suc list.domain

    log : List ℕ
    log = before ++ (list.kept ++ replicate (record_size * (list.part * rest)) 0)

    total : length log ≡ record_size * (list.part * list.plan.domains)
    total =
        let domains : list.plan.domains ≡ suc list.domain + rest = omega arith in
        let parts : list.part * list.plan.domains ≡ list.part * suc list.domain + list.part * rest =
        ap (λ (n : ℕ). list.part * n) domains ∙ mul-add list.part (suc list.domain) rest in
        let one : list.part * suc list.domain ≡ list.part * list.domain + list.part = mul-suc list.part list.domain in
        let sizes : length log ≡ record_index list.part list.domain 0 + (length list.kept + record_size * (list.part * rest)) =
        simp (length-append, length-replicate) in
        omega arith

    part_is : list.part ≡ length log / (record_size * list.plan.domains)
    part_is =
        let turned : record_size * (list.part * list.plan.domains) ≡ record_size * list.plan.domains * list.part =
        ap (λ (n : ℕ). record_size * n) (mul_comm list.part list.plan.domains) ∙ sym (mul_assoc record_size list.plan.domains list.part) in
        sym (ap (λ (n : ℕ). n / (record_size * list.plan.domains)) (total ∙ turned)
        ∙ mul-div_cancel_left list.part (omega arith))

    kept_is : list.kept ≡ take (record_size * list.part) (drop (record_index list.part list.domain 0) log)
    kept_is =
        sym (ap (take (record_size * list.part)) (drop_at before _ (record_index list.part list.domain 0) (length-replicate _ 0))
        ∙ take_at list.kept _ (record_size * list.part) long)
