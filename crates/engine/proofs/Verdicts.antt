-- What an accepted call is known to have been lent, and each verdict from the tests that give it. Assumes nothing.
use Rattle.std.specs.Prelude.{Ok, Err}
use mathlib.Core.Path.{◌≡◌, refl, sym, ap, ◌∙◌}
use mathlib.Core.Bool.{Bool, true, false, and-eq-true_iff, ◌&&◌}
use mathlib.Core.List.{List, []}
use Prim.Native.Nat.{ℕ, ◌+◌, ◌*◌, ◌/◌, ◌%◌, ◌-◌, ◌≤◌, ◌<◌}
use native.Mathlib.Nat.{add-zero}
use native.Mathlib.Omega.{arith}
use lib.Dec.{eqb, leb, ltb}
use lib.ListN.{drop, length, replicate, take}
use borrow.Author.Tests.{eq-eqb, eqb-false, eqb-true, leb-true, lt-ltb, ltb-true}
use Rattle.lists.proofs.Tests.{both_pass}
use Rattle.lists.specs.Part.{part}
use Rattle.plan.specs.declared.Plan.{Plan}
use Rattle.plan.specs.Validity.{plan_valid}
use Rattle.script.specs.Limits.{most_ops, scripts_length}
use Rattle.cache.specs.Lines.{table_length}
use Rattle.ops.specs.Ops.{boxes_length}
use Rattle.state.specs.declared.State.{State}
use Rattle.state.specs.TableValidity.{tables_valid}
use Rattle.plan.proofs.ValidPlans.{counts}
use Rattle.plan.proofs.Sums.{all_below_lem}
use Rattle.records.proofs.Parts.{parts_fit}
use Rattle.records.proofs.Places.{kept_ends, part_ends}
use Rattle.records.specs.declared.Keep.{Keep}
use Rattle.records.specs.Records.{log_part, part_records, place_end, places_of, record_size}
use Rattle.state.specs.StateValidity.{clock_valid, domain_counts_valid, state_valid}
use Rattle.state.specs.World.{World, ended_of, fresh_state, position_at, records_at}
use Rattle.machine.specs.Steps.{run_keeping}
use Rattle.machine.specs.View.{ran_with}
use Rattle.refusal.specs.declared.Refusal.{Refusal}
use Rattle.refusal.specs.declared.Refusal.TheVariants.{DamagedTable, ImpossiblePlan, ImpossibleState, WrongDomain, WrongLength}
use Rattle.engine.specs.Answers.{answered, fresh_with}
use Rattle.engine.specs.declared.Ending.{Ending}
use Rattle.engine.specs.declared.Ending.TheVariants.{Stopped}
use Rattle.engine.specs.Running.{ending_of, outcome_from, ran_from, run_call_of, run_from}
use Rattle.engine.specs.Keeping.{kept_call_of}
use Rattle.engine.specs.declared.LentLog.{LentLog}
use Rattle.engine.specs.declared.LentLog.TheVariants.{Part, Whole}
use Rattle.engine.specs.LentLog.{domain_fits, keep_of, lent_call_of, lent_log_verdict, log_fits, quota_of}
use Rattle.engine.specs.LogQuery.{log_from, log_offset_of, log_query_of, offset_from}
use Rattle.engine.specs.FreshStart.{fresh_from, fresh_start_of}
use Rattle.engine.specs.Checks.{fresh_verdict, kept_verdict, lent_verdict, log_verdict, run_verdict, tables_fit}
use Rattle.refusal.specs.Checks.{and_then, unless}
use Rattle.refusal.proofs.Passed.{unless_passed}
use Rattle.refusal.specs.Verdict.{Verdict}

-- what a fresh start took
pub record FreshAccepted (plan : Plan) (cache boxes : List ℕ) : Type 0 where
  pub cache_long : length cache ≡ table_length
  pub boxes_long : length boxes ≡ boxes_length
  pub possible : plan_valid plan ≡ true

pub fresh_accepted : (plan : Plan) (cache boxes : List ℕ) → fresh_verdict plan cache boxes ≡ Ok tt → FreshAccepted plan cache boxes
unfolding fresh_verdict
fresh_accepted plan cache boxes passed =
    let fits = unless_passed _ _ _ passed in
    let long = (and-eq-true_iff _ _).0 fits.0 in
    record { cache_long = eqb-true _ _ long.0; boxes_long = eqb-true _ _ long.1; possible = (unless_passed _ _ _ fits.1).0 }

-- what a step or a run was lent beside its log
pub record LentAccepted (plan : Plan) (scripts : List ℕ) (state : State) (cache boxes : List ℕ) : Type 0 where
  pub scripts_long : length scripts ≡ scripts_length
  pub cache_long : length cache ≡ table_length
  pub boxes_long : length boxes ≡ boxes_length
  pub possible : plan_valid plan ≡ true
  pub sound : tables_valid plan state cache boxes ≡ true

module _ (plan : Plan) (scripts : List ℕ) (state : State) (cache boxes : List ℕ) where
  -- where all checks pass, those of what is lent do, and those that follow
  pub lent_accepted : (next : Verdict) → lent_verdict plan scripts state cache boxes next ≡ Ok tt
      → LentAccepted plan scripts state cache boxes × (next ≡ Ok tt)
  unfolding lent_verdict
  lent_accepted next passed =
      let first = unless_passed (eqb (length scripts) scripts_length && tables_fit cache boxes) _ _ passed in
      let second = unless_passed (plan_valid plan) _ _ first.1 in
      let third = unless_passed (tables_valid plan state cache boxes) _ _ second.1 in
      let fits = (and-eq-true_iff _ _).0 first.0 in
      let long = (and-eq-true_iff _ _).0 fits.1 in (
        record {
          scripts_long = eqb-true _ _ fits.0;
          cache_long = eqb-true _ _ long.0;
          boxes_long = eqb-true _ _ long.1;
          possible = second.0;
          sound = third.0;
        },
        third.1,
      )

  -- what is lent is refused before the checks that follow, or these decide
  pub lent_then : (next : Verdict) → lent_verdict plan scripts state cache boxes next
      ≡ and_then (lent_verdict plan scripts state cache boxes (Ok tt)) next
  unfolding lent_verdict
  lent_then next =
      go (eqb (length scripts) scripts_length && tables_fit cache boxes) (plan_valid plan) (tables_valid plan state cache boxes)
    where
      go : (fit possible sound : Bool)
          → unless fit WrongLength (unless possible ImpossiblePlan (unless sound DamagedTable next))
          ≡ and_then (unless fit WrongLength (unless possible ImpossiblePlan (unless sound DamagedTable (Ok tt)))) next
      go false possible sound = refl
      go true false sound = refl
      go true true false = refl
      go true true true = refl

  -- so with what was found of it
  pub lent_next : (found next : Verdict) → found ≡ lent_verdict plan scripts state cache boxes (Ok tt)
      → and_then found next ≡ lent_verdict plan scripts state cache boxes next
  lent_next found next is = ap (λ (first : Verdict). and_then first next) is ∙ sym (lent_then next)

-- what a step or a run took
pub record RunAccepted (plan : Plan) (scripts : List ℕ) (world : World) : Type 0 where
  pub scripts_long : length scripts ≡ scripts_length
  pub cache_long : length world.cache ≡ table_length
  pub boxes_long : length world.boxes ≡ boxes_length
  pub possible : plan_valid plan ≡ true
  pub sound : tables_valid plan world.state world.cache world.boxes ≡ true
  pub state_is : state_valid plan (part_records plan (length world.log)) world.state ≡ true

pub run_accepted : (plan : Plan) (scripts : List ℕ) (world : World) → run_verdict plan scripts world ≡ Ok tt → RunAccepted plan scripts world
unfolding run_verdict
run_accepted plan scripts world passed =
    let all = lent_accepted plan scripts world.state world.cache world.boxes _ passed in
    record {
      scripts_long = all.0.scripts_long;
      cache_long = all.0.cache_long;
      boxes_long = all.0.boxes_long;
      possible = all.0.possible;
      sound = all.0.sound;
      state_is = (unless_passed (state_valid plan (part_records plan (length world.log)) world.state) _ _ all.1).0;
    }

-- what a run took that keeps one domain's log
pub record KeptAccepted (plan : Plan) (scripts : List ℕ) (domain quota : ℕ) (world : World) : Type 0 where
  pub log_long : length world.log ≡ record_size * quota
  pub lent : LentAccepted plan scripts world.state world.cache world.boxes
  pub state_is : state_valid plan quota world.state ≡ true
  pub declared : domain < plan.domains

pub kept_accepted : (plan : Plan) (scripts : List ℕ) (domain quota : ℕ) (world : World)
    → kept_verdict plan scripts domain quota world ≡ Ok tt → KeptAccepted plan scripts domain quota world
unfolding kept_verdict
kept_accepted plan scripts domain quota world passed =
    let first = unless_passed (eqb (length world.log) (record_size * quota)) _ _ passed in
    let all = lent_accepted plan scripts world.state world.cache world.boxes _ first.1 in
    let counted = unless_passed (state_valid plan quota world.state) _ _ all.1 in
    record {
      log_long = eqb-true _ _ first.0;
      lent = all.0;
      state_is = counted.0;
      declared = ltb-true _ _ (unless_passed (ltb domain plan.domains) _ _ counted.1).0;
    }

-- a buffer's length against that of some records, by division
pub divided : (bytes records : ℕ) → (eqb (bytes / record_size) records && eqb (bytes % record_size) 0) ≡ eqb bytes (record_size * records)
divided bytes records = go (eqb bytes (record_size * records)) refl
  where
    go : (same : Bool) → eqb bytes (record_size * records) ≡ same
        → (eqb (bytes / record_size) records && eqb (bytes % record_size) 0) ≡ same
    go true same =
        let is : bytes ≡ record_size * records = eqb-true _ _ same in
        both_pass (eqb (bytes / record_size) records) (eqb (bytes % record_size) 0)
        (eq-eqb (bytes / record_size) records (omega arith)) (eq-eqb (bytes % record_size) 0 (omega arith))
    go false differs =
        let apart : bytes ≡ record_size * records → ⊥ = eqb-false _ _ differs in
        fails (eqb (bytes / record_size) records) refl (eqb (bytes % record_size) 0) refl apart
      where
        fails : (whole : Bool) → eqb (bytes / record_size) records ≡ whole → (rest : Bool) → eqb (bytes % record_size) 0 ≡ rest
            → (bytes ≡ record_size * records → ⊥) → (whole && rest) ≡ false
        fails false w rest r apart = refl
        fails true w false r apart = refl
        fails true w true r apart = absurd (apart (omega (arith, eqb-true (bytes / record_size) records w, eqb-true (bytes % record_size) 0 r)))

-- the checks of a run after its log's length, by the log that it is lent
pub lent_log_next : (lent : LentLog) (plan : Plan) (scripts : List ℕ) (world : World) (found : Verdict) (counted declared : Bool)
    → log_fits lent (length world.log) ≡ true
    → found ≡ lent_verdict plan scripts world.state world.cache world.boxes (Ok tt)
    → counted ≡ state_valid plan (quota_of lent plan (length world.log)) world.state
    → declared ≡ domain_fits lent plan.domains
    → and_then found (unless counted ImpossibleState (unless declared (WrongDomain 0) (Ok tt)))
    ≡ lent_log_verdict lent plan scripts world
unfolding lent_log_verdict
lent_log_next lent plan scripts world found counted declared fits is counts names =
    rw (counts, names, fits, lent_log_verdict) (lent_next plan scripts world.state world.cache world.boxes found _ is)

-- what it took
pub record CallAccepted (lent : LentLog) (plan : Plan) (scripts : List ℕ) (world : World) : Type 0 where
  pub log_fits_lem : log_fits lent (length world.log) ≡ true
  pub tables : LentAccepted plan scripts world.state world.cache world.boxes
  pub state_is : state_valid plan (quota_of lent plan (length world.log)) world.state ≡ true

pub call_accepted : (lent : LentLog) (plan : Plan) (scripts : List ℕ) (world : World)
    → lent_log_verdict lent plan scripts world ≡ Ok tt → CallAccepted lent plan scripts world
unfolding lent_log_verdict
call_accepted lent plan scripts world passed =
    let first = unless_passed (log_fits lent (length world.log)) _ _ passed in
    let all = lent_accepted plan scripts world.state world.cache world.boxes _ first.1 in
    record {
      log_fits_lem = first.0;
      tables = all.0;
      state_is = (unless_passed (state_valid plan (quota_of lent plan (length world.log)) world.state) _ _ all.1).0;
    }

-- every declared domain's records have their place in that log
pub places_fit : (lent : LentLog) (plan : Plan) (size : ℕ) → log_fits lent size ≡ true → (domain : ℕ) → domain < plan.domains
    → place_end (places_of (keep_of lent) (quota_of lent plan size) domain) (quota_of lent plan size) ≤ size
places_fit Whole plan size fits domain declared = part_ends (part_records plan size) plan.domains domain size declared (parts_fit plan size)
places_fit (Part named quota) plan size fits domain declared =
    kept_ends quota named domain size (omega (arith, eqb-true size (record_size * quota) fits))

-- the verdict and the answer of either log are those of running, and of running with one domain's log
pub whole_called : (plan : Plan) (scripts : List ℕ) (world : World) (limit : ℕ)
    → lent_call_of Whole plan scripts world limit ≡ run_call_of plan scripts world limit
unfolding lent_call_of lent_log_verdict run_call_of run_verdict
whole_called plan scripts world limit = refl

pub part_called : (plan : Plan) (scripts : List ℕ) (domain quota : ℕ) (world : World) (limit : ℕ)
    → lent_call_of (Part domain quota) plan scripts world limit ≡ kept_call_of plan scripts domain quota world limit
unfolding lent_call_of lent_log_verdict kept_call_of kept_verdict
part_called plan scripts domain quota world limit = refl

-- what a log query took
pub record LogAccepted (plan : Plan) (state : State) (log : List ℕ) (domain : ℕ) : Type 0 where
  pub possible : plan_valid plan ≡ true
  pub state_is : state_valid plan (part_records plan (length log)) state ≡ true
  pub declared : domain < plan.domains

pub log_accepted :
    (plan : Plan) (state : State) (log : List ℕ) (domain : ℕ) → log_verdict plan state log domain ≡ Ok tt → LogAccepted plan state log domain
unfolding log_verdict
log_accepted plan state log domain passed =
    let first = unless_passed (plan_valid plan) _ _ passed in
    let second = unless_passed (state_valid plan (part_records plan (length log)) state) _ _ first.1 in
    record { possible = first.0; state_is = second.0; declared = ltb-true _ _ (unless_passed (ltb domain plan.domains) _ _ second.1).0 }

-- the tables' lengths, from the test of all
pub fit_lengths : (scripts cache boxes : List ℕ) → (eqb (length scripts) scripts_length && tables_fit cache boxes) ≡ true
    → (length cache ≡ table_length) × (length boxes ≡ boxes_length)
fit_lengths scripts cache boxes fit =
    let long = (and-eq-true_iff _ _).0 ((and-eq-true_iff (eqb (length scripts) scripts_length) _).0 fit).1 in
    (eqb-true _ _ long.0, eqb-true _ _ long.1)

-- wrong lengths, or an impossible plan
module _ (plan : Plan) (scripts : List ℕ) (world : World) where
  abbrev pub all_fit : Bool
  all_fit = eqb (length scripts) scripts_length && tables_fit world.cache world.boxes

  pub run_wrong_length : all_fit ≡ false → Err WrongLength ≡ run_verdict plan scripts world
  unfolding run_verdict lent_verdict
  run_wrong_length unfit = rw (unfit, lent_verdict) refl

  pub run_impossible : all_fit ≡ true → plan_valid plan ≡ false → Err ImpossiblePlan ≡ run_verdict plan scripts world
  unfolding run_verdict lent_verdict
  run_impossible fit impossible = rw (fit, impossible, lent_verdict) refl

pub log_impossible :
    (plan : Plan) (state : State) (log : List ℕ) (domain : ℕ) → plan_valid plan ≡ false → Err ImpossiblePlan ≡ log_verdict plan state log domain
unfolding log_verdict
log_impossible plan state log domain impossible = rw (impossible, log_verdict) refl

-- what a fresh start leaves, refused or not
module _ (plan : Plan) (state : State) (cache boxes : List ℕ) where
  pub fresh_refused :
      (refusal : Refusal)
      → Err refusal ≡ fresh_verdict plan cache boxes
      → fresh_with (Err refusal) state cache boxes ≡ fresh_start_of plan state cache boxes
  unfolding fresh_start_of
  fresh_refused refusal refused = ap (λ (verdict : Verdict). fresh_from verdict state cache boxes) refused

  pub fresh_started :
      (fresh : State) (emptied cleared : List ℕ)
      → (Ok tt) ≡ fresh_verdict plan cache boxes
      → fresh ≡ fresh_state
      → emptied ≡ replicate (length cache) 0
      → cleared ≡ replicate (length boxes) 0
      → fresh_with (Ok fresh) state emptied cleared ≡ fresh_start_of plan state cache boxes
  unfolding fresh_start_of
  fresh_started fresh emptied cleared accepted zeroed empties clears =
      let lent = fresh_accepted plan cache boxes (sym accepted) in
      rw (zeroed, empties, clears, lent.cache_long, lent.boxes_long) (ap (λ (verdict : Verdict). fresh_from verdict state cache boxes) accepted)

-- what a run leaves, refused or not
module _ (plan : Plan) (scripts : List ℕ) (world : World) (limit : ℕ) where
  pub run_refused :
      (refusal : Refusal)
      → Err refusal ≡ run_verdict plan scripts world
      → answered (Err refusal) 0 Stopped world ≡ run_call_of plan scripts world limit
  unfolding run_call_of
  run_refused refusal refused = ap (λ (verdict : Verdict). run_from verdict plan scripts world limit) refused

-- the same, by the log that it is lent
module _ (lent : LentLog) (plan : Plan) (scripts : List ℕ) (world : World) (limit : ℕ) where
  pub call_refused :
      (refusal : Refusal)
      → Err refusal ≡ lent_log_verdict lent plan scripts world
      → answered (Err refusal) 0 Stopped world ≡ lent_call_of lent plan scripts world limit
  unfolding lent_call_of
  call_refused refusal refused =
      ap
      (λ (verdict : Verdict).
      outcome_from verdict plan (run_keeping (keep_of lent) plan scripts (quota_of lent plan (length world.log)) limit world) world)
      refused

  pub call_ran :
      (keep : Keep) (quota steps : ℕ) (last : World) (ending : Ending)
      → (Ok tt) ≡ lent_log_verdict lent plan scripts world
      → keep ≡ keep_of lent
      → quota ≡ quota_of lent plan (length world.log)
      → ran_with steps last ≡ run_keeping keep plan scripts quota limit world
      → ending ≡ ending_of (ended_of plan last.state)
      → answered (Ok tt) steps ending last ≡ lent_call_of lent plan scripts world limit
  unfolding lent_call_of ran_from
  call_ran keep quota steps last ending accepted keeps parts did ends =
      rw ends
      (ap (ran_from plan)
      (did
      ∙ ap (λ (k : Keep). run_keeping k plan scripts quota limit world) keeps
      ∙ ap (λ (n : ℕ). run_keeping (keep_of lent) plan scripts n limit world) parts)
      ∙ ap
      (λ (verdict : Verdict).
      outcome_from verdict plan (run_keeping (keep_of lent) plan scripts (quota_of lent plan (length world.log)) limit world) world)
      accepted)

-- a declared domain of a possible state has no more records than its part
counted_part :
    (plan : Plan) (quota : ℕ) (state : State) (domain : ℕ)
    → state_valid plan quota state ≡ true
    → domain < plan.domains
    → domain < 8
    → records_at state domain ≤ quota
unfolding state_valid domain_counts_valid
counted_part plan quota state domain passes declared below =
    let all = ((and-eq-true_iff (clock_valid plan state) _).0 passes).1 in
    let whole = all_below_lem (domain_counts_valid plan quota state) 8 domain all below in
    let own : leb (position_at state domain) most_ops && leb (records_at state domain) quota ≡ true = rw (lt-ltb domain plan.domains declared) at whole in
    leb-true _ _ ((and-eq-true_iff (leb (position_at state domain) most_ops) _).0 own).1

-- what a log query hands back, refused or not
module _ (plan : Plan) (state : State) (log : List ℕ) (domain : ℕ) where
  pub log_refused : (refusal : Refusal) → Err refusal ≡ log_verdict plan state log domain → [] ≡ log_query_of plan state log domain
  unfolding log_query_of
  log_refused refusal refused = ap (λ (verdict : Verdict). log_from verdict plan state log domain) refused

  pub log_handed :
      (quota : ℕ)
      → (Ok tt) ≡ log_verdict plan state log domain
      → quota ≡ part_records plan (length log)
      → take (8 * (quota * domain) + 8 * records_at state domain - 8 * (quota * domain)) (drop (8 * (quota * domain)) log)
      ≡ log_query_of plan state log domain
  unfolding log_query_of log_part part
  log_handed quota accepted parts =
      let long : 8 * (quota * domain) + 8 * records_at state domain - 8 * (quota * domain) ≡ 8 * records_at state domain = omega arith in
      rw (long, parts)
      (ap (λ (n : ℕ). take (8 * records_at state domain) (drop (8 * n) log)) (sym (add-zero (part_records plan (length log) * domain)))
      ∙ ap (λ (verdict : Verdict). log_from verdict plan state log domain) accepted)

  -- and where in the lent log it lies
  pub offset_refused : (refusal : Refusal) (at : ℕ) → Err refusal ≡ log_verdict plan state log domain
      → at ≡ at + log_offset_of plan state log domain
  unfolding log_offset_of
  offset_refused refusal at refused =
      sym (add-zero at) ∙ ap (λ (verdict : Verdict). at + offset_from verdict plan log domain) refused

  pub offset_handed : (quota at : ℕ) → (Ok tt) ≡ log_verdict plan state log domain → quota ≡ part_records plan (length log)
      → 8 * (quota * domain) + at ≡ at + log_offset_of plan state log domain
  unfolding log_offset_of
  offset_handed quota at accepted parts =
      let begins : 8 * (quota * domain) ≡ offset_from (Ok tt) plan log domain = rw (parts, add-zero) refl in
      let same = ap (λ (verdict : Verdict). offset_from verdict plan log domain) accepted in
      omega arith

  -- a domain's records so far lie within the log
  pub log_within :
      LogAccepted plan state log domain
      → 8 * (part_records plan (length log) * domain) + 8 * records_at state domain ≤ length log
  log_within ok =
      let most = (counts plan ok.possible).domains_most in
      let count = counted_part plan (part_records plan (length log)) state domain ok.state_is ok.declared (omega arith) in
      omega (arith, part_ends (part_records plan (length log)) plan.domains domain (length log) ok.declared (parts_fit plan (length log)))
