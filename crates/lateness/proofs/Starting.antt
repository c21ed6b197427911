-- The start of a domain's first window: nothing of the domain's has been touched before, and L1 and the kernel's sets hold nothing, where
-- it is the run's first, or else the entry line alone. Assumes nothing.
use Prim.Native.Nat.{ℕ, zero, suc, ◌*◌, ◌%◌, ◌≤◌, ◌<◌}
use mathlib.Core.Bool.{true, false, false≢true}
use mathlib.Core.List.{List}
use mathlib.Core.Path.{◌≡◌, sym, ap, subst, ◌∙◌}
use native.Mathlib.Nat.{lt_of_lt_of_le, mod-eq_of_lt, mul-le-mul_right, one-mul}
use native.Mathlib.Decide.{ℕ_discrete}
use native.Mathlib.Omega.{arith}
use lib.ListN.{get_or, length}
use borrow.Author.Tests.{eq-eqb, eqb-true}
use Rattle.plan.specs.declared.Plan.{Plan}
use Rattle.plan.specs.Limits.{most_domains}
use Rattle.plan.specs.Validity.{plan_valid}
use Rattle.plan.specs.Windows.{window_length, window_owner, window_start, windows_total}
use Rattle.plan.proofs.ValidPlans.{counts}
use Rattle.cache.specs.Lines.{table_length}
use Rattle.records.specs.Records.{part_records}
use Rattle.state.specs.World.{World, fresh_state, position_at, records_at}
use Rattle.machine.specs.Fresh.{fresh_world}
use Rattle.machine.specs.Steps.{run_by}
use Rattle.machine.proofs.Invariant.{steps_counts}
use Rattle.reachable.proofs.Cells.{cell_zeros, zeros_length}
use Rattle.isolation.specs.Points.{FreshRun, Starts, world_after}
use Rattle.isolation.proofs.OneRun.OnTime.{every_start}
use Rattle.isolation.proofs.TwoRuns.Indices.{OwnIndex}
use Rattle.isolation.proofs.TwoRuns.Progress.{one_more_lem}
use Rattle.isolation.proofs.TwoRuns.Relations.{Alike, alike_refl, alike_trans, same_position, same_records}
use Rattle.isolation.proofs.TwoRuns.Step.{step_away}
use Rattle.isolation.proofs.TwoRuns.Windows.{ready, whole}
use Rattle.isolation.proofs.WindowStarts.{every_window_starts}
use Rattle.latest.specs.Reach.{first_window, owns_window, starts_run}
use Rattle.lateness.specs.Theorems.{fresh_run}
use Rattle.lateness.proofs.WindowStarts.{Touched, Untouched, first_untouched, later_touched, starts_touched, starts_untouched}
use Rattle.latest.proofs.Lowest.{lowest_passes, none_before}

-- ---- which window it is

module _ (plan : Plan) (domain : ℕ) (some : first_window plan domain < plan.windows) where
  -- in the first repeat a window is the declared one of its number
  first_slot : (window : ℕ) → window < plan.windows → window % plan.windows ≡ window
  first_slot window below = mod-eq_of_lt below

  pub first_owns : owns_window plan domain (first_window plan domain) ≡ true
  unfolding first_window
  first_owns = lowest_passes (owns_window plan domain) plan.windows some

  pub first_owner : window_owner plan (first_window plan domain) ≡ domain
  unfolding window_owner
  first_owner =
      ap (λ slot. get_or plan.owners slot 0) (first_slot (first_window plan domain) some)
      ∙ eqb-true (get_or plan.owners (first_window plan domain) 0) domain first_owns

  pub first_length : window_length plan (first_window plan domain) ≡ get_or plan.lengths (first_window plan domain) 0
  unfolding window_length
  first_length = ap (λ slot. get_or plan.lengths slot 0) (first_slot (first_window plan domain) some)

  others_before : (window : ℕ) → window < first_window plan domain → domain ≡ window_owner plan window → ⊥
  unfolding window_owner first_window
  others_before window earlier same =
      let slot = first_slot window (omega arith) in
      let owns : owns_window plan domain window ≡ true =
      eq-eqb _ _ (ap (λ slot. get_or plan.owners slot 0) (sym slot) ∙ sym same) in
      false≢true (sym (none_before (owns_window plan domain) plan.windows window earlier) ∙ owns)

  -- it is not the run's first where that is another's
  pub not_first : starts_run plan domain ≡ false → first_window plan domain ≡ 0 → ⊥
  unfolding starts_run
  not_first later first = false≢true (sym later ∙ subst (λ window. owns_window plan domain window ≡ true) first first_owns)

-- and it is where that is the domain's
first_is : (plan : Plan) (domain : ℕ) → starts_run plan domain ≡ true → first_window plan domain ≡ 0
unfolding starts_run first_window
first_is plan domain first = go (ℕ_discrete (first_window plan domain) 0)
  where
    go : Dec (first_window plan domain ≡ 0) → first_window plan domain ≡ 0
    go (yes is) = is
    go (no differs) =
        absurd (false≢true (sym (none_before (owns_window plan domain) plan.windows 0 (omega arith)) ∙ first))

-- the windows of the first repeat are windows of the run
pub windows_in_run : (plan : Plan) → plan_valid plan ≡ true → (window : ℕ) → window < plan.windows → window < windows_total plan
unfolding windows_total
windows_in_run plan valid window below =
    lt_of_lt_of_le below (subst (λ n. n ≤ plan.run * plan.windows) (one-mul plan.windows) (mul-le-mul_right plan.windows (counts plan valid).run_least))

-- ---- what it finds

-- what a world at the start of the domain's first window holds
pub record AtStart (plan : Plan) (domain : ℕ) (world : World) : Type 0 where
  pub windows : world.state.windows ≡ first_window plan domain
  pub clock : world.state.clock ≡ window_start plan (first_window plan domain)
  pub position : position_at world.state domain ≡ 0
  pub records : records_at world.state domain ≡ 0
  pub eight_positions : length world.state.positions ≡ most_domains
  pub eight_records : length world.state.records ≡ most_domains
  pub long : length world.cache ≡ table_length
  pub untouched : starts_run plan domain ≡ true → Untouched world.cache
  pub touched : starts_run plan domain ≡ false → Touched world.cache
  pub own : (index : ℕ) → OwnIndex plan domain index → get_or world.cache index 0 ≡ 0

module _ (plan : Plan) (scripts log : List ℕ) (valid : plan_valid plan ≡ true) where
  abbrev run : FreshRun
  run = fresh_run plan scripts log

  abbrev quota : ℕ
  quota = part_records plan (length log)

  -- the domain's own is as after the fresh start until its first window starts
  module _ (domain : ℕ) (declared : domain < plan.domains) (some : first_window plan domain < plan.windows) where
    untouched : (start : ℕ) → Starts run (first_window plan domain) start → (count : ℕ) → count ≤ start
        → Alike plan quota domain (world_after run 0) (world_after run count)
    untouched start starts zero so_far = alike_refl plan quota domain (world_after run 0)
    untouched start starts (suc count) so_far =
        let world = world_after run count in
        subst (Alike plan quota domain (world_after run 0)) (sym (one_more_lem run count))
        (alike_trans plan quota domain (untouched start starts count (omega arith))
        (step_away plan scripts quota domain world valid declared
        (others_before plan domain some world.state.windows (starts.first count (omega arith)))
        (ready run valid count)))

    fresh_position : position_at (world_after run 0).state domain ≡ 0
    unfolding world_after run_by fresh_world fresh_state
    fresh_position = cell_zeros most_domains domain

    fresh_records : records_at (world_after run 0).state domain ≡ 0
    unfolding world_after run_by fresh_world fresh_state
    fresh_records = cell_zeros most_domains domain

    fresh_cache : (index : ℕ) → get_or (world_after run 0).cache index 0 ≡ 0
    unfolding world_after run_by fresh_world
    fresh_cache index = cell_zeros table_length index

    eights : (count : ℕ) → (length (world_after run count).state.positions ≡ most_domains)
        × (length (world_after run count).state.records ≡ most_domains)
    unfolding world_after fresh_world fresh_state
    eights count =
        let kept = steps_counts _ plan scripts quota count (fresh_world log) in
        (kept.0 ∙ zeros_length most_domains, kept.1 ∙ zeros_length most_domains)

    -- it does start, and so
    pub record FirstStart : Type 0 where
      pub at : ℕ
      pub there : AtStart plan domain (world_after run at)

    pub first_starts : FirstStart
    first_starts =
        let within = first_window plan domain in
        let started = every_start run valid within (omega (arith, windows_in_run plan valid within some)) in
        let alike = untouched started.at started.starts started.at (omega arith) in
        let holds = every_window_starts run within started.at valid started.starts in
        let window = started.starts.reached in
        record {
          at = started.at;
          there =
              record {
                windows = started.starts.reached;
                clock = started.on_time;
                position = sym (same_position plan quota domain alike) ∙ fresh_position;
                records = sym (same_records plan quota domain alike) ∙ fresh_records;
                eight_positions = (eights started.at).0;
                eight_records = (eights started.at).1;
                long = whole run valid started.at;
                untouched = λ first. starts_untouched plan (world_after run started.at) holds (first_untouched plan _ (window ∙ first_is plan domain first));
                touched = λ later.
                    starts_touched plan (world_after run started.at) holds
                    (later_touched plan _ (λ none. not_first plan domain some later (sym window ∙ none))
                    (omega (arith, window, windows_in_run plan valid within some)));
                own = λ index mine. sym (alike.sets.at index mine) ∙ fresh_cache index;
              };
        }
