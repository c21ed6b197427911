-- Two runs at corresponding points, and domains that are named: what each of them sees is the same in both, whatever
-- the others' scripts hold, if their windows began with the same in the boxes addressed to them; and every point of one
-- run has a corresponding one in the other. Assumes nothing.
pub mod Access
pub mod Indices
pub mod Relations
pub mod Ops
pub mod Switch
pub mod Log
pub mod OpStep
pub mod Step
pub mod Progress
pub mod OpCounts
pub mod Positions
pub mod Near
pub mod Windows
pub mod Solo
use Prim.Native.Nat.{ℕ, zero, suc, ◌+◌, ◌≤◌, ◌<◌}
use mathlib.Core.Bool.{Bool, true, false, false≢true}
use mathlib.Core.List.{List}
use mathlib.Core.Path.{◌≡◌, refl, sym, ap, subst, ◌∙◌}
use native.Mathlib.Decide.{dec_lt}
use native.Mathlib.Nat.{add-suc, add-zero}
use native.Mathlib.Omega.{arith}
use lib.ListN.{get_or, length, length-replicate}
use Rattle.plan.specs.declared.Plan.{Plan}
use Rattle.plan.specs.Validity.{plan_valid}
use Rattle.plan.specs.Windows.{window_owner, window_start, windows_total}
use Rattle.bound.specs.Bound.{step_bound}
use Rattle.records.specs.Records.{log_part, part_records}
use Rattle.ops.specs.Ops.{box_index, boxes_length, empty_boxes}
use Rattle.state.specs.World.{position_at, records_at}
use Rattle.reachable.proofs.Reached.{boxes_length_lem}
use Rattle.machine.specs.Fresh.{fresh_world}
use Rattle.isolation.specs.Points.{FreshRun, InWindowOf, SameBoxesTo, Starts, ops_of, windows_after, world_after}
use Rattle.isolation.specs.Solo.{AgreesWithSolo, InSet, Matches, SameInWindow, SameToMember, SoloInput, solo_at, solo_here}
use Rattle.isolation.specs.Solo.{wait_steps}
use Rattle.isolation.specs.Statement.{BoxesAgree, Correspond, HasCorresponding, Only, SameKernelSets, SameL1}
use Rattle.isolation.specs.Statement.{SamePlan, SameSets, ScriptsAgree, StartedOnTime}
use Rattle.isolation.proofs.OneRun.OnTime.{ended_clock_lem, every_start, scheduled_after, started}
use OpCounts.{ops_in_all, ops_so_far_lem}
use Progress.{lasts, no_fewer, one_start}
use Solo.{agrees_with_solo, idle_same, next_is, none_past, solo_first, solo_step}
use Windows.{Began, Completed, began, completed, run_by}

-- what two runs must have in common
pub record Shared (Named : ℕ → Type 0) (one other : FreshRun) : Type 0 where
  pub possible : plan_valid one.plan ≡ true
  pub is_named : (domain : ℕ) → Dec (Named domain)
  pub declared : (domain : ℕ) → Named domain → domain < one.plan.domains
  pub scripts : ScriptsAgree Named one.scripts other.scripts
  pub logs : length one.log ≡ length other.log

-- what a domain sees there
pub record Same (observer : ℕ) (one : FreshRun) (count : ℕ) (other : FreshRun) (count' : ℕ) : Type 0 where
  pub records : records_at (world_after one count).state observer ≡ records_at (world_after other count').state observer
  pub log :
      log_part (part_records one.plan (length one.log)) observer (records_at (world_after one count).state observer)
      (world_after one count).log
      ≡ log_part (part_records one.plan (length one.log)) observer (records_at (world_after other count').state observer)
      (world_after other count').log
  pub position : position_at (world_after one count).state observer ≡ position_at (world_after other count').state observer
  pub sets : SameSets one.plan observer (world_after one count).cache (world_after other count').cache
  pub ops :
      (window : ℕ)
      → window < windows_after one count
      → window_owner one.plan window ≡ observer
      → ops_of one window count ≡ ops_of other window count'
  pub clock : InWindowOf (Only observer) one count
      → (world_after one count).state.clock ≡ (world_after other count').state.clock
  pub l1 : InWindowOf (Only observer) one count → SameL1 (world_after one count).cache (world_after other count').cache
  pub kernel_sets : InWindowOf (Only observer) one count
      → SameKernelSets (world_after one count).cache (world_after other count').cache
  pub ended_clock : windows_total one.plan ≤ windows_after one count
      → (world_after one count).state.clock ≡ (world_after other count').state.clock

-- what the named domains see there together
pub record SameFor (Named : ℕ → Type 0) (one : FreshRun) (count : ℕ) (other : FreshRun) (count' : ℕ) : Type 0 where
  pub each : (member : ℕ) → Named member → Same member one count other count'
  pub boxes : InWindowOf Named one count → SameBoxesTo Named (world_after one count) (world_after other count')

-- ---- a decided set, as a test

is_yes : {A : Type 0} → Dec A → Bool
is_yes (yes a) = true
is_yes (no f) = false

to_test : {A : Type 0} (d : Dec A) → A → is_yes d ≡ true
unfolding is_yes
to_test (yes a) b = refl
to_test (no f) b = absurd (f b)

of_test : {A : Type 0} (d : Dec A) → is_yes d ≡ true → A
unfolding is_yes
of_test (yes a) e = a
of_test (no f) e = absurd (false≢true e)

-- ---- runs of one plan

module _ {Named : ℕ → Type 0} (plan : Plan) (scripts scripts' log log' : List ℕ)
    (shared : Shared Named (run_by plan scripts log) (run_by plan scripts' log')) where
  abbrev one : FreshRun
  one = run_by plan scripts log

  abbrev other : FreshRun
  other = run_by plan scripts' log'

  abbrev possible : plan_valid plan ≡ true
  possible = shared.possible

  -- the boxes at the start of each of the first run's windows
  start_of : (window : ℕ) → window < windows_total plan → StartedOnTime one (step_bound plan one.scripts) window
  start_of window room = every_start one possible window (omega arith)

  mail_at : (window : ℕ) → Dec (window < windows_total plan) → List ℕ
  mail_at window (yes room) = (world_after one (start_of window room).at).boxes
  mail_at window (no over) = empty_boxes

  abbrev input : SoloInput
  input =
      record {
        plan = plan;
        in_set = λ domain. is_yes (shared.is_named domain);
        scripts = scripts;
        log_length = length log;
        mail = λ window. mail_at window (dec_lt window (windows_total plan));
      }

  mail_fits_lem : (window : ℕ) (d : Dec (window < windows_total plan)) → length (mail_at window d) ≡ boxes_length
  unfolding world_after fresh_world mail_at
  mail_fits_lem window (yes room) = boxes_length_lem plan scripts log _ possible
  mail_fits_lem window (no over) = length-replicate {A = ℕ} boxes_length 0

  mail_is_lem : (window at : ℕ) (d : Dec (window < windows_total plan)) → window < windows_total plan → Starts one window at
      → (world_after one at).boxes ≡ mail_at window d
  unfolding mail_at
  mail_is_lem window at (yes room) in_run s =
      ap (λ (n : ℕ). (world_after one n).boxes) (one_start one window at _ s (start_of window room).starts)
  mail_is_lem window at (no over) in_run s = absurd (over in_run)

  named : (domain : ℕ) → InSet input domain → Named domain
  named domain = of_test (shared.is_named domain)

  in_set_lem : (domain : ℕ) → Named domain → InSet input domain
  in_set_lem domain = to_test (shared.is_named domain)

  -- both runs match it
  matches_one : (count : ℕ) → Matches input scripts log count
  matches_one count =
      record {
        declared = λ domain n. shared.declared domain (named domain n);
        scripts_are = λ domain n index below. refl;
        log_is = refl;
        mail_fits = λ window. mail_fits_lem window (dec_lt window (windows_total plan));
        mail_is = λ window at room owner s so_far sender recipient known n.
            ap (λ (boxes : List ℕ). get_or boxes (box_index sender recipient) 0)
            (mail_is_lem window at (dec_lt window (windows_total plan)) room s);
      }

  matches_other : (count count' : ℕ) → windows_after other count' ≤ windows_after one count
      → BoxesAgree Named one count other count'
      → Matches input scripts' log' count'
  matches_other count count' windows boxes =
      record {
        declared = λ domain n. shared.declared domain (named domain n);
        scripts_are = λ domain n index below. sym (shared.scripts domain (named domain n) index below);
        log_is = sym shared.logs;
        mail_fits = λ window. mail_fits_lem window (dec_lt window (windows_total plan));
        mail_is = λ window at' room owner s' so_far' sender recipient known n.
            let grown = no_fewer other possible at' count' so_far' in
            let t = started one possible count window (omega (arith, s'.reached)) in
            sym
            (boxes window t.at at' room (named _ owner) t.starts t.so_far s' so_far' sender recipient known
            (named recipient n))
            ∙ ap (λ (held : List ℕ). get_or held (box_index sender recipient) 0)
            (mail_is_lem window t.at (dec_lt window (windows_total plan)) room t.starts);
      }

  -- ---- every point of one has a corresponding one in the other

  module _ (count : ℕ) (boxes : (at : ℕ) → BoxesAgree Named one count other at) where
    abbrev now : ℕ
    now = windows_after one count

    there : StartedOnTime other (step_bound other.plan other.scripts) now
    there = every_start other possible now (scheduled_after one possible count).windows

    -- the other's window lasts as long
    lasts_there : now < windows_total plan → Named (window_owner plan now) → (at : ℕ) → Starts one now at → at ≤ count
        → (more : ℕ) → windows_after one (at + more) ≡ now → windows_after other (there.at + more) ≡ now
    lasts_there room owner at s so_far zero here = rw add-zero there.starts.reached
    lasts_there room owner at s so_far (suc more) here =
        let earlier = lasts one possible now at more s.reached here in
        let before = lasts_there room owner at s so_far more earlier in
        let m = matches_other count there.at (omega (arith, there.starts.reached)) (boxes there.at) in
        rw add-suc
        (next_is input scripts' log' there.at possible m now there.at more room (in_set_lem _ owner) there.starts (omega arith) before
        ∙ sym (next_is input scripts log count possible (matches_one count) now at more room (in_set_lem _ owner) s so_far earlier)
        ∙ rw add-suc at here)

    corresponding_one : HasCorresponding Named one count other
    corresponding_one = go (dec_lt now (windows_total plan)) (shared.is_named (window_owner plan now))
      where
        b : Began one now count
        b = began one possible count (started one possible count) now count (omega arith) (omega arith)

        at_start : (InWindowOf Named one count → ⊥) → HasCorresponding Named one count other
        at_start elsewhere =
            record {
              at = there.at;
              corresponds = record { windows = sym there.starts.reached; ops = λ w. absurd (elsewhere w) };
            }

        go : Dec (now < windows_total plan) → Dec (Named (window_owner plan now)) → HasCorresponding Named one count other
        go (yes room) (yes owner) =
            let here : windows_after one (b.at + b.more) ≡ now = ap (windows_after one) (sym b.point) in
            let last = lasts_there room owner b.at b.starts (omega (arith, b.point)) b.more here in
            record {
              at = there.at + b.more;
              corresponds =
                  record {
                    windows = sym last;
                    ops = λ w.
                        ap (ops_of one now) b.point
                        ∙ ops_so_far_lem one possible now b.at b.starts room b.more here
                        ∙ sym (ops_so_far_lem other possible now there.at there.starts room b.more last);
                  };
            }
        go (yes room) (no unnamed) = at_start (λ w. unnamed w.owner)
        go (no over) d = at_start (λ w. over w.not_ended)

  -- ---- corresponding points

  module _ (count count' : ℕ) (points : Correspond Named one count other count') (boxes : BoxesAgree Named one count other count') where
    m : Matches input scripts log count
    m = matches_one count

    m' : Matches input scripts' log' count'
    m' = matches_other count count' (omega (arith, points.windows)) boxes

    -- a completed window of a named domain held as many ops: it ended where the computed one did
    as_many : (window next next' : ℕ) → Named (window_owner plan window) → (p : Completed one window next) → next ≤ count
        → (p' : Completed other window next') → next' ≤ count' → p.more ≡ p'.more
    as_many window next next' owner p so_far p' so_far' = go (dec_lt p.more p'.more) (dec_lt p'.more p.more)
      where
        at_one : (more : ℕ) → windows_after one (p.at + more) ≡ window
            → windows_after one (suc (p.at + more)) ≡ (solo_step input (wait_steps input more (solo_first input window))).state.windows
        at_one more =
            next_is input scripts log count possible m window p.at more p.room (in_set_lem _ owner) p.starts
            (omega (arith, p.follows))

        at_other : (more : ℕ) → windows_after other (p'.at + more) ≡ window
            → windows_after other (suc (p'.at + more)) ≡ (solo_step input (wait_steps input more (solo_first input window))).state.windows
        at_other more =
            next_is input scripts' log' count' possible m' window p'.at more p'.room (in_set_lem _ owner) p'.starts
            (omega (arith, p'.follows))

        -- a run that is further on in a window was in it before
        inside : (run : FreshRun) → plan_valid run.plan ≡ true → (at less more : ℕ) → windows_after run at ≡ window
            → windows_after run (at + more) ≡ window → less ≤ more → windows_after run (at + less) ≡ window
        inside run valid at less more from to h =
            omega (
              arith,
              no_fewer run valid at (at + less) (omega arith),
              no_fewer run valid (at + less) (at + more) (omega arith),
            )

        go : Dec (p.more < p'.more) → Dec (p'.more < p.more) → p.more ≡ p'.more
        go (yes h) d =
            let here = inside other possible p'.at p.more p'.more p'.starts.reached p'.within (omega arith) in
            let next_here = inside other possible p'.at (suc p.more) p'.more p'.starts.reached p'.within h in
            absurd (omega (arith, at_one p.more p.within, p.past, at_other p.more here, rw add-suc at next_here))
        go (no h) (yes h') =
            let here = inside one possible p.at p'.more p.more p.starts.reached p.within (omega arith) in
            let next_here = inside one possible p.at (suc p'.more) p.more p.starts.reached p.within h' in
            absurd (omega (arith, at_other p'.more p'.within, p'.past, at_one p'.more here, rw add-suc at next_here))
        go (no h) (no h') = omega arith

    same_ops : (window : ℕ) → window < windows_after one count → Named (window_owner plan window)
        → ops_of one window count ≡ ops_of other window count'
    same_ops window past owner =
        let b = began one possible count (started one possible count) (suc window) count (omega arith) past in
        let b' = began other possible count' (started other possible count') (suc window) count' (omega arith) (omega (arith, points.windows)) in
        let p = completed one possible count (started one possible count) window b.at (omega (arith, b.point)) b.starts in
        let p' = completed other possible count' (started other possible count') window b'.at (omega (arith, b'.point)) b'.starts in
        ops_in_all one possible window p.at p.starts p.room p.more count p.within p.past (omega (arith, p.follows, b.point))
        ∙ as_many window b.at b'.at owner p (omega (arith, b.point)) p' (omega (arith, b'.point))
        ∙ sym
        (ops_in_all other possible window p'.at p'.starts p'.room p'.more count' p'.within p'.past
        (omega (arith, p'.follows, b'.point)))

    -- the computed world is the same for both points
    same_solo : solo_here input scripts log count ≡ solo_here input scripts' log' count'
    same_solo =
        go (dec_lt (windows_after one count) (windows_total plan)) (shared.is_named (window_owner plan (windows_after one count)))
        ∙ ap (λ (window : ℕ). solo_at input window (ops_of other window count')) points.windows
      where
        go : Dec (windows_after one count < windows_total plan) → Dec (Named (window_owner plan (windows_after one count)))
            → solo_at input (windows_after one count) (ops_of one (windows_after one count) count)
            ≡ solo_at input (windows_after one count) (ops_of other (windows_after one count) count')
        go (yes room) (yes owner) = ap (solo_at input (windows_after one count)) (points.ops (record { not_ended = room; owner = owner }))
        go (yes room) (no unnamed) = idle_same input (windows_after one count) _ _ (λ n. unnamed (named _ n))
        go (no over) d =
            ap (solo_at input (windows_after one count))
            (none_past input scripts log count possible m _ (omega arith) count
            ∙ sym (none_past input scripts' log' count' possible m' _ (omega arith) count'))

    agree : AgreesWithSolo input scripts log count
    agree = agrees_with_solo input scripts log count possible m

    agree' : AgreesWithSolo input scripts' log' count'
    agree' = agrees_with_solo input scripts' log' count' possible m'

    -- in a window of a named domain
    in_window : InWindowOf Named one count
        → SameInWindow input (world_after one count) (solo_here input scripts log count)
    in_window w = agree.in_a_window (record { not_ended = w.not_ended; owner = in_set_lem _ w.owner })

    in_window' : InWindowOf Named one count
        → SameInWindow input (world_after other count') (solo_here input scripts log count)
    in_window' w =
        subst (SameInWindow input (world_after other count')) (sym same_solo)
        (agree'.in_a_window
        (record {
          not_ended = rw (← points.windows) w.not_ended;
          owner = rw (← points.windows) (in_set_lem _ w.owner);
        }))

    module _ (observer : ℕ) (is-named : Named observer) where
      seen : SameToMember input observer (world_after one count) (solo_here input scripts log count)
      seen = agree.members observer (in_set_lem observer is-named)

      seen' : SameToMember input observer (world_after other count') (solo_here input scripts log count)
      seen' =
          subst (SameToMember input observer (world_after other count')) (sym same_solo)
          (agree'.members observer (in_set_lem observer is-named))

      own_window : InWindowOf (Only observer) one count → InWindowOf Named one count
      own_window w = record { not_ended = w.not_ended; owner = subst Named (sym w.owner) is-named }

      one_plan : Same observer one count other count'
      one_plan =
          record {
            records = seen.records ∙ sym seen'.records;
            log = seen.log ∙ sym seen'.log;
            position = seen.position ∙ sym seen'.position;
            sets = λ set way in_table in_set owns.
                seen.sets set way in_table in_set owns ∙ sym (seen'.sets set way in_table in_set owns);
            ops = λ window past owner. same_ops window past (subst Named (sym owner) is-named);
            clock = λ w. (in_window (own_window w)).clock ∙ sym (in_window' (own_window w)).clock;
            l1 = λ w index below. (in_window (own_window w)).l1 index below ∙ sym ((in_window' (own_window w)).l1 index below);
            kernel_sets = λ w set way in_table in_set colour.
                (in_window (own_window w)).kernel_sets set way in_table in_set colour
                ∙ sym ((in_window' (own_window w)).kernel_sets set way in_table in_set colour);
            ended_clock = λ over.
                ended_clock_lem one possible count over
                ∙ ap (window_start plan) points.windows
                ∙ sym (ended_clock_lem other possible count' (rw (← points.windows) over));
          }

    same_for : SameFor Named one count other count'
    same_for =
        record {
          each = one_plan;
          boxes = λ w sender recipient known n.
              (in_window w).boxes sender recipient known (in_set_lem recipient n)
              ∙ sym ((in_window' w).boxes sender recipient known (in_set_lem recipient n));
        }

-- ---- runs of plans that are the same to the named domains

pub two_runs : {Named : ℕ → Type 0} (one : FreshRun) (count : ℕ) (other : FreshRun) (count' : ℕ)
    → SamePlan Named one.plan other.plan
    → Shared Named one other
    → Correspond Named one count other count'
    → BoxesAgree Named one count other count'
    → SameFor Named one count other count'
two_runs {Named} one count other count' plans =
    subst
    (λ (plan : Plan).
    Shared Named one (run_by plan other.scripts other.log)
    → Correspond Named one count (run_by plan other.scripts other.log) count'
    → BoxesAgree Named one count (run_by plan other.scripts other.log) count'
    → SameFor Named one count (run_by plan other.scripts other.log) count')
    plans
    (λ shared. same_for one.plan one.scripts other.scripts one.log other.log shared count count')

pub corresponding : {Named : ℕ → Type 0} (one : FreshRun) (count : ℕ) (other : FreshRun)
    → SamePlan Named one.plan other.plan
    → Shared Named one other
    → ((at : ℕ) → BoxesAgree Named one count other at)
    → HasCorresponding Named one count other
corresponding {Named} one count other plans =
    subst
    (λ (plan : Plan).
    Shared Named one (run_by plan other.scripts other.log)
    → ((at : ℕ) → BoxesAgree Named one count (run_by plan other.scripts other.log) at)
    → HasCorresponding Named one count (run_by plan other.scripts other.log))
    plans
    (λ shared. corresponding_one one.plan one.scripts other.scripts one.log other.log shared count)
