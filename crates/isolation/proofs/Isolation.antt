-- Demand 3, proved: what is said of one list of calls is put together, and (B) is brought from two runs of the machine
-- to the two lists that they are the runs of. Assumes nothing.
use Rattle.std.specs.Prelude.{Ok}
use Prim.Native.Nat.{ℕ, ◌≤◌, ◌<◌}
use mathlib.Core.List.{List}
use mathlib.Core.Path.{◌≡◌, refl, sym, ap, subst, subst₂, ◌∙◌}
use native.Mathlib.Decide.{ℕ_discrete}
use lib.ListN.{length}
use Rattle.plan.specs.declared.Plan.{Plan}
use Rattle.plan.specs.Validity.{plan_valid}
use Rattle.plan.specs.Windows.{windows_total}
use Rattle.records.specs.Records.{log_part, part_records}
use Rattle.state.specs.declared.State.{State}
use Rattle.state.specs.World.{World, position_at, records_at}
use Rattle.reachable.proofs.Reached.{log_length_lem}
use Rattle.engine.specs.LogQuery.{log_query_of, log_from, log_status_of}
use Rattle.machine.specs.Fresh.{fresh_world}
use Rattle.isolation.specs.Calls.{CallList, IsList, leaves_of, point_of}
use Rattle.isolation.specs.Points.{SameBoxesTo, ops_of_domain, world_after}
use Rattle.isolation.specs.Solo.{SoloAgreement}
use Rattle.isolation.specs.Statement.{BoxesAgree, Comparable, ComparableFor, EndsInWindowOf, HasCorresponding, InCommon}
use Rattle.isolation.specs.Statement.{Isolation, Only, SameKernelSets, SameL1, SameSeen, SameSeenBy, SameSets, run_of_list}
use Rattle.isolation.proofs.OneRun.{every_start, queried, leaves, on_time_lem, own_accepted, own_refused, refused_stays, split}
use Rattle.isolation.proofs.OneRun.Leaves.{list_valid}
use Rattle.isolation.proofs.TwoRuns.Positions.{position_is_ops}
use Rattle.isolation.proofs.TwoRuns.Solo.{agrees_with_solo}
use Rattle.isolation.proofs.TwoRuns.{Same, SameFor, Shared, corresponding, two_runs}
use Rattle.refusal.specs.Verdict.{Verdict}

-- what a log query that is not refused hands back
handed_back_lem : (plan : Plan) (state : State) (log : List ℕ) (domain : ℕ) → log_status_of plan state log domain ≡ Ok tt
    → log_query_of plan state log domain ≡ log_part (part_records plan (length log)) domain (records_at state domain) log
unfolding log_query_of log_status_of
handed_back_lem plan state log domain accepted = ap (λ (verdict : Verdict). log_from verdict plan state log domain) accepted

-- after a list: the records so far in the world that its steps leave
pub log_after : (list : CallList) (is : IsList list) (domain : ℕ) → domain < list.plan.domains
    → log_query_of list.plan (leaves_of list).state (leaves_of list).log domain
    ≡ log_part (part_records list.plan (length list.log)) domain (records_at (world_after (run_of_list list) (point_of list)).state domain)
    (world_after (run_of_list list) (point_of list)).log
unfolding world_after fresh_world
log_after list is domain declared =
    let world = world_after (run_of_list list) (point_of list) in
    let long = log_length_lem list.plan list.scripts list.log (point_of list) (list_valid list is) in
    handed_back_lem list.plan (leaves_of list).state (leaves_of list).log domain (queried list is domain declared)
    ∙ ap (λ (w : World). log_part (part_records list.plan (length w.log)) domain (records_at w.state domain) w.log) (leaves list is)
    ∙ ap (λ (n : ℕ). log_part (part_records list.plan n) domain (records_at world.state domain) world.log) long

module _ (Named : ℕ → Type 0) (is_named : (domain : ℕ) → Dec (Named domain)) (one other : CallList) (is : IsList one)
    (is' : IsList other) (common : InCommon Named one other) where
  -- what their runs have in common
  shared : Shared Named (run_of_list one) (run_of_list other)
  shared =
      record {
        possible = list_valid one is;
        is_named = is_named;
        declared = common.declared;
        scripts = common.scripts;
        logs = common.logs;
      }

  point_there : ((at : ℕ) → BoxesAgree Named (run_of_list one) (point_of one) (run_of_list other) at)
      → HasCorresponding Named (run_of_list one) (point_of one) (run_of_list other)
  point_there = corresponding (run_of_list one) (point_of one) (run_of_list other) common.plans shared

  module _ (c : ComparableFor Named one other) where
    -- the worlds that the two lists leave
    world : World
    world = world_after (run_of_list one) (point_of one)

    world' : World
    world' = world_after (run_of_list other) (point_of other)

    same_for : SameFor Named (run_of_list one) (point_of one) (run_of_list other) (point_of other)
    same_for =
        two_runs (run_of_list one) (point_of one) (run_of_list other) (point_of other) common.plans shared c.points c.boxes

    -- a relation between the two worlds, of what the lists leave
    left : (Related : World → World → Type 0) → Related world world' → Related (leaves_of one) (leaves_of other)
    unfolding world world'
    left Related = subst₂ Related (sym (leaves one is)) (sym (leaves other is'))

    same_boxes : EndsInWindowOf Named one → SameBoxesTo Named (leaves_of one) (leaves_of other)
    unfolding world world'
    same_boxes within = left (SameBoxesTo Named) (same_for.boxes within)

    module _ (member : ℕ) (named : Named member) where
      same : Same member (run_of_list one) (point_of one) (run_of_list other) (point_of other)
      same = same_for.each member named

      declared : member < one.plan.domains
      declared = common.declared member named

      declared' : member < other.plan.domains
      declared' = subst (λ (plan : Plan). member < plan.domains) common.plans declared

      same_log : log_query_of one.plan (leaves_of one).state (leaves_of one).log member
          ≡ log_query_of other.plan (leaves_of other).state (leaves_of other).log member
      unfolding world'
      same_log =
          log_after one is member declared
          ∙ same.log
          ∙ (λ i.
          log_part (part_records (common.plans i) (common.logs i)) member (records_at world'.state member) world'.log)
          ∙ sym (log_after other is' member declared')

      seen : SameSeen member one other
      unfolding world world'
      seen =
          record {
            queried = queried one is member declared;
            queried' = queried other is' member declared';
            log = same_log;
            position = left (λ w w'. position_at w.state member ≡ position_at w'.state member) same.position;
            sets = left (λ w w'. SameSets one.plan member w.cache w'.cache) same.sets;
            ops = λ window past. same.ops window (subst (λ (w : World). window < w.state.windows) (leaves one is) past);
            clock = λ within. left (λ w w'. w.state.clock ≡ w'.state.clock) (same.clock within);
            l1 = λ within. left (λ w w'. SameL1 w.cache w'.cache) (same.l1 within);
            kernel_sets = λ within. left (λ w w'. SameKernelSets w.cache w'.cache) (same.kernel_sets within);
            boxes =
                λ within sender recipient known is_member.
                same_boxes (record { not_ended = within.not_ended; owner = subst Named (sym within.owner) named }) sender recipient known
                (subst Named (sym is_member) named);
            ended_clock =
                λ over.
                left (λ w w'. w.state.clock ≡ w'.state.clock)
                (same.ended_clock (subst (λ (w : World). windows_total one.plan ≤ w.state.windows) (leaves one is) over));
          }

    seen_by : SameSeenBy Named one other
    seen_by = record { each = seen; boxes = same_boxes }

-- (B) of any set of domains, and of the observer alone
together : (Named : ℕ → Type 0) → ((domain : ℕ) → Dec (Named domain)) → (one other : CallList) → IsList one
    → IsList other
    → ComparableFor Named one other → SameSeenBy Named one other
together Named is_named one other is is' c = seen_by Named is_named one other is is' c.common c

isolated : (observer : ℕ) (one other : CallList) → IsList one → IsList other → Comparable observer one other
    → SameSeen observer one other
isolated observer one other is is' c =
    (together (Only observer) (λ domain. ℕ_discrete domain observer) one other is is' c).each observer refl

-- a domain's position after a list
positions : (list : CallList) (is : IsList list) (domain : ℕ)
    → position_at (leaves_of list).state domain ≡ ops_of_domain (run_of_list list) domain (point_of list)
positions list is domain =
    ap (λ (w : World). position_at w.state domain) (leaves list is)
    ∙ position_is_ops (run_of_list list) (list_valid list is) domain (point_of list)

pub isolation : Isolation
isolation =
    record {
      on_time = on_time_lem;
      isolated = isolated;
      together = together;
      corresponding = point_there;
      lists =
          λ list is.
          record {
            leaves = leaves list is;
            accepted = own_accepted list is;
            refused = own_refused list is;
            unchanged = λ call. refused_stays list.plan list.scripts call (leaves_of list);
            split = split list is;
            starts = every_start (run_of_list list) (list_valid list is);
            positions = positions list is;
          };
    }

-- every list agrees with what was computed for a set of domains
pub solo_agreement : SoloAgreement
solo_agreement input list is plans m =
    agrees_with_solo input list.scripts list.log (point_of list) (ap plan_valid (sym plans) ∙ list_valid list is) m
