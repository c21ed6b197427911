-- The guarantee of a single step, on any lent world: from what the statement says of two worlds to what the laws of one op
-- and one step ask, and back. Assumes nothing.
use Prim.Native.Nat.{ℕ, ◌+◌, ◌-◌, ◌/◌, ◌%◌, ◌<◌}
use mathlib.Core.Bool.{true}
use mathlib.Core.List.{List}
use mathlib.Core.Path.{◌≡◌, refl, sym, ◌∙◌}
use native.Mathlib.Omega.{arith}
use lib.ListN.{get_or, length}
use Rattle.lists.proofs.Agree.{Agree}
use Rattle.plan.specs.declared.Plan.{Plan}
use Rattle.plan.specs.Limits.{most_domains}
use Rattle.plan.specs.Validity.{plan_valid}
use Rattle.plan.proofs.Masks.{owned_below}
use Rattle.plan.proofs.Windows.{owner_declared}
use Rattle.cache.specs.Lines.{l1_length, set_index, ways_per_set}
use Rattle.ops.specs.Ops.{box_index}
use Rattle.state.specs.World.{World, running_of}
use Rattle.reachable.proofs.Lent.{sound_lent}
use Rattle.reachable.proofs.Lines.{dirty_line_lem}
use Rattle.isolation.specs.Lent.{LentWorld, OpsAlike, RivalsKept, SameInside, SameOutside}
use Rattle.isolation.specs.Statement.{Only, SameKernelSets, SameL1, SameSets}
use Rattle.isolation.proofs.TwoRuns.Indices.{FlushedIndex, OwnIndex, kernel, l1, own_set}
use Rattle.isolation.proofs.TwoRuns.Ops.{effect_alike}
use Rattle.isolation.proofs.TwoRuns.OpStep.{Ready, both_indices, op_alike}
use Rattle.isolation.proofs.TwoRuns.Relations.{Alike, Close}
use Rattle.isolation.proofs.TwoRuns.Step.{step_away}
use Rattle.isolation.proofs.TwoRuns.Windows.{BoxTo}

-- an op may begin on sound tables
ready_lent : (plan : Plan) (world : World) → LentWorld plan world → Ready plan world
ready_lent plan world lent =
    record {
      whole = lent.tables.cache_long;
      dirty = λ index below is.
          (dirty_line_lem plan world.state index _ ((sound_lent plan world lent.tables).cache.lines index below) is).allowed;
    }

-- ---- from the statement's words

own_agree : (plan : Plan) (domain : ℕ) (one other : List ℕ) → plan_valid plan ≡ true → domain < plan.domains
    → length one ≡ length other → SameSets plan domain one other → Agree (OwnIndex plan domain) one other
own_agree plan domain one other possible declared long same = record { len = long; at = go }
  where
    go : (index : ℕ) → OwnIndex plan domain index → get_or one index 0 ≡ get_or other index 0
    go index mine =
        let set = (index - l1_length) / ways_per_set in
        let way = (index - l1_length) % ways_per_set in
        let there : set_index set + way ≡ index = omega (arith, mine.in_l2) in
        let below = owned_below plan domain _ possible declared mine.owned in
        rw there at (same set way (omega arith) (omega arith) mine.owned)

flushed_agree : (one other : List ℕ) → length one ≡ length other → SameL1 one other → SameKernelSets one other
    → Agree FlushedIndex one other
flushed_agree one other long first kernels = record { len = long; at = go }
  where
    go : (index : ℕ) → FlushedIndex index → get_or one index 0 ≡ get_or other index 0
    go index (kernel h) =
        let set = (index - l1_length) / ways_per_set in
        let way = (index - l1_length) % ways_per_set in
        let there : set_index set + way ≡ index = omega (arith, h.from) in
        rw there at (kernels set way (omega (arith, h.below)) (omega arith) (omega (arith, h.from, h.below)))
    go index (l1 h) = first index (omega (arith, h.below))

module _ (plan : Plan) (quota domain : ℕ) (possible : plan_valid plan ≡ true) (declared : domain < plan.domains) where
  alike : (one other : World) → LentWorld plan one → LentWorld plan other → length one.log ≡ length other.log
      → SameOutside plan quota domain one other → Alike plan quota domain one other
  alike one other lent lent' logs same =
      record {
        positions = record { len = lent.positions ∙ sym lent'.positions; at = λ index is. rw is same.position };
        records = record { len = lent.records ∙ sym lent'.records; at = λ index is. rw is same.records };
        sets =
            own_agree plan domain one.cache other.cache possible declared
            (lent.tables.cache_long ∙ sym lent'.tables.cache_long) same.sets;
        log = record { len = logs; at = λ index h. same.log index h.from h.recorded h.in_part };
      }

  close : (one other : World) → LentWorld plan one → LentWorld plan other → length one.log ≡ length other.log
      → SameInside plan quota domain one other → Close plan quota domain (BoxTo (Only domain)) one other
  close one other lent lent' logs same =
      record {
        outside = alike one other lent lent' logs same.outside;
        windows = same.windows;
        clock = same.clock;
        flushed =
            flushed_agree one.cache other.cache (lent.tables.cache_long ∙ sym lent'.tables.cache_long)
            same.l1 same.kernel_sets;
        boxes =
            record {
              len = lent.tables.boxes_long ∙ sym lent'.tables.boxes_long;
              at = λ index to. rw (to.addressed, to.named) (same.boxes to.sender to.known);
            };
      }

  -- ---- and back

  own_sets : (one other : List ℕ) → Agree (OwnIndex plan domain) one other → SameSets plan domain one other
  own_sets one other a set way within less owns = a.at (set_index set + way) (own_set plan domain set way less owns)

  outside_of : (one other : World) → Alike plan quota domain one other → SameOutside plan quota domain one other
  outside_of one other a =
      record {
        position = a.positions.at domain refl;
        records = a.records.at domain refl;
        sets = own_sets one.cache other.cache a.sets;
        log = λ index from recorded in_part. a.log.at index (record { from = from; recorded = recorded; in_part = in_part });
      }

  inside_of : (one other : World) → Close plan quota domain (BoxTo (Only domain)) one other
      → SameInside plan quota domain one other
  inside_of one other a =
      record {
        outside = outside_of one other a.outside;
        windows = a.windows;
        clock = a.clock;
        l1 = λ index below. a.flushed.at index (l1 (record { from = omega arith; below = omega arith }));
        kernel_sets = λ set way within less is.
            a.flushed.at (set_index set + way) (kernel (record { from = omega arith; below = omega arith }));
        boxes = λ sender below.
            a.boxes.at _ (record { sender = sender; recipient = domain; known = below; named = refl; addressed = refl });
      }

-- ---- the two statements

pub rivals_kept : RivalsKept
rivals_kept plan scripts quota domain world possible declared lent other =
    outside_of plan quota domain possible declared world _
    (step_away plan scripts quota domain world possible declared other (ready_lent plan world lent))

pub ops_alike : OpsAlike
ops_alike plan quota op one other possible good lent lent' logs same =
    let domain = running_of plan one.state in
    let declared = owner_declared plan one.state.windows possible in
    let near = close plan quota domain possible declared one other lent lent' logs same in
    let ready = ready_lent plan one lent in
    let effect =
    effect_alike plan domain ready.whole ready.dirty (both_indices plan domain near.outside.sets near.flushed) op good
    (λ sender below. addressed domain sender below) near.boxes in
    record {
      ticks = effect.ticks;
      seen = effect.seen;
      first = effect.first;
      second = effect.second;
      left =
          inside_of plan quota domain possible declared _ _
          (op_alike plan quota domain (λ sender below. addressed domain sender below) op good ready.whole ready.dirty near);
    }
  where
    addressed : (domain sender : ℕ) → sender < most_domains → BoxTo (Only domain) (box_index sender domain)
    addressed domain sender below =
        record { sender = sender; recipient = domain; known = below; named = refl; addressed = refl }
