-- One op, and one switch. A domain's own op keeps two worlds the same for it inside its window; another domain's op,
-- and any switch, keep what it has outside its windows. Assumes nothing.
use Prim.Native.Nat.{ℕ, ◌+◌, ◌<◌}
use mathlib.Core.Bool.{true}
use mathlib.Core.List.{List}
use mathlib.Core.Path.{◌≡◌, refl, sym, ap₂, subst, ◌∙◌}
use native.Mathlib.Omega.{arith}
use lib.ListN.{get_or, length, set}
use Rattle.lists.proofs.Agree.{Agree, agree_fewer, agree_refl, set_alike, set_away}
use Rattle.plan.specs.declared.Plan.{Plan}
use Rattle.plan.specs.Limits.{most_domains}
use Rattle.plan.specs.Validity.{plan_valid}
use Rattle.script.specs.declared.Op.{Op}
use Rattle.script.specs.Limits.{OpWithinLimits}
use Rattle.plan.specs.Windows.{window_owner}
use Rattle.cache.specs.Access.{dirty_line}
use Rattle.cache.specs.Lines.{is_dirty, table_length}
use Rattle.ops.specs.Ops.{box_index}
use Rattle.state.specs.TableValidity.{line_allowed}
use Rattle.state.specs.World.{World, records_at, running_of}
use Rattle.machine.specs.Steps.{op_step_by, op_step_of}
use Rattle.machine.specs.Switch.{is_last, switch_by, switch_of}
use Rattle.isolation.specs.Statement.{Only}
use Rattle.isolation.proofs.TwoRuns.Log.{raised, stored_alike, stored_away}
use Rattle.isolation.proofs.TwoRuns.Ops.{effect_alike, effect_away}
use Rattle.isolation.proofs.TwoRuns.Indices.{DirtyAllowed, FlushedIndex, OwnIndex, WorkIndex, flushed, l1, own, own_between}
use Rattle.isolation.proofs.TwoRuns.Indices.{own_untouched}
use Rattle.isolation.proofs.TwoRuns.Relations.{Alike, Close, same_records}
use Rattle.isolation.proofs.TwoRuns.Switch.{switched_alike, switched_away}

-- the cache table has all its numbers
abbrev pub Whole : World → Type 0
Whole world = length world.cache ≡ table_length

-- and an op may begin on it: of L1's dirty lines none is a rival's of the running domain
pub record Ready (plan : Plan) (world : World) : Type 0 where
  pub whole : Whole world
  pub dirty : DirtyAllowed plan (running_of plan world.state) world.cache

-- a table that has the same L1 and as many numbers, in the same window
pub ready_alike : (plan : Plan) {one other : World} → one.state.windows ≡ other.state.windows
    → Agree FlushedIndex one.cache other.cache
    → Ready plan one
    → Ready plan other
ready_alike plan {one} {other} windows same ready =
    record {
      whole = sym same.len ∙ ready.whole;
      dirty = λ index below.
          subst (λ number. is_dirty number ≡ true → line_allowed plan (window_owner plan other.state.windows) (dirty_line number) ≡ true)
          (same.at index (l1 (record { from = omega arith; below = omega arith })))
          (subst (λ window.
          is_dirty (get_or one.cache index 0) ≡ true
          → line_allowed plan (window_owner plan window) (dirty_line (get_or one.cache index 0)) ≡ true)
          windows (ready.dirty index below));
    }

-- tables that agree at a domain's own indices and at those that a switch empties agree wherever its ops touch
pub both_indices : (plan : Plan) (domain : ℕ) {one other : List ℕ} → Agree (OwnIndex plan domain) one other
    → Agree FlushedIndex one other
    → Agree (WorkIndex plan domain) one other
both_indices plan domain {one} {other} a b = record { len = a.len; at = go }
  where
    go : (index : ℕ) → WorkIndex plan domain index → get_or one index 0 ≡ get_or other index 0
    go index (own p) = a.at index p
    go index (flushed p) = b.at index p

-- a domain's number raised by one in two lists
raise_alike : (domain : ℕ) {one other : List ℕ} → Agree (Only domain) one other
    → Agree (Only domain) (set one domain (get_or one domain 0 + 1)) (set other domain (get_or other domain 0 + 1))
raise_alike domain {one} {other} a =
    rw (← (a.at domain refl)) (set_alike domain (get_or one domain 0 + 1) (agree_fewer (λ index p. p.0) a))

module _ (plan : Plan) (quota domain : ℕ) where
  -- ---- its own op

  module _ {Kept : ℕ → Type 0} (to : (sender : ℕ) → sender < most_domains → Kept (box_index sender domain)) where
    pub op_alike : {one other : World} (op : Op) → OpWithinLimits op → Whole one → DirtyAllowed plan domain one.cache
        → Close plan quota domain Kept one other
        → Close plan quota domain Kept (op_step_of plan quota domain op one) (op_step_of plan quota domain op other)
    unfolding op_step_by
    op_alike {one} {other} op good whole dirty a =
        let effect =
        effect_alike plan domain whole dirty (both_indices plan domain a.outside.sets a.flushed) op good to
        a.boxes in
        let clock = ap₂ (λ (n m : ℕ). n + m) a.clock effect.ticks in
        record {
          outside =
              record {
                positions = raise_alike domain a.outside.positions;
                records = raise_alike domain a.outside.records;
                sets = agree_fewer (λ index p. own p) effect.cache;
                log =
                    rw (← (same_records plan quota domain a.outside), ← clock, ← effect.seen)
                    (stored_alike quota domain _ _ _ _ (raised one.state.records domain) a.outside.log);
              };
          windows = a.windows;
          clock = clock;
          flushed = agree_fewer (λ index p. flushed p) effect.cache;
          boxes = effect.boxes;
        }

  -- ---- another's op

  module _ (possible : plan_valid plan ≡ true) (declared : domain < plan.domains) where
    pub op_away : (running : ℕ) (op : Op) (world : World) → running < plan.domains → (domain ≡ running → ⊥)
        → Whole world
        → DirtyAllowed plan running world.cache
        → records_at world.state running < quota
        → Alike plan quota domain world (op_step_of plan quota running op world)
    unfolding op_step_by
    op_away running op world there other whole dirty room =
        record {
          positions = set_away _ running _ (λ e. other (sym e));
          records = set_away _ running _ (λ e. other (sym e));
          sets =
              effect_away plan running world.cache whole dirty
              (λ index. own_untouched plan possible domain index declared running there other) op world.boxes;
          log = stored_away quota domain _ running _ _ _ world.log room other;
        }

    -- ---- a switch

    pub switch_away : (world : World) → Whole world → Alike plan quota domain world (switch_of plan world)
    unfolding switch_by
    switch_away world whole =
        record {
          positions = agree_refl _ _;
          records = agree_refl _ _;
          sets =
              switched_away (is_last plan world.state.windows) world.cache whole
              (λ index. own_between plan possible domain index declared);
          log = agree_refl _ _;
        }

-- two worlds of one window
pub switch_flushed : (plan : Plan) (one other : World) → one.state.windows ≡ other.state.windows → Whole one → Whole other
    → Agree FlushedIndex (switch_of plan one).cache (switch_of plan other).cache
unfolding switch_by
switch_flushed plan one other windows whole whole' =
    rw windows (switched_alike (is_last plan other.state.windows) one.cache other.cache whole whole')
