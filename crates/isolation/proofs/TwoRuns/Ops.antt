-- What an op does in two worlds, and in one. Where the tables agree at the indices that the running domain may touch,
-- and the boxes at those that it may receive from, an op takes as long, shows the same and leaves tables and boxes that
-- agree; and it touches no other index. Assumes nothing.
use Prim.Native.Nat.{ℕ, ◌+◌, ◌<◌}
use mathlib.Core.Bool.{Bool, true, false}
use mathlib.Core.List.{List}
use mathlib.Core.Path.{◌≡◌, refl, ap, ap₂, ◌∙◌}
use native.Mathlib.Omega.{arith}
use lib.ListN.{length}
use Rattle.lists.proofs.Agree.{Agree, agree_fewer, agree_refl, agree_trans, set_alike}
use Rattle.plan.specs.declared.Plan.{Plan}
use Rattle.plan.specs.Limits.{most_domains}
use Rattle.plan.specs.Rights.{may_send}
use Rattle.script.specs.declared.Op.{Op}
use Rattle.script.specs.declared.Op.TheVariants.{Read, Write, Send, Receive, Compute}
use Rattle.script.specs.Limits.{OpWithinLimits}
use Rattle.cache.specs.declared.AccessKind.{AccessKind}
use Rattle.cache.specs.Access.{access_of}
use Rattle.cache.specs.Lines.{table_length}
use Rattle.cache.proofs.Laws.{access_length}
use Rattle.records.specs.declared.Observation.{Observation}
use Rattle.ops.specs.Ops.{Effect, access_observation, box_index, box_line, box_observation, compute_of, effect_by, effect_of}
use Rattle.ops.specs.Ops.{full_box, kernel_entry_line, message_by, message_of, message_ticks, owns_line, receive_by, touch_by, touch_of}
use Rattle.isolation.proofs.TwoRuns.Access.{AccessAlike, access_alike, access_away}
use Rattle.isolation.proofs.TwoRuns.Indices.{DirtyAllowed, WorkIndex, accessed_line, box_line_lem, entry_allowed, entry_line_lem}
use Rattle.isolation.proofs.TwoRuns.Indices.{own_line}

module _ (plan : Plan) (domain : ℕ) where
  -- ---- in two worlds

  pub record EffectAlike (Kept : ℕ → Type 0) (one other : Effect) : Type 0 where
    pub ticks : one.ticks ≡ other.ticks
    pub seen : one.seen ≡ other.seen
    pub first : one.first ≡ other.first
    pub second : one.second ≡ other.second
    pub cache : Agree (WorkIndex plan domain) one.cache other.cache
    pub boxes : Agree Kept one.boxes other.boxes

  module _ {one other : List ℕ} (whole : length one ≡ table_length) (dirty : DirtyAllowed plan domain one)
      (tables : Agree (WorkIndex plan domain) one other) where
    entry_alike :
        AccessAlike (WorkIndex plan domain) (access_of false kernel_entry_line one) (access_of false kernel_entry_line other)
    entry_alike =
        access_alike false kernel_entry_line (accessed_line plan domain kernel_entry_line one dirty (entry_line_lem plan domain)) whole tables

    module _ {Kept : ℕ → Type 0} where
      touch_alike : (writes : Bool) (line : ℕ) {boxes boxes' : List ℕ} → Agree Kept boxes boxes'
          → EffectAlike Kept (touch_of plan domain writes line one boxes) (touch_of plan domain writes line other boxes')
      unfolding touch_by
      touch_alike writes line {boxes} {boxes'} kept = go (owns_line plan domain line) refl
        where
          go : (owns : Bool) → owns_line plan domain line ≡ owns
              → EffectAlike Kept (touch_of plan domain writes line one boxes)
              (touch_of plan domain writes line other boxes')
          go true e =
              let access =
              access_alike writes line
              (accessed_line plan domain line one dirty (λ index. own_line plan domain line index e)) whole tables
              in
              rw e
              (record {
                ticks = access.ticks;
                seen = ap (λ (found : AccessKind). access_observation found line) access.found;
                first = access.back;
                second = refl;
                cache = access.table;
                boxes = kept;
              })
          go false e =
              rw e (record { ticks = refl; seen = refl; first = refl; second = refl; cache = tables; boxes = kept })

      message_alike :
          (sender recipient : ℕ) (denied : Observation) {passed passed' : Observation} (number : ℕ)
          {boxes boxes' : List ℕ}
          → passed ≡ passed' → Agree Kept boxes boxes'
          → EffectAlike Kept (message_of plan sender recipient denied passed number one boxes)
          (message_of plan sender recipient denied passed' number other boxes')
      unfolding message_by
      message_alike sender recipient denied {passed} {passed'} number {boxes} {boxes'} shown kept =
          go (may_send plan sender recipient) refl
        where
          go : (may : Bool) → may_send plan sender recipient ≡ may
              → EffectAlike Kept (message_of plan sender recipient denied passed number one boxes)
              (message_of plan sender recipient denied passed' number other boxes')
          go true e =
              let access =
              access_alike true (box_line sender recipient)
              (accessed_line plan domain (box_line sender recipient) _ (entry_allowed plan domain one whole dirty)
              (box_line_lem plan domain sender recipient))
              (access_length false kernel_entry_line one ∙ whole) entry_alike.table
              in
              rw e
              (record {
                ticks = ap₂ (λ (n m : ℕ). message_ticks + n + m) entry_alike.ticks access.ticks;
                seen = shown;
                first = entry_alike.back;
                second = access.back;
                cache = access.table;
                boxes = set_alike (box_index sender recipient) number (agree_fewer (λ index p. p.0) kept);
              })
          go false e =
              rw e
              (record {
                ticks = ap (λ (n : ℕ). message_ticks + n) entry_alike.ticks;
                seen = refl;
                first = entry_alike.back;
                second = refl;
                cache = entry_alike.table;
                boxes = kept;
              })

      pub effect_alike : (op : Op) {boxes boxes' : List ℕ} → OpWithinLimits op
          → ((sender : ℕ) → sender < most_domains → Kept (box_index sender domain))
          → Agree Kept boxes boxes'
          → EffectAlike Kept (effect_of plan domain op one boxes) (effect_of plan domain op other boxes')
      unfolding effect_by receive_by compute_of OpWithinLimits
      effect_alike (Read line) good to kept = touch_alike false line kept
      effect_alike (Write line) good to kept = touch_alike true line kept
      effect_alike (Send recipient word) good to kept = message_alike domain recipient _ (full_box word) refl kept
      effect_alike (Receive sender) good to kept =
          message_alike sender domain _ 0 (ap (box_observation sender) (kept.at _ (to sender (omega arith)))) kept
      effect_alike (Compute ticks) good to kept =
          record { ticks = refl; seen = refl; first = refl; second = refl; cache = tables; boxes = kept }

  -- ---- in one: the indices that the op does not touch

  module _ {Named : ℕ → Type 0} (table : List ℕ) (whole : length table ≡ table_length) (dirty : DirtyAllowed plan domain table)
      (untouched : (index : ℕ) → Named index → WorkIndex plan domain index → ⊥) where
    touch_away : (writes : Bool) (line : ℕ) (boxes : List ℕ)
        → Agree Named table (touch_of plan domain writes line table boxes).cache
    unfolding touch_by
    touch_away writes line boxes = go (owns_line plan domain line) refl
      where
        go : (owns : Bool) → owns_line plan domain line ≡ owns
            → Agree Named table (touch_of plan domain writes line table boxes).cache
        go true e =
            rw e
            (access_away writes line table whole
            (λ index h p.
            untouched index p (accessed_line plan domain line table dirty (λ i. own_line plan domain line i e) index h)))
        go false e = rw e (agree_refl Named table)

    entry_away : Agree Named table (access_of false kernel_entry_line table).table
    entry_away =
        access_away false kernel_entry_line table whole
        (λ index h p. untouched index p (accessed_line plan domain kernel_entry_line table dirty (entry_line_lem plan domain) index h))

    -- whatever the rights say
    message_away : (sender recipient : ℕ) (denied passed : Observation) (number : ℕ) (boxes : List ℕ)
        → Agree Named table (message_of plan sender recipient denied passed number table boxes).cache
    unfolding message_by
    message_away sender recipient denied passed number boxes = go (may_send plan sender recipient) refl
      where
        go : (may : Bool) → may_send plan sender recipient ≡ may
            → Agree Named table (message_of plan sender recipient denied passed number table boxes).cache
        go true e =
            rw e
            (agree_trans entry_away
            (access_away true (box_line sender recipient) _ (access_length false kernel_entry_line table ∙ whole)
            (λ index h p.
            untouched index p
            (accessed_line plan domain (box_line sender recipient) _ (entry_allowed plan domain table whole dirty)
            (box_line_lem plan domain sender recipient) index h))))
        go false e = rw e entry_away

    pub effect_away : (op : Op) (boxes : List ℕ) → Agree Named table (effect_of plan domain op table boxes).cache
    unfolding effect_by receive_by compute_of
    effect_away (Read line) boxes = touch_away false line boxes
    effect_away (Write line) boxes = touch_away true line boxes
    effect_away (Send recipient word) boxes = message_away domain recipient _ _ _ boxes
    effect_away (Receive sender) boxes = message_away sender domain _ _ _ boxes
    effect_away (Compute ticks) boxes = agree_refl Named table
