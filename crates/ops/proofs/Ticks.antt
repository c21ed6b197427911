-- How many ticks an op may take, an op that takes as many, and that every op takes one at least. Assumes nothing.
use Prim.Native.Nat.{ℕ, ◌≤◌}
use mathlib.Core.Bool.{Bool, true, false, cond}
use mathlib.Core.List.{List, [], ◌∷◌}
use mathlib.Core.Path.{◌≡◌, refl}
use native.Mathlib.Omega.{arith}
use lib.ListN.{replicate}
use Rattle.lists.specs.Part.{part, splice}
use Rattle.plan.specs.declared.Plan.{Plan}
use Rattle.plan.specs.Limits.{dearest_op}
use Rattle.plan.specs.Colours.{colours_of, first_colour, has_bit, mask_from, mask_of, shares_total}
use Rattle.plan.specs.Validity.{counts_valid, declared_valid, domain_valid, mask_valid, plan_valid, undeclared_valid}
use Rattle.plan.specs.Validity.{window_valid}
use Rattle.plan.specs.Rights.{may_send}
use Rattle.plan.specs.Sums.{all_below, sum_to}
use Rattle.plan.specs.Windows.{ticks_total}
use Rattle.script.specs.declared.Op.{Op}
use Rattle.script.specs.declared.Op.TheVariants.{Read, Write, Send, Receive, Compute}
use Rattle.script.specs.Limits.{OpWithinLimits}
use Rattle.cache.specs.Access.{access_of, lookup_at, lookup_l1, lookup_l2, lookup_of, seek_of, write_back_at, write_back_of}
use Rattle.cache.specs.Access.{written_back}
use Rattle.cache.specs.Lines.{table_length}
use Rattle.cache.specs.Sets.{has, move_to_front, without}
use Rattle.cache.proofs.Ticks.{access_takes, access_ticks}
use Rattle.records.specs.declared.Observation.{Observation}
use Rattle.ops.specs.Ops.{Effect, box_line, boxes_length, compute_of, effect_by, effect_of, kernel_entry_line, message_by}
use Rattle.ops.specs.Ops.{message_of, owns_line, receive_by, touch_by, touch_of}

-- a choice between two effects keeps what both keep
choice_ticks : (Keeps : ℕ → Type 0) (test : Bool) (one other : Effect) → Keeps one.ticks → Keeps other.ticks → Keeps (cond test one other).ticks
choice_ticks Keeps true one other left right = left
choice_ticks Keeps false one other left right = right

-- ---- no more than the dearest op

touch_ticks_lem : (plan : Plan) (domain : ℕ) (writes : Bool) (line : ℕ) (cache boxes : List ℕ)
    → (touch_of plan domain writes line cache boxes).ticks ≤ dearest_op
unfolding touch_by
touch_ticks_lem plan domain writes line cache boxes =
    choice_ticks (λ ticks. ticks ≤ dearest_op) (owns_line plan domain line) _ _ (omega (arith, access_ticks writes line cache)) (omega arith)

-- the entry line's access first, and for one that is allowed the box's access besides
message_ticks_lem : (plan : Plan) (sender recipient : ℕ) (denied passed : Observation) (number : ℕ) (cache boxes : List ℕ)
    → (message_of plan sender recipient denied passed number cache boxes).ticks ≤ dearest_op
unfolding message_by
message_ticks_lem plan sender recipient denied passed number cache boxes =
    let entry = access_ticks false kernel_entry_line cache in
    let box = access_ticks true (box_line sender recipient) (access_of false kernel_entry_line cache).table in
    choice_ticks (λ ticks. ticks ≤ dearest_op) (may_send plan sender recipient) _ _ (omega arith) (omega arith)

-- no op takes more
pub effect_ticks : (plan : Plan) (domain : ℕ) (op : Op) (cache boxes : List ℕ) → OpWithinLimits op
    → (effect_of plan domain op cache boxes).ticks ≤ dearest_op
unfolding effect_by receive_by compute_of OpWithinLimits
effect_ticks plan domain (Read line) cache boxes within = touch_ticks_lem plan domain false line cache boxes
effect_ticks plan domain (Write line) cache boxes within = touch_ticks_lem plan domain true line cache boxes
effect_ticks plan domain (Send recipient word) cache boxes within =
    message_ticks_lem plan domain recipient _ _ _ cache boxes
effect_ticks plan domain (Receive sender) cache boxes within = message_ticks_lem plan sender domain _ _ _ cache boxes
effect_ticks plan domain (Compute ticks) cache boxes within = omega arith

-- ---- a tick at least

touch_takes : (plan : Plan) (domain : ℕ) (writes : Bool) (line : ℕ) (cache boxes : List ℕ)
    → 1 ≤ (touch_of plan domain writes line cache boxes).ticks
unfolding touch_by
touch_takes plan domain writes line cache boxes =
    choice_ticks (λ ticks. 1 ≤ ticks) (owns_line plan domain line) _ _ (access_takes writes line cache) (omega arith)

message_takes : (plan : Plan) (sender recipient : ℕ) (denied passed : Observation) (number : ℕ) (cache boxes : List ℕ)
    → 1 ≤ (message_of plan sender recipient denied passed number cache boxes).ticks
unfolding message_by
message_takes plan sender recipient denied passed number cache boxes =
    choice_ticks (λ ticks. 1 ≤ ticks) (may_send plan sender recipient) _ _ (omega arith) (omega arith)

-- no op takes less
pub effect_takes : (plan : Plan) (domain : ℕ) (op : Op) (cache boxes : List ℕ) → OpWithinLimits op
    → 1 ≤ (effect_of plan domain op cache boxes).ticks
unfolding effect_by receive_by compute_of OpWithinLimits
effect_takes plan domain (Read line) cache boxes within = touch_takes plan domain false line cache boxes
effect_takes plan domain (Write line) cache boxes within = touch_takes plan domain true line cache boxes
effect_takes plan domain (Send recipient word) cache boxes within =
    message_takes plan domain recipient _ _ _ cache boxes
effect_takes plan domain (Receive sender) cache boxes within = message_takes plan sender domain _ _ _ cache boxes
effect_takes plan domain (Compute ticks) cache boxes within = within.0

-- ---- one that takes as many

-- a possible plan in which domain 0 has the colours 0 to 5 and may send to domain 1
abbrev pub dearest_plan : Plan
dearest_plan =
    record {
      pad = 376;
      run = 1;
      domains = 2;
      windows = 1;
      shares = 400 ∷ 300 ∷ replicate 6 0;
      rights = 2 ∷ replicate 7 0;
      owners = replicate 32 0;
      lengths = 1_000 ∷ replicate 31 0;
      masks = 63 ∷ 1_984 ∷ replicate 6 0;
    }

pub dearest_valid : plan_valid dearest_plan ≡ true
unfolding plan_valid counts_valid domain_valid declared_valid undeclared_valid mask_valid window_valid all_below shares_total sum_to ticks_total colours_of mask_of mask_from first_colour has_bit
dearest_valid = refl

-- domain 0 writes the lines 12 and 13, whose L1 indices are those of line 60 and of the box's line, and then sends
abbrev pub dearest_after : List Op → Effect → Effect
dearest_after [] effect = effect
dearest_after (op ∷ ops) effect = dearest_after ops (effect_of dearest_plan 0 op effect.cache effect.boxes)

abbrev pub dearest_send : Effect
dearest_send =
    dearest_after (Write 12 ∷ Write 13 ∷ Send 1 77 ∷ [])
    (compute_of 0 (replicate table_length 0) (replicate boxes_length 0))

-- both of the send's accesses miss and replace a dirty line
pub dearest_ticks : dearest_send.ticks ≡ dearest_op
unfolding compute_of effect_by touch_by owns_line message_by access_of seek_of write_back_at write_back_of written_back
    lookup_at lookup_of lookup_l1 lookup_l2 has move_to_front without part splice has_bit
dearest_ticks = refl
