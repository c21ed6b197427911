-- What the code of a switch, an op and the choice of a step answers and leaves is the definition's. Assumes nothing.
use Rattle.std.specs.Prelude.{Option, Some, None}
use mathlib.Core.Path.{◌≡◌, refl, ap}
use mathlib.Core.Bool.{Bool, true, false, cond, ◌||◌}
use mathlib.Core.List.{List}
use Prim.Native.Nat.{ℕ, ◌+◌, ◌≤◌, ◌<◌, max}
use native.Mathlib.Omega.{arith}
use lib.Dec.{leb}
use borrow.Author.Tests.{le-leb, le-ltb, leb-false, leb-true, lt-leb}
use Rattle.plan.specs.declared.Plan.{Plan}
use Rattle.plan.specs.Limits.{dearest_op, most_flush_ticks, touch_ticks}
use Rattle.plan.specs.Windows.{window_end}
use Rattle.script.specs.declared.Op.{Op}
use Rattle.script.specs.declared.Op.TheVariants.{Compute, Read, Receive, Send, Write}
use Rattle.script.specs.Fetch.{fetch_of}
use Rattle.script.specs.Limits.{OpWithinLimits, most_ops}
use Rattle.cache.specs.Flush.{kernel_flush_ticks, kernel_flushed, l1_flush_ticks, l1_flushed}
use Rattle.cache.proofs.Ticks.{flush_ticks_lem}
use Rattle.cache.specs.Access.{access_of}
use Rattle.records.specs.Records.{stored_at}
use Rattle.ops.specs.declared.OpResult.{OpResult}
use Rattle.ops.specs.Ops.{Effect, effect_by, effect_of, kernel_entry_line, message_by, owns_line, receive_by, touch_by}
use Rattle.ops.specs.View.{effect_with, view_of}
use Rattle.ops.proofs.Ticks.{effect_ticks}
use Rattle.state.specs.declared.State.{State}
use Rattle.state.specs.World.{World}
use Rattle.machine.specs.declared.Turn.{Turn}
use Rattle.machine.specs.Steps.{is_end, next_item, next_step_of, op_step_by, switch_due}
use Rattle.machine.specs.Switch.{flushed_clock, is_last, padded_clock, settled_cache, switch_by, switch_of, switched_cache}
use Rattle.machine.specs.Switch.{switched_cache_by, touched_clock, touched_clock_by}
use Rattle.machine.specs.View.{OpRan, ops_allowed, turn_after, world_with}
use Rattle.machine.proofs.Switched.{touch_most}

-- ---- a switch

-- both flushes and the touch one after the other, with what each answers
module _ (cache flushed emptied touched : List ℕ) (kernel l1 touch : ℕ)
    (first : kernel ≡ kernel_flush_ticks cache) (between : flushed ≡ kernel_flushed cache)
    (second : l1 ≡ l1_flush_ticks flushed) (behind : emptied ≡ l1_flushed flushed)
    (third : touch ≡ (access_of false kernel_entry_line emptied).ticks)
    (last-of-all : touched ≡ (access_of false kernel_entry_line emptied).table) where
  pub flushes_most : kernel + l1 ≤ most_flush_ticks
  flushes_most = rw (first, second, between) (flush_ticks_lem cache)

  pub touches_most : touch ≤ touch_ticks
  touches_most = rw (third, behind, between) (touch_most cache)

  pub switch_clocks :
      (clock begun end pad answer : ℕ)
      → begun ≡ max clock end
      → answer ≡ max (begun + kernel + l1 + touch) (end + pad)
      → answer ≡ padded_clock end pad (touched_clock clock end cache)
  unfolding padded_clock touched_clock_by flushed_clock
  switch_clocks clock begun end pad answer raised so = rw (so, raised, third, first, second, behind, between) refl

  pub switch_leaves : (last : Bool) (left : List ℕ) → left ≡ settled_cache last touched → left ≡ switched_cache last cache
  unfolding switched_cache_by
  switch_leaves last left so = rw (so, last-of-all, behind, between) refl

-- a switch, with the clock that it answers
pub switch_stepped :
    (plan : Plan) (state : State) (cache boxes log : List ℕ) (end clock : ℕ) (last : Bool) (cache' : List ℕ)
    → window_end plan state.windows ≡ end
    → is_last plan state.windows ≡ last
    → clock ≡ padded_clock end plan.pad (touched_clock state.clock end cache)
    → cache' ≡ switched_cache last cache
    → world_with
    (record { windows = state.windows + 1; clock = clock; positions = state.positions; records = state.records })
    cache' boxes log
    ≡ switch_of plan (world_with state cache boxes log)
unfolding switch_by
switch_stepped plan state cache boxes log end clock last cache' ends lasts clocked left = rw (clocked, left, ← ends, ← lasts) refl

-- ---- the choice of a step

module _ (scripts : List ℕ) (turn : Turn) where
  -- the clock has reached the end
  pub next_late : turn.end ≤ turn.clock → None ≡ next_step_of scripts turn
  unfolding next_step_of switch_due
  next_late reached = rw (le-leb turn.end turn.clock reached) refl

  -- or the domain's log is full
  pub next_full : turn.quota ≤ turn.records → None ≡ next_step_of scripts turn
  unfolding next_step_of switch_due
  next_full full =
      rw (le-leb turn.quota turn.records full)
      (go (leb turn.end turn.clock) (next_item scripts turn))
    where
      go : (late : Bool) (item : Option Op) → None ≡ cond (late || is_end item || true) None item
      go true item = refl
      go false (Some op) = refl
      go false None = refl

  -- or its script has no position more
  next_past : most_ops ≤ turn.position → None ≡ next_step_of scripts turn
  unfolding next_step_of switch_due fetch_of
  next_past past = rw (le-ltb turn.position most_ops past)
      (go (leb turn.end turn.clock || true || leb turn.quota turn.records))
    where
      go : (due : Bool) → ◌≡◌ {A = Option Op} None (cond due None None)
      go true = refl
      go false = refl

  -- or none of these: what stands next in the script decides
  pub next_item_lem : (item : Option Op) → item ≡ next_item scripts turn
      → turn.clock < turn.end
      → turn.records < turn.quota
      → item ≡ next_step_of scripts turn
  unfolding next_step_of switch_due
  next_item_lem item is in_time room =
      rw (lt-leb turn.end turn.clock in_time, lt-leb turn.quota turn.records room, ← is)
      (go item)
    where
      go : (item : Option Op) → item ≡ cond (is_end item || false) None item
      go (Some op) = refl
      go None = refl

-- after as many ops as are allowed a switch is next, unless the limit is reached
pub next_disallowed :
    (scripts : List ℕ) (first : Turn) (limit most steps clock : ℕ)
    → most ≡ ops_allowed limit first
    → most ≤ steps
    → steps < limit
    → None ≡ next_step_of scripts (turn_after first steps clock)
next_disallowed scripts first limit most steps clock allowed all more =
    go (leb first.quota (first.records + steps)) refl
  where
    go : (full : Bool) → leb first.quota (first.records + steps) ≡ full
        → None ≡ next_step_of scripts (turn_after first steps clock)
    go true full = next_full scripts (turn_after first steps clock) (leb-true _ _ full)
    go false room =
        next_past scripts (turn_after first steps clock)
        (omega (arith, leb-false first.quota (first.records + steps) room))

-- ---- an op

-- an answer's ticks are those of the dearest op at most
pub operated_ticks :
    (plan : Plan) (domain : ℕ) (op : Op) (cache boxes : List ℕ) (done : OpResult) (cache' boxes' : List ℕ)
    → OpWithinLimits op
    → effect_with done cache' boxes' ≡ effect_of plan domain op cache boxes
    → done.ticks ≤ dearest_op
operated_ticks plan domain op cache boxes done cache' boxes' within did =
    let same : done.ticks ≡ (effect_of plan domain op cache boxes).ticks = ap (λ (e : Effect). e.ticks) did in
    rw same (effect_ticks plan domain op cache boxes within)

-- one op, with its record stored
pub op_ran :
    (place : Option ℕ) (plan : Plan) (op : Op) (turn : Turn) (cache boxes log : List ℕ) (done : OpResult) (cache' boxes' log' : List ℕ)
    → OpWithinLimits op
    → effect_with done cache' boxes' ≡ effect_of plan turn.owner op cache boxes
    → log' ≡ stored_at place turn.records done.seen (turn.clock + done.ticks) log
    → OpRan place plan op turn (turn.clock + done.ticks) cache boxes log cache' boxes' log'
unfolding op_step_by
op_ran place plan op turn cache boxes log done cache' boxes' log' within did kept =
    record {
      ticks = omega (arith, operated_ticks plan turn.owner op cache boxes done cache' boxes' within did);
      world = λ state stands. rw (← did, kept, stands.windows_is, stands.clock_is, stands.position_is, stands.records_is) refl;
    }

-- an op looks at nothing of a plan but its recipients and masks
effect_view :
    (plan : Plan) (domain : ℕ) (op : Op) (cache boxes : List ℕ)
    → effect_of (view_of plan.rights plan.masks) domain op cache boxes ≡ effect_of plan domain op cache boxes
unfolding effect_by message_by touch_by receive_by owns_line
effect_view plan domain (Read line) cache boxes = refl
effect_view plan domain (Write line) cache boxes = refl
effect_view plan domain (Send recipient word) cache boxes = refl
effect_view plan domain (Receive sender) cache boxes = refl
effect_view plan domain (Compute ticks) cache boxes = refl

pub op_step_view :
    (place : Option ℕ) (plan : Plan) (domain : ℕ) (op : Op) (world : World)
    → op_step_by access_of place (view_of plan.rights plan.masks) domain op world ≡ op_step_by access_of place plan domain op world
unfolding op_step_by
op_step_view place plan domain op world = rw effect_view refl
