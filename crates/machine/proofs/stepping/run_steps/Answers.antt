-- `machine::stepping::run_steps` meets its contract. The loop's invariant is `Going`. Assumes nothing.
use Rattle.std.specs.Prelude.{Option}
use mathlib.Core.List.{List, []}
use mathlib.Core.Bool.{true, ◌&&◌}
use mathlib.Core.Path.{◌≡◌, ◌∙◌, ap, refl, sym}
use Prim.Native.Nat.{ℕ, ◌+◌, ◌<◌}
use native.Mathlib.Omega.{arith}
use lib.Dec.{leb, ltb}
use lib.ListN.{length}
use borrow.Author.Rules.{rules}
use Rattle.plan.specs.declared.Plan.{Plan}
use Rattle.plan.specs.Limits.{most_domains}
use Rattle.plan.specs.Validity.{plan_valid}
use Rattle.plan.specs.Windows.{windows_total}
use Rattle.plan.proofs.ValidPlans.{counts}
use Rattle.records.specs.Records.{places_of}
use Rattle.records.proofs.Places.{ends_sooner}
use Rattle.state.specs.StateValidity.{state_valid}
use Rattle.state.specs.World.{World}
use Rattle.machine.specs.Switch.{is_last}
use Rattle.machine.specs.View.{InTurn, world_with}
use Rattle.machine.proofs.Going.{Going, Small, goes_on, going_clock, going_counts, going_done, going_first, small}
use Rattle.machine.proofs.Schedule.{valid_scheduled}
use Rattle.machine.proofs.WholeTurns.{Room, going_turn, turn_here, turn_room, turn_from}
use Rattle.machine.proofs.stepping.run_steps.Goals as goal

-- in the loop: the limit is not reached, and the run is in a window
module _
    {places : ℕ → Option ℕ} {plan : Plan} {scripts : List ℕ} {quota limit : ℕ} {first present : World} {steps start slot total : ℕ}
    (going : Going places plan scripts quota limit first present steps start slot)
    (possible : plan_valid plan ≡ true) (valid : state_valid plan quota first.state ≡ true)
    (total_is : total ≡ windows_total plan)
    (test : (ltb steps limit && ltb present.state.windows total) ≡ true) where
  more : (steps < limit) × (present.state.windows < windows_total plan)
  more = goes_on _ _ _ _ (rw total_is at test)

  smalls : Small plan present.state.windows start slot
  smalls = small _ _ _ _ possible (going.starts more.0) (going.slots more.0) more.1

  -- the turn is small enough for what follows, and the state's
  room : Room plan (turn_from plan quota present.state start slot)
  room =
      turn_room _ _ present.state _ _ possible more.1 (going.starts more.0) (going.slots more.0)
      (going_clock _ _ _ _ _ _ _ _ _ _ going possible valid more.1)

  here : length first.state.positions ≡ most_domains → length first.state.records ≡ most_domains
      → InTurn plan plan.rights plan.masks present.state (turn_from plan quota present.state start slot)
  here positions records =
      let kept = going_counts _ _ _ _ _ _ _ _ _ _ going in
      turn_here _ _ present.state _ _ possible more.1 (going.starts more.0) (going.slots more.0)
      (kept.0 ∙ positions) (kept.1 ∙ records)

-- whether a window is the run's last, as the code works it out
lasts : (plan : Plan) (windows total : ℕ) → total ≡ windows_total plan → is_last plan windows ≡ leb total (windows + 1)
lasts plan windows total is = ap (λ (n : ℕ). leb n (windows + 1)) (sym is)

pub windows_total-total-requires : goal.windows_total-total-requires
windows_total-total-requires c = let count = counts _ c.requires.0 in (count.run_most, count.windows_most)

pub window_start-start-requires : goal.window_start-start-requires
window_start-start-requires c =
    (c.requires.0, (valid_scheduled _ _ (world_with c.args.state [] [] []) c.requires.0 c.requires.1).windows)

pub nonzero_rem-slot : goal.nonzero_rem-slot
nonzero_rem-slot c = (counts _ c.requires.0).windows_least

pub loop-steps-init : goal.loop-steps-init
loop-steps-init c = going_first _ _ _ _ _ _ _ _ c.window_start-start.ensures refl

pub offset_bounds-plan-slot : goal.offset_bounds-plan-slot
offset_bounds-plan-slot c = omega (arith, (smalls c.loop-steps.invariant c.requires.0 c.requires.1 c.windows_total-total.ensures c.loop-steps-test.true).slot_below)

pub bounds-plan-slot : goal.bounds-plan-slot
bounds-plan-slot c = (smalls c.loop-steps.invariant c.requires.0 c.requires.1 c.windows_total-total.ensures c.loop-steps-test.true).slot_below

pub place_of-place-requires : goal.place_of-place-requires
place_of-place-requires c =
    let fits = room c.loop-steps.invariant c.requires.0 c.requires.1 c.windows_total-total.ensures c.loop-steps-test.true in
    let place = places_of c.args.keep c.args.quota (turn_from c.args.plan c.args.quota c.loop-steps.present c.loop-steps.start c.loop-steps.slot).owner in
    omega (arith, ends_sooner place 0 c.args.quota (omega arith), c.requires.5 _ fits.declared)

pub offset_bounds-plan-slot-in-loop-steps : goal.offset_bounds-plan-slot-in-loop-steps
offset_bounds-plan-slot-in-loop-steps c = omega (arith, (smalls c.loop-steps.invariant c.requires.0 c.requires.1 c.windows_total-total.ensures c.loop-steps-test.true).slot_below)

pub bounds-plan-slot-in-loop-steps : goal.bounds-plan-slot-in-loop-steps
bounds-plan-slot-in-loop-steps c = (smalls c.loop-steps.invariant c.requires.0 c.requires.1 c.windows_total-total.ensures c.loop-steps-test.true).slot_below

pub overflow_add-turn : goal.overflow_add-turn
overflow_add-turn c = let numbers = smalls c.loop-steps.invariant c.requires.0 c.requires.1 c.windows_total-total.ensures c.loop-steps-test.true in omega (arith, numbers)

pub bounds-present-owner : goal.bounds-present-owner
bounds-present-owner c = (smalls c.loop-steps.invariant c.requires.0 c.requires.1 c.windows_total-total.ensures c.loop-steps-test.true).owner_below

pub bounds-present-owner-in-loop-steps : goal.bounds-present-owner-in-loop-steps
bounds-present-owner-in-loop-steps c = (smalls c.loop-steps.invariant c.requires.0 c.requires.1 c.windows_total-total.ensures c.loop-steps-test.true).owner_below

pub run_turn-ran-requires : goal.run_turn-ran-requires
run_turn-ran-requires c =
    let pre = c.requires in
    let count = counts _ pre.0 in
    let inv = c.loop-steps.invariant in
    let fits = room c.loop-steps.invariant c.requires.0 c.requires.1 c.windows_total-total.ensures c.loop-steps-test.true in
    let fewer = more c.loop-steps.invariant c.requires.0 c.requires.1 c.windows_total-total.ensures c.loop-steps-test.true in (
      count.pad_least,
      count.pad_most,
      omega (arith, fewer.0),
      fits.windows,
      fits.owner,
      fits.late,
      fits.end,
      pre.2,
      inv.cache_long ∙ pre.3,
      inv.boxes_long ∙ pre.4,
      rw (c.place_of-place.ensures, inv.log_long) (pre.5 _ fits.declared),
    )

pub bounds-present-owner-in-loop-steps-2 : goal.bounds-present-owner-in-loop-steps-2
bounds-present-owner-in-loop-steps-2 c = (smalls c.loop-steps.invariant c.requires.0 c.requires.1 c.windows_total-total.ensures c.loop-steps-test.true).owner_below

pub bounds-present-owner-in-loop-steps-3 : goal.bounds-present-owner-in-loop-steps-3
bounds-present-owner-in-loop-steps-3 c = (smalls c.loop-steps.invariant c.requires.0 c.requires.1 c.windows_total-total.ensures c.loop-steps-test.true).owner_below

pub next_slot-slot-requires : goal.next_slot-slot-requires
next_slot-slot-requires c = (smalls c.loop-steps.invariant c.requires.0 c.requires.1 c.windows_total-total.ensures c.loop-steps-test.true).slot_declared

pub loop-steps-preserved : goal.loop-steps-preserved
loop-steps-preserved c =
    let inv = c.loop-steps.invariant in
    let did = c.run_turn-ran.ensures in
    let kept = c.run_turn-ran.auto in
    let fewer = more c.loop-steps.invariant c.requires.0 c.requires.1 c.windows_total-total.ensures c.loop-steps-test.true in
    let now = here c.loop-steps.invariant c.requires.0 c.requires.1 c.windows_total-total.ensures c.loop-steps-test.true (search (rules, c.well_formed)) (search (rules, c.well_formed)) in
    going_turn _ c.args.plan _ _ _ _ c.loop-steps.present _ _ _ _ _ _
    (turn_from c.args.plan c.args.quota c.loop-steps.present c.loop-steps.start c.loop-steps.slot) c.run_turn-ran.result _ _ _ _
    inv now.end_is (inv.slots fewer.0) did.0
    (did.1 _ _ _ (sym c.place_of-place.ensures) now refl (lasts _ _ _ c.windows_total-total.ensures))
    c.next_slot-slot.ensures kept.cache kept.boxes kept.log

pub returns : goal.returns
returns c =
    going_done _ _ _ _ _ _ _ _ _ _ c.loop-steps.invariant (rw c.windows_total-total.ensures at c.loop-steps-test.false)
