-- `machine::stepping::run_window` meets its contract. The loop's invariant is `Turning`. Assumes nothing.
use mathlib.Core.Path.{◌∙◌, refl, sym}
use native.Mathlib.Omega.{arith}
use Rattle.machine.proofs.Fetched.{fetched_within}
use Rattle.machine.proofs.Invariant.{op_next}
use Rattle.machine.proofs.Turns.{next_disallowed}
use Rattle.machine.proofs.Windows.{turn_ends, turn_first, turn_more}
use Rattle.machine.proofs.stepping.run_window.Goals as goal
use Rattle.machine.proofs.stepping.run_window.Goals.{else-loop-steps-test, then-loop-steps-test+in_default}

pub loop-steps-init : goal.loop-steps-init
loop-steps-init c = turn_first _ _ _ _ _ _ _ _ _ c.requires.1

pub op_step-clock-requires : goal.op_step-clock-requires
op_step-clock-requires c =
    let pre = c.requires in
    let inv = c.loop-steps.invariant in
    let begins = op_next _ _ _ (sym c.next_step.ensures ∙ c.in-Some.is) in (
      pre.0,
      fetched_within _ _ _ _ begins.next,
      omega (arith, begins.in_time, pre.2),
      inv.cache_long ∙ pre.4,
      inv.boxes_long ∙ pre.5,
      begins.room,
      rw inv.log_long pre.6,
    )

pub loop-steps-preserved : goal.loop-steps-preserved
loop-steps-preserved c =
    let chosen = sym c.in-Some.is ∙ c.next_step.ensures in
    let kept = c.op_step-clock.auto in
    turn_more _ _ _ _ _ _ _ _ _ _ _ _ _ _ c.loop-steps.invariant _ _ _ _ _
    c.loop-steps-test.true chosen c.op_step-clock.ensures kept.cache kept.boxes kept.log

pub returns : goal.returns
returns c =
    let inv = c.loop-steps.invariant in
    let allowed = c.ops_allowed-most.ensures in (
      omega (arith, inv.within, allowed),
      refl,
      inv.late,
      λ places plan state placed begins.
          record {
            ran = (inv.done places plan state placed begins).0;
            due = λ fewer.
                turn_ends _ _ _ _ _ _ _ _ _ _ _ _ _ _ inv
                (elim c.loop-steps-test.branch [
                  | else-loop-steps-test w ↦ next_disallowed _ c.args.first _ _ _ _ allowed w.loop-steps-test.false fewer
                  | then-loop-steps-test+in_default w ↦ sym w.in_default.is ∙ w.next_step.ensures
                ])
                places plan state placed begins;
          },
    )
