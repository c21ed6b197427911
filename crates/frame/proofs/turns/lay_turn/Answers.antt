-- `frame::turns::lay_turn` meets its contract. The loop's invariant: the frame has the windows of the domains passed.
-- Assumes nothing.
use mathlib.Core.Path.{◌∙◌, ap, refl}
use Prim.Native.Nat.{ℕ}
use native.Mathlib.Omega.{arith}
use mathlib.Core.List.{List}
use lib.ListN.{set}
use Rattle.plan.specs.Limits.{most_windows}
use Rattle.frame.specs.Quotas.{entry_of}
use Rattle.frame.specs.Turns.{turn_windows}
use Rattle.frame.proofs.Laying.{laid_frame, laid_index, laying_room, skipped_frame, skipped_index}
use Rattle.frame.proofs.turns.lay_turn.Goals as goal
use Rattle.frame.proofs.turns.lay_turn.Goals.{then-turn-windows, else-turn-windows}

pub loop-domain-init : goal.loop-domain-init
unfolding turn_windows
loop-domain-init c = (omega arith, refl)

pub bounds-frame-next : goal.bounds-frame-next
bounds-frame-next c =
    laying_room _ c.args.turn c.loop-domain.domain c.args.first c.loop-domain.next c.args.frame.now c.loop-domain.invariant.0
    most_windows c.if-turn-windows.true (omega arith) c.requires

pub offset_bounds-frame-next : goal.offset_bounds-frame-next
offset_bounds-frame-next c =
    let within = laying_room _ c.args.turn c.loop-domain.domain c.args.first c.loop-domain.next c.args.frame.now c.loop-domain.invariant.0
    most_windows c.if-turn-windows.true (omega arith) c.requires in
    omega arith

pub overflow_add-next : goal.overflow_add-next
overflow_add-next c =
    let within = laying_room _ c.args.turn c.loop-domain.domain c.args.first c.loop-domain.next c.args.frame.now c.loop-domain.invariant.0
    most_windows c.if-turn-windows.true (omega arith) c.requires in
    omega arith

pub loop-domain-preserved : goal.loop-domain-preserved
loop-domain-preserved c =
    let loop = c.loop-domain in
    let start = c in
    let windows = entry_of start.args.windows.now in
    elim c.if-turn-windows.branch [
      | then-turn-windows w ↦ (
        w.next-is ∙ laid_index windows start.args.turn loop.domain _ loop.next start.args.frame.now loop.invariant.0 w.if-turn-windows.true,
        w.frame-is ∙ ap (λ (frame : List ℕ). set frame loop.next loop.domain) loop.invariant.1
            ∙ laid_frame windows start.args.turn loop.domain _ loop.next start.args.frame.now loop.invariant.0 w.if-turn-windows.true,
      )
      | else-turn-windows w ↦ (
        w.next-is ∙ skipped_index windows start.args.turn loop.domain _ loop.next start.args.frame.now loop.invariant.0 w.if-turn-windows.false,
        w.frame-is ∙ loop.invariant.1
            ∙ skipped_frame windows start.args.turn loop.domain _ loop.next start.args.frame.now loop.invariant.0 w.if-turn-windows.false,
      )
    ]
