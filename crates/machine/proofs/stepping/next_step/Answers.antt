-- `machine::stepping::next_step` meets its contract. Assumes nothing.
use Rattle.machine.specs.View.{turn_after}
use Rattle.machine.proofs.Turns.{next_item_lem, next_late}
use Rattle.machine.proofs.stepping.next_step.Goals as goal

pub returns-then-first-clock : goal.returns-then-first-clock
returns-then-first-clock c =
    let args = c.args in
    next_late _ (turn_after args.first args.steps args.clock) c.if-first-clock.true

pub returns : goal.returns
returns c =
    next_item_lem _ _ _ c.fetch.ensures c.if-first-clock.false
    c.requires.2
