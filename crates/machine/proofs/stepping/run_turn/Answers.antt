-- `machine::stepping::run_turn` meets its contract. Assumes nothing.
use Rattle.machine.proofs.WholeTurns.{switch_runs, turn_switches}
use Rattle.machine.proofs.stepping.run_turn.Goals as goal

pub returns : goal.returns
returns c =
    let ran = c.run_window-ran.ensures in
    let more = c.if-limit-ran.false in
    let switched = c.switch-clock.ensures in (
      turn_switches _ _ _ _ ran.0 ran.1 _ _ more switched.0 c.requires.0 ran.2,
      λ places plan state placed here pads lasts.
          switch_runs _ _ _ _ ran.0 ran.1 _ _ more switched.0 places plan _ _ _ state _ _ _ _ _
          (ran.3 places plan state placed here) switched.1 here pads lasts,
    )
