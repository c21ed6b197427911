-- `frame::turns::lay_turns` meets its contract. The loop's invariant: zeros, with the turns so far stored into them.
-- Assumes nothing.
use mathlib.Core.Path.{◌≡◌}
use lib.ListN.{length, replicate}
use lib.Seq.{sets}
use Rattle.plan.specs.Limits.{most_windows}
use Rattle.frame.specs.Quotas.{entry_of}
use Rattle.frame.specs.Turns.{first_turns}
use Rattle.frame.proofs.turns.lay_turns.Given as goal

abbrev pub invariant-loop-turn : goal.invariant-loop-turn
invariant-loop-turn l =
    (l.next ≡ length (first_turns (entry_of l.windows) l.turn))
    × (l.frame ≡ sets (replicate most_windows 0) 0 (first_turns (entry_of l.windows) l.turn))
