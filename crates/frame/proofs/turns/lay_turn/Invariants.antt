-- `frame::turns::lay_turn` meets its contract. The loop's invariant: the frame has the windows of the domains passed.
-- Assumes nothing.
use mathlib.Core.Path.{◌≡◌}
use Prim.Native.Nat.{◌+◌}
use lib.ListN.{length}
use lib.Seq.{sets}
use Rattle.frame.specs.Quotas.{entry_of}
use Rattle.frame.specs.Turns.{turn_windows}
use Rattle.frame.proofs.turns.lay_turn.Given as goal

abbrev pub invariant-loop-domain : goal.invariant-loop-domain
invariant-loop-domain l =
    (l.next ≡ l.first + length (turn_windows (entry_of l.windows) l.turn l.domain))
    × (l.frame ≡ sets l.initial.frame l.first (turn_windows (entry_of l.windows) l.turn l.domain))
