-- `reader::walk::walk` meets its contract. Assumes nothing.
use Prim.Native.Nat.{◌-◌}
use lib.ListN.{length}
use Rattle.reader.specs.Draft.{no_draft}
use Rattle.reader.specs.DraftParts.{draft_with}
use Rattle.reader.specs.Read.{walk_from}
use Rattle.reader.proofs.Walking.{LinesLeft}
use Rattle.reader.proofs.walk.walk.Given as goal

abbrev pub invariant-loop-at : goal.invariant-loop-at
invariant-loop-at l =
    LinesLeft l.text l.at (draft_with l.plan l.counts l.named) l.store
    (walk_from (length l.text) l.text 0 no_draft l.initial.store)

abbrev pub decreases-loop-at : goal.decreases-loop-at
decreases-loop-at l = length l.text - l.at
