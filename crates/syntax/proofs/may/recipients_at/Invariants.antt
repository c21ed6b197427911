-- `syntax::may::recipients_at` meets its contract. Assumes nothing.
use Prim.Native.Nat.{◌-◌, ◌<◌, ◌^◌}
use lib.ListN.{length}
use Rattle.plan.specs.Limits.{most_domains}
use Rattle.syntax.specs.Recipients.{recipients_at}
use Rattle.syntax.proofs.Listing.{Left}
use Rattle.syntax.proofs.may.recipients_at.Given as goal

abbrev pub invariant-loop-item : goal.invariant-loop-item
invariant-loop-item l =
    Left l.text l.own l.rights l.marked l.here (recipients_at l.text l.own l.initial.marked l.at) × (l.rights < 2 ^ most_domains)

abbrev pub decreases-loop-item : goal.decreases-loop-item
decreases-loop-item l = length l.text - l.here
