-- `count_valid` meets its contract. The loop's invariant: the count so far is of the numbers walked over. Assumes nothing.
use mathlib.Core.Path.{◌≡◌}
use lib.ListN.{take}
use Rattle.cache.specs.Flush.{count_where}
use Rattle.cache.specs.Lines.{is_valid}
use Rattle.cache.proofs.flush.count_valid.Given as goal

abbrev pub invariant-loop-number : goal.invariant-loop-number
invariant-loop-number l = l.valid ≡ count_where is_valid (take l.number-index l.number-items)
