-- `reader::drafting::take_op` meets its contract. Assumes nothing.
use borrow.Author.Tests.{le-leb, lt-leb}
use Rattle.reader.specs.Draft.{take_op}
use Rattle.reader.proofs.drafting.take_op.Goals as goal

pub returns-then-index-ge-MOST_OPS : goal.returns-then-index-ge-MOST_OPS
unfolding take_op
returns-then-index-ge-MOST_OPS c plan named = simp (le-leb _ _ c.if-index-ge-MOST_OPS.true)

pub returns : goal.returns
unfolding take_op
returns c plan named = simp (lt-leb _ _ c.if-index-ge-MOST_OPS.false, ← c.stored.ensures)

pub stored-requires : goal.stored-requires
stored-requires c = tt
