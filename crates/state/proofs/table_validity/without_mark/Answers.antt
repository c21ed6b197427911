-- `state::table_validity::without_mark` meets its contract. Assumes nothing.
use mathlib.Core.Path.{refl}
use borrow.Author.Tests.{le-leb, lt-leb}
use Rattle.state.proofs.table_validity.without_mark.Goals as goal

pub returns-then-entry-ge-DIRTY_MARK : goal.returns-then-entry-ge-DIRTY_MARK
returns-then-entry-ge-DIRTY_MARK c = rw (le-leb _ _ c.if-entry-ge-DIRTY_MARK.true) refl

pub returns-else-entry-ge-DIRTY_MARK : goal.returns-else-entry-ge-DIRTY_MARK
returns-else-entry-ge-DIRTY_MARK c = rw (lt-leb _ _ c.if-entry-ge-DIRTY_MARK.false) refl
