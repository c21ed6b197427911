-- `reader::drafting::form_verdict` meets its contract. Assumes nothing.
use borrow.Author.Tests.{eq-eqb, le-leb, lt-leb, ne_eqb}
use Rattle.reader.proofs.drafting.form_verdict.Goals as goal

pub returns-then-pad-ne0 : goal.returns-then-pad-ne0
returns-then-pad-ne0 c = simp (c.in-Pad.is, ne_eqb _ _ c.if-pad-ne0.true)

pub returns-then-run-ne0 : goal.returns-then-run-ne0
returns-then-run-ne0 c = simp (c.in-Run.is, ne_eqb _ _ c.if-run-ne0.true)

pub returns-then-windows-ge-MOST_WINDOWS : goal.returns-then-windows-ge-MOST_WINDOWS
returns-then-windows-ge-MOST_WINDOWS c = simp (c.in-Window.is, le-leb _ _ c.if-windows-ge-MOST_WINDOWS.true)

pub returns-else-pad-ne0 : goal.returns-else-pad-ne0
returns-else-pad-ne0 c = simp (c.in-Pad.is, eq-eqb _ _ c.if-pad-ne0.false)

pub returns-else-run-ne0 : goal.returns-else-run-ne0
returns-else-run-ne0 c = simp (c.in-Run.is, eq-eqb _ _ c.if-run-ne0.false)

pub returns-else-windows-ge-MOST_WINDOWS : goal.returns-else-windows-ge-MOST_WINDOWS
returns-else-windows-ge-MOST_WINDOWS c = simp (c.in-Window.is, lt-leb _ _ c.if-windows-ge-MOST_WINDOWS.false)
