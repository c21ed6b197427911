-- `engine::running::ending_of` meets its contract. Assumes nothing.
use mathlib.Core.Path.{refl, sym}
use borrow.Author.Tests.{le-leb, lt-leb}
use Rattle.state.specs.World.{ended_of}
use Rattle.engine.proofs.running.ending_of.Goals as goal

pub returns-then-windows_total-state : goal.returns-then-windows_total-state
unfolding ended_of
returns-then-windows_total-state c = rw (sym c.windows_total.ensures, le-leb _ _ c.if-windows_total-state.true) refl

pub returns-else-windows_total-state : goal.returns-else-windows_total-state
unfolding ended_of
returns-else-windows_total-state c = rw (sym c.windows_total.ensures, lt-leb _ _ c.if-windows_total-state.false) refl
