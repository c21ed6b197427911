-- `state::table_validity::box_valid` meets its contract. Assumes nothing.
use mathlib.Core.Path.{refl}
use borrow.Author.Tests.{ne_eqb}
use Rattle.state.specs.TableValidity.{box_valid}
use Rattle.state.proofs.table_validity.box_valid.Goals as goal

pub returns-then-number-eq0 : goal.returns-then-number-eq0
unfolding box_valid
returns-then-number-eq0 c = λ plan rights. rw c.if-number-eq0.true refl

pub returns : goal.returns
unfolding box_valid
returns c = λ plan rights. rw (ne_eqb _ _ c.if-number-eq0.false, rights, c.has_bit-may.ensures) refl
