-- `state::table_validity::l1_entry_valid` meets its contract. Assumes nothing.
use mathlib.Core.Path.{◌∙◌, refl, sym}
use borrow.Author.Tests.{eq-eqb}
use Rattle.state.specs.TableValidity.{l1_entry_valid}
use Rattle.state.proofs.TableLaws.{l1_line, l1_no_line, line_limits}
use Rattle.state.proofs.table_validity.l1_entry_valid.Goals as goal

pub returns-then-entry-eq0 : goal.returns-then-entry-eq0
unfolding l1_entry_valid
returns-then-entry-eq0 c = λ plan state ended mask. rw (eq-eqb _ _ c.if-entry-eq0.true) refl

pub returns-then-not-is_line : goal.returns-then-not-is_line
returns-then-not-is_line c =
    λ plan state ended mask.
    let no_line = sym c.is_line.ensures ∙ c.if-not-is_line.true in
    l1_no_line plan state _ _ _ c.if-entry-eq0.false
    c.without_mark-number.ensures no_line

pub overflow_sub-line : goal.overflow_sub-line
overflow_sub-line c = (line_limits _ (sym c.is_line.ensures ∙ c.if-not-is_line.false)).0

pub returns : goal.returns
returns c =
    λ plan state ended mask.
    let full = c.if-entry-eq0.false in
    let line = sym c.is_line.ensures ∙ c.if-not-is_line.false in
    l1_line plan state _ _ _ _ _ _ full c.without_mark-number.ensures line ended mask
    (rw c.from.ensures at c.has_bit-owned.ensures)
