-- `lexer::scan::skip_indent` meets its contract where the second byte of a turn is no space: the
-- first was one. Assumes nothing.
use mathlib.Core.Path.{sym, ◌∙◌}
use borrow.Author.Rules.{rules}
use borrow.Author.Tests.{eq-eqb, ne_eqb}
use Rattle.lexer.specs.Bytes.{is_no_space}
use Rattle.lexer.proofs.Scanning.{scan_here, scan_next}
use Rattle.lexer.proofs.scan.skip_indent.Goals as goal

pub returns-then-text-here-ne32-2 : goal.returns-then-text-here-ne32-2
returns-then-text-here-ne32-2 c =
    sym (scan_here is_no_space _ _ (search rules) (simp (ne_eqb _ _ c.if-text-here-ne32-2.true)))
    ∙ scan_next is_no_space _ _ (search rules) (simp (eq-eqb _ _ c.if-text-here-ne32.false))
    ∙ c.loop-here.invariant
