-- `lexer::scan::scan` meets its contract: from the offset reached the walk goes on as it would from
-- the first. Assumes nothing.
use Rattle.std.proofs.Common.{refl, sym, ◌∙◌}
use Rattle.lexer.proofs.Scanning.{scan_end, scan_here, scan_next}
use Rattle.lexer.proofs.scan.scan.Goals as goal

pub loop-here-init : goal.loop-here-init
loop-here-init g c = λ stops tells. refl

pub returns-then-ends : goal.returns-then-ends
returns-then-ends g c =
    λ stops tells.
    sym (scan_here stops _ _ c.loop-here-test.true
    (sym (tells _ _ (c.type_inv.text _).fits c.if-ends.ensures)))
    ∙ c.loop-here.invariant stops tells

pub loop-here-preserved : goal.loop-here-preserved
loop-here-preserved g c =
    λ stops tells.
    scan_next stops _ _ c.loop-here-test.true
    (sym (tells _ _ (c.type_inv.text _).fits c.if-ends.ensures))
    ∙ c.loop-here.invariant stops tells

pub returns : goal.returns
returns g c =
    λ stops tells. sym (scan_end stops _ _ c.loop-here-test.false) ∙ c.loop-here.invariant stops tells
