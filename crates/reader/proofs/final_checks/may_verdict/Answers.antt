-- `reader::final_checks::may_verdict` meets its contract. The loop's invariant: what was found so far, with what is left, gives the
-- whole answer. Assumes nothing.
use mathlib.Core.Path.{refl, ◌∙◌}
use Rattle.reader.proofs.LastChecks.{may_after, may_end, may_found, may_next, may_nothing}
use Rattle.reader.proofs.final_checks.may_verdict.Goals as goal

pub loop-domain-init : goal.loop-domain-init
unfolding may_after
loop-domain-init c = refl

pub loop-domain-preserved : goal.loop-domain-preserved
loop-domain-preserved c =
    let loop = c.loop-domain in
    rw c.earlier_kept-found.ensures (may_next _ _ _ _ loop.invariant c.loop-domain-test.true)

pub returns-then-found-eq0 : goal.returns-then-found-eq0
returns-then-found-eq0 c = may_nothing _ c.if-found-eq0.true ∙ may_end _ _ _ _ c.loop-domain.invariant c.loop-domain-test.false

pub returns : goal.returns
returns c = may_found _ c.if-found-eq0.false ∙ may_end _ _ _ _ c.loop-domain.invariant c.loop-domain-test.false

pub earlier_kept-found-requires : goal.earlier_kept-found-requires
earlier_kept-found-requires c = tt
