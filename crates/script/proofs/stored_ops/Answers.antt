-- `script::stored_ops` meets its contract. The loop's invariant: what is passed are ops, and those in a row behind them are the others.
-- Assumes nothing.
use mathlib.Core.Path.{◌∙◌, sym}
use native.Mathlib.Omega.{arith}
use Rattle.std.proofs.Common.{◌≡◌}
use Rattle.script.proofs.ScriptEnd.{passed_all, passed_end, passed_none, passed_op}
use Rattle.script.proofs.stored_ops.Goals as goal

pub loop-position-init : goal.loop-position-init
loop-position-init c = passed_none _ _

pub returns-in-None : goal.returns-in-None
returns-in-None c =
    let loop = c.loop-position in
    passed_end _ _ loop.position loop.invariant (omega (arith, c.loop-position-test.true))
    (sym c.fetch.ensures ∙ c.in-None.is)

pub loop-position-preserved : goal.loop-position-preserved
loop-position-preserved c =
    let loop = c.loop-position in
    passed_op _ _ loop.position _ loop.invariant (omega (arith, c.loop-position-test.true))
    (sym c.fetch.ensures ∙ c.in_default.is)

pub returns : goal.returns
returns c =
    let all : c.loop-position.position ≡ 256 = omega (arith, c.loop-position.invariant.0, c.loop-position-test.false) in
    sym all ∙ passed_all _ _ c.loop-position.position c.loop-position.invariant c.loop-position-test.false
