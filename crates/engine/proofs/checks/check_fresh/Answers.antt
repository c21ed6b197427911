-- `engine::checks::check_fresh` meets its contract. Assumes nothing.
use mathlib.Core.Path.{◌∙◌, refl, sym}
use Rattle.engine.specs.Checks.{fresh_verdict}
use Rattle.engine.proofs.checks.check_fresh.Goals as goal

pub returns-then-is_valid : goal.returns-then-is_valid
unfolding fresh_verdict
returns-then-is_valid c = rw (c.if-cache-boxes.true, sym c.is_valid.ensures ∙ c.if-is_valid.true) refl

pub returns-else-is_valid : goal.returns-else-is_valid
unfolding fresh_verdict
returns-else-is_valid c = rw (c.if-cache-boxes.true, sym c.is_valid.ensures ∙ c.if-is_valid.false) refl

pub returns-else-cache-boxes : goal.returns-else-cache-boxes
unfolding fresh_verdict
returns-else-cache-boxes c = rw c.if-cache-boxes.false refl
