-- `engine::checks::check_log` meets its contract. Assumes nothing.
use mathlib.Core.Path.{◌∙◌, refl, sym}
use borrow.Author.Tests.{le-ltb, lt-ltb}
use Rattle.engine.specs.Checks.{log_verdict}
use Rattle.engine.proofs.checks.check_log.Goals as goal

pub returns-then-not-is_valid : goal.returns-then-not-is_valid
unfolding log_verdict
returns-then-not-is_valid c = rw (sym c.is_valid.ensures ∙ c.if-not-is_valid.true, log_verdict) refl

pub state_fits-requires : goal.state_fits-requires
state_fits-requires c = sym c.is_valid.ensures ∙ c.if-not-is_valid.false

pub returns-then-not-state_fits : goal.returns-then-not-state_fits
unfolding log_verdict
returns-then-not-state_fits c =
    rw (
      sym c.is_valid.ensures ∙ c.if-not-is_valid.false,
      sym
          c.state_fits.ensures ∙ c.if-not-state_fits.true,
      log_verdict,
    ) refl

pub returns-then-domain-plan : goal.returns-then-domain-plan
unfolding log_verdict
returns-then-domain-plan c =
    rw (
      sym c.is_valid.ensures ∙ c.if-not-is_valid.false,
      sym c.state_fits.ensures ∙ c.if-not-state_fits.false,
      lt-ltb _ _ c.if-domain-plan.true,
      log_verdict,
    )
    refl

pub returns-else-domain-plan : goal.returns-else-domain-plan
unfolding log_verdict
returns-else-domain-plan c =
    rw (
      sym c.is_valid.ensures ∙ c.if-not-is_valid.false,
      sym c.state_fits.ensures ∙ c.if-not-state_fits.false,
      le-ltb _ _ c.if-domain-plan.false,
      log_verdict,
    )
    refl
