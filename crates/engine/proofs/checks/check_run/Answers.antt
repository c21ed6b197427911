-- `engine::checks::check_run` meets its contract. Assumes nothing.
use Rattle.std.specs.Prelude.{Ok}
use Prim.Native.Nat.{ℕ}
use mathlib.Core.Bool.{false, true}
use mathlib.Core.Path.{◌∙◌, ap, refl, sym}
use Rattle.std.proofs.lemmas.Result.{err_from_is_err_and}
use Rattle.state.specs.StateValidity.{state_valid}
use Rattle.engine.specs.LentLog.{lent_log_verdict}
use Rattle.engine.proofs.Verdicts.{lent_accepted, lent_log_next}
use Rattle.engine.proofs.checks.check_run.Goals as goal

pub returns-then-not-log_fits : goal.returns-then-not-log_fits
unfolding lent_log_verdict
returns-then-not-log_fits c = rw (sym c.log_fits.ensures ∙ c.if-not-log_fits.true, lent_log_verdict) refl

pub returns-in_err-check_lent : goal.returns-in_err-check_lent
returns-in_err-check_lent c =
    let told = err_from_is_err_and c.from_residual.result c.from_residual.ensures.1 in
    rw (told.1, told.2)
    (lent_log_next _ _ _ _ _ _ _ (sym c.log_fits.ensures ∙ c.if-not-log_fits.false)
    (sym c.in_err-check_lent.was ∙ c.check_lent.ensures) refl refl)

pub quota_of-requires : goal.quota_of-requires
quota_of-requires c = (lent_accepted _ _ _ _ _ _ (sym c.check_lent.ensures ∙ c.in_ok-check_lent.was)).0.possible

pub state_valid-requires : goal.state_valid-requires
state_valid-requires c = (lent_accepted _ _ _ _ _ _ (sym c.check_lent.ensures ∙ c.in_ok-check_lent.was)).0.possible

pub returns-then-not-state_valid : goal.returns-then-not-state_valid
returns-then-not-state_valid c =
    let args = c.args in
    lent_log_next _ _ _ _ _ _ _ (sym c.log_fits.ensures ∙ c.if-not-log_fits.false)
    (sym c.in_ok-check_lent.was ∙ c.check_lent.ensures)
    (sym c.if-not-state_valid.true ∙ c.state_valid.ensures
    ∙ ap (λ (n : ℕ). state_valid args.plan n args.state) c.quota_of.ensures) refl

pub returns-then-domain_fits : goal.returns-then-domain_fits
returns-then-domain_fits c =
    let args = c.args in
    lent_log_next _ _ _ _ (Ok tt) true true (sym c.log_fits.ensures ∙ c.if-not-log_fits.false)
    (sym c.in_ok-check_lent.was ∙ c.check_lent.ensures)
    (sym c.if-not-state_valid.false ∙ c.state_valid.ensures
    ∙ ap (λ (n : ℕ). state_valid args.plan n args.state) c.quota_of.ensures)
    (sym c.if-domain_fits.true ∙ c.domain_fits.ensures)

pub returns-else-domain_fits : goal.returns-else-domain_fits
returns-else-domain_fits c =
    let args = c.args in
    lent_log_next _ _ _ _ (Ok tt) true false (sym c.log_fits.ensures ∙ c.if-not-log_fits.false)
    (sym c.in_ok-check_lent.was ∙ c.check_lent.ensures)
    (sym c.if-not-state_valid.false ∙ c.state_valid.ensures
    ∙ ap (λ (n : ℕ). state_valid args.plan n args.state) c.quota_of.ensures)
    (sym c.if-domain_fits.false ∙ c.domain_fits.ensures)
