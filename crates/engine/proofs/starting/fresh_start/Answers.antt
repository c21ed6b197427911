-- `engine::starting::fresh_start` meets its contract. Assumes nothing.
use mathlib.Core.Path.{◌∙◌, sym}
use Rattle.std.proofs.lemmas.Result.{err_from_is_err_and}
use Rattle.engine.proofs.Verdicts.{fresh_refused, fresh_started}
use Rattle.engine.proofs.starting.fresh_start.Goals as goal

pub returns-in_err-check_fresh : goal.returns-in_err-check_fresh
returns-in_err-check_fresh c state =
    let told = err_from_is_err_and c.from_residual.result c.from_residual.ensures.1 in
    rw (told.1, told.2) (fresh_refused _ _ _ _ _ (sym c.in_err-check_fresh.was ∙ c.check_fresh.ensures))

pub returns : goal.returns
returns c state =
    fresh_started _ _ _ _ _ _ _
    (sym c.in_ok-check_fresh.was ∙ c.check_fresh.ensures)
    c.fresh_state.ensures (c.fill.ensures.after (λ number is. is))
    (c.fill-2.ensures.after (λ number is. is))
