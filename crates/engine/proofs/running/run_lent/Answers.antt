-- `engine::running::run_lent` meets its contract. Assumes nothing.
use Prim.Native.Nat.{ℕ}
use mathlib.Core.Path.{◌∙◌, ap, sym}
use Rattle.std.proofs.lemmas.Result.{err_from_is_err_and}
use Rattle.plan.proofs.ValidPlans.{counts}
use Rattle.state.specs.StateValidity.{state_valid}
use Rattle.engine.proofs.Verdicts.{call_accepted, call_ran, call_refused, places_fit}
use Rattle.engine.proofs.running.run_lent.Goals as goal

pub quota_of-quota-requires : goal.quota_of-quota-requires
quota_of-quota-requires c = (call_accepted _ _ _ _ (sym c.check_run.ensures ∙ c.in_ok-check_run.was)).tables.possible

pub run_steps-advance-requires : goal.run_steps-advance-requires
run_steps-advance-requires c =
    let args = c.args in
    let ok = call_accepted _ _ _ _ (sym c.check_run.ensures ∙ c.in_ok-check_run.was) in
    let quota = c.quota_of-quota.ensures in (
      ok.tables.possible,
      ap (λ (n : ℕ). state_valid args.plan n args.state.now) quota ∙ ok.state_is,
      ok.tables.scripts_long,
      ok.tables.cache_long,
      ok.tables.boxes_long,
      λ domain declared.
          rw (c.from-keep.ensures, quota)
          (places_fit args.lent args.plan _ ok.log_fits_lem domain declared),
    )

pub ending_of-requires : goal.ending_of-requires
ending_of-requires c =
    let count = counts _ (call_accepted _ _ _ _ (sym c.check_run.ensures ∙ c.in_ok-check_run.was)).tables.possible in
    (count.run_most, count.windows_most)

pub returns-in_err-check_run : goal.returns-in_err-check_run
returns-in_err-check_run c =
    let told = err_from_is_err_and c.from_residual.result c.from_residual.ensures.1 in
    rw (told.1, told.2) (call_refused _ _ _ _ _ _ (sym c.in_err-check_run.was ∙ c.check_run.ensures))

pub returns : goal.returns
returns c =
    call_ran _ _ _ _ _ _ _ _ _ _ (sym c.in_ok-check_run.was ∙ c.check_run.ensures)
    c.from-keep.ensures
    c.quota_of-quota.ensures
    c.run_steps-advance.ensures c.ending_of.ensures
