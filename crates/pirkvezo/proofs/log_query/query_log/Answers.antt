-- `pirkvezo::log_query::query_log` meets its contract. Assumes nothing.
use Rattle.std.specs.Prelude.{Ok}
use mathlib.Core.Path.{◌≡◌, ◌∙◌, refl, sym}
use Prim.Native.Nat.{◌*◌, ◌≤◌}
use native.Mathlib.Omega.{arith}
use lib.ListN.{length}
use Rattle.std.proofs.lemmas.Result.{err_from_is_err_and}
use Rattle.plan.proofs.ValidPlans.{counts}
use Rattle.engine.specs.LogQuery.{log_status_of}
use Rattle.engine.specs.Checks.{log_verdict}
use Rattle.engine.proofs.Verdicts.{log_accepted}
use Rattle.pirkvezo.proofs.LogQueries.{query_accepted, query_refused, offset_within}
use Rattle.pirkvezo.proofs.log_query.query_log.Goals as goal

pub part_records-quota-requires : goal.part_records-quota-requires
unfolding log_status_of
part_records-quota-requires c =
    let count = counts _ (log_accepted _ _ _ _ (sym
    (let it : (Ok tt) ≡ log_verdict c.args.plan c.args.state c.args.log.now c.args.domain = sym c.in_ok-log_refusal.was ∙ c.log_refusal.ensures in it))).possible in
    (count.domains_least, count.domains_most)

pub overflow_mul-result : goal.overflow_mul-result
unfolding log_status_of
overflow_mul-result c = omega (
  arith,
  (let it : 8 * (c.part_records-quota.result * c.args.domain) ≤ length c.args.log.now = rw (c.part_records-quota.ensures c.args.plan refl)
      (offset_within _ _ _ _ (sym (let it : (Ok tt) ≡ log_verdict c.args.plan c.args.state c.args.log.now c.args.domain = sym c.in_ok-log_refusal.was ∙ c.log_refusal.ensures in it))) in it),
)

pub overflow_mul-result-2 : goal.overflow_mul-result-2
unfolding log_status_of
overflow_mul-result-2 c = omega (
  arith,
  (let it : 8 * (c.part_records-quota.result * c.args.domain) ≤ length c.args.log.now = rw (c.part_records-quota.ensures c.args.plan refl)
      (offset_within _ _ _ _ (sym (let it : (Ok tt) ≡ log_verdict c.args.plan c.args.state c.args.log.now c.args.domain = sym c.in_ok-log_refusal.was ∙ c.log_refusal.ensures in it))) in it),
)

pub returns-in_err-log_refusal : goal.returns-in_err-log_refusal
unfolding log_status_of
returns-in_err-log_refusal c =
    let told = err_from_is_err_and c.from_residual.result c.from_residual.ensures.1 in
    rw (told.1, told.2) (query_refused _ _ _ _ _ (sym c.in_err-log_refusal.was ∙ c.log_refusal.ensures))

pub returns : goal.returns
unfolding log_status_of
returns c =
    query_accepted _ _ _ _ _ _ (let it : (Ok tt) ≡ log_verdict c.args.plan c.args.state c.args.log.now c.args.domain = sym c.in_ok-log_refusal.was ∙ c.log_refusal.ensures in it)
    (c.part_records-quota.ensures c.args.plan refl)
    c.log_of-part.ensures.0
