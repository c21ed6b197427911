-- `engine::log_query::log_of` meets its contract. Assumes nothing.
use mathlib.Core.List.{List}
use mathlib.Core.Path.{◌∙◌, ◌≡◌, refl, sym}
use Prim.Native.Nat.{ℕ, ◌*◌, ◌+◌, ◌≤◌}
use native.Mathlib.Omega.{arith}
use lib.ListN.{get_or, length}
use Rattle.plan.specs.declared.Plan.{Plan}
use Rattle.plan.proofs.ValidPlans.{counts}
use Rattle.records.specs.Records.{part_records}
use Rattle.state.specs.declared.State.{State}
use Rattle.engine.proofs.Verdicts.{LogAccepted, log_accepted, log_handed, log_refused, log_within, offset_handed, offset_refused}
use Rattle.engine.proofs.log_query.log_of.Goals as goal

-- the part that is handed back lies within the log
handed :
    (plan : Plan) (state : State) (log : List ℕ) (domain quota : ℕ)
    → LogAccepted plan state log domain
    → quota ≡ part_records plan (length log)
    → 8 * (quota * domain) + 8 * get_or state.records domain 0 ≤ length log
handed plan state log domain quota lent is = rw is (log_within _ _ _ _ lent)

pub part_records-quota-requires : goal.part_records-quota-requires
part_records-quota-requires c =
    let lent = log_accepted _ _ _ _ (sym c.check_log.ensures ∙ c.in-Ok.is) in
    let count = counts _ lent.possible in
    (count.domains_least, count.domains_most)

pub overflow_mul-from : goal.overflow_mul-from
overflow_mul-from c =
    let lent = log_accepted _ _ _ _ (sym c.check_log.ensures ∙ c.in-Ok.is) in
    omega (arith, handed _ _ _ _ _ lent (c.part_records-quota.ensures c.args.plan refl))

pub overflow_mul-from-in-Ok : goal.overflow_mul-from-in-Ok
overflow_mul-from-in-Ok c =
    let lent = log_accepted _ _ _ _ (sym c.check_log.ensures ∙ c.in-Ok.is) in
    omega (arith, handed _ _ _ _ _ lent (c.part_records-quota.ensures c.args.plan refl))

pub bounds-state-at : goal.bounds-state-at
bounds-state-at c =
    let lent = log_accepted _ _ _ _ (sym c.check_log.ensures ∙ c.in-Ok.is) in
    omega (arith, lent.declared, (counts _ lent.possible).domains_most)

pub overflow_mul-to : goal.overflow_mul-to
overflow_mul-to c =
    let lent = log_accepted _ _ _ _ (sym c.check_log.ensures ∙ c.in-Ok.is) in
    omega (arith, handed _ _ _ _ _ lent (c.part_records-quota.ensures c.args.plan refl))

pub overflow_add-to : goal.overflow_add-to
overflow_add-to c =
    let lent = log_accepted _ _ _ _ (sym c.check_log.ensures ∙ c.in-Ok.is) in
    omega (arith, handed _ _ _ _ _ lent (c.part_records-quota.ensures c.args.plan refl))

pub slice_bounds-result-end-in-Ok : goal.slice_bounds-result-end-in-Ok
slice_bounds-result-end-in-Ok c =
    let lent = log_accepted _ _ _ _ (sym c.check_log.ensures ∙ c.in-Ok.is) in
    omega (arith, handed _ _ _ _ _ lent (c.part_records-quota.ensures c.args.plan refl))

pub returns-in-Err : goal.returns-in-Err
returns-in-Err c =
    let refused = sym c.in-Err.is ∙ c.check_log.ensures in
    (log_refused _ _ _ _ _ refused, refl, offset_refused _ _ _ _ _ _ refused)

pub returns-in-Ok : goal.returns-in-Ok
returns-in-Ok c =
    let accepted = sym c.in-Ok.is ∙ c.check_log.ensures in
    let quota = c.part_records-quota.ensures c.args.plan refl in
    (log_handed _ _ _ _ _ accepted quota, refl, offset_handed _ _ _ _ _ _ accepted quota)
