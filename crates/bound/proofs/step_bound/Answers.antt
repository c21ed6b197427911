-- `bound::step_bound` meets its contract. Assumes nothing.
use mathlib.Core.Path.{◌∙◌, sym}
use native.Mathlib.Omega.{arith}
use Rattle.plan.proofs.ValidPlans.{counts}
use Rattle.bound.proofs.Answers.{impossible_plan, parts_answered, parts_most, wrong_length_lem}
use Rattle.bound.proofs.step_bound.Goals as goal

pub returns-then-scripts-ne-SCRIPTS_LENGTH : goal.returns-then-scripts-ne-SCRIPTS_LENGTH
returns-then-scripts-ne-SCRIPTS_LENGTH c = wrong_length_lem _ _ c.if-scripts-ne-SCRIPTS_LENGTH.true

pub returns-then-not-is_valid : goal.returns-then-not-is_valid
returns-then-not-is_valid c = impossible_plan _ _ c.if-scripts-ne-SCRIPTS_LENGTH.false (sym c.is_valid.ensures ∙ c.if-not-is_valid.true)

pub windows_total-switches-requires : goal.windows_total-switches-requires
windows_total-switches-requires c = let count = counts _ (sym c.is_valid.ensures ∙ c.if-not-is_valid.false) in (count.run_most, count.windows_most)

pub overflow_add-result : goal.overflow_add-result
overflow_add-result c =
    let most = parts_most _ _ _ _ (sym c.is_valid.ensures ∙ c.if-not-is_valid.false) c.ops_stored-ops.ensures c.windows_total-switches.ensures in
    omega arith

pub returns : goal.returns
returns c =
    parts_answered _ _ _ _ (sym c.is_valid.ensures ∙ c.if-not-is_valid.false) c.ops_stored-ops.ensures c.windows_total-switches.ensures
    c.if-scripts-ne-SCRIPTS_LENGTH.false
