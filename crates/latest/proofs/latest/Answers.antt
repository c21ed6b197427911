-- `latest::latest` meets its contract. Assumes nothing.
use mathlib.Core.Bool.{true}
use mathlib.Core.Path.{◌∙◌, ◌≡◌, sym}
use Rattle.plan.specs.Validity.{plan_valid}
use Rattle.plan.proofs.ValidPlans.{counts}
use Prim.Native.Nat.{ℕ}
use Rattle.plan.specs.declared.Plan.{Plan}
use Rattle.latest.specs.Answer.{domain_fits}
use Rattle.latest.specs.Bounds.{Fitting}
use Rattle.latest.proofs.Answers.{accepted_is, impossible_plan, out_of_limits, refused_is, wrong_length_lem}
use Rattle.latest.proofs.Ranges.{parts_bounded}
use Rattle.latest.proofs.latest.Goals as goal

-- past the second test the plan is valid, and past the third there is a latest finish to be told
fitting_by :
    (plan : Plan) (domain : ℕ)
    → plan_valid plan ≡ true
    → domain_fits plan domain ≡ true
    → Fitting plan domain
fitting_by plan domain possible fits = (possible, fits)

pub returns-then-script-ne-MOST_OPS : goal.returns-then-script-ne-MOST_OPS
returns-then-script-ne-MOST_OPS c = refused_is _ _ _ _ (wrong_length_lem _ _ _ c.if-script-ne-MOST_OPS.true)

pub returns-then-not-is_valid : goal.returns-then-not-is_valid
returns-then-not-is_valid c =
    refused_is _ _ _ _
    (impossible_plan _ _ _ c.if-script-ne-MOST_OPS.false
    (sym c.is_valid.ensures ∙ c.if-not-is_valid.true))

pub domain_fits-requires : goal.domain_fits-requires
domain_fits-requires c = (counts _ (sym c.is_valid.ensures ∙ c.if-not-is_valid.false)).windows_most

pub returns-then-not-domain_fits : goal.returns-then-not-domain_fits
returns-then-not-domain_fits c =
    refused_is _ _ _ _
    (out_of_limits _ _ _ c.if-script-ne-MOST_OPS.false (sym c.is_valid.ensures ∙ c.if-not-is_valid.false)
    (sym c.domain_fits.ensures ∙ c.if-not-domain_fits.true))

pub write_script-requires : goal.write_script-requires
write_script-requires c = (
  rw c.late_script_of-parts.ensures (parts_bounded _ _ (fitting_by _ _
      (sym c.is_valid.ensures ∙ c.if-not-is_valid.false) (sym c.domain_fits.ensures
      ∙ c.if-not-domain_fits.false))),
  c.if-script-ne-MOST_OPS.false,
)

pub returns : goal.returns
returns c =
    accepted_is _ _ _ _ c.late_script_of-parts.result _ c.if-script-ne-MOST_OPS.false (fitting_by _ _
    (sym c.is_valid.ensures ∙ c.if-not-is_valid.false) (sym c.domain_fits.ensures
    ∙ c.if-not-domain_fits.false))
    c.latest_ticks-ticks.ensures
    c.late_script_of-parts.ensures
    c.write_script.ensures

pub latest_ticks-ticks-requires : goal.latest_ticks-ticks-requires
latest_ticks-ticks-requires c = fitting_by _ _ (sym c.is_valid.ensures ∙ c.if-not-is_valid.false) (sym c.domain_fits.ensures ∙ c.if-not-domain_fits.false)

pub late_script_of-parts-requires : goal.late_script_of-parts-requires
late_script_of-parts-requires c = fitting_by _ _ (sym c.is_valid.ensures ∙ c.if-not-is_valid.false) (sym c.domain_fits.ensures ∙ c.if-not-domain_fits.false)
