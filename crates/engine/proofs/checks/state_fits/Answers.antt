-- `engine::checks::state_fits` meets its contract. Assumes nothing.
use mathlib.Core.Path.{◌∙◌, ap, refl}
use Prim.Native.Nat.{ℕ}
use Rattle.state.specs.StateValidity.{state_valid}
use Rattle.plan.proofs.ValidPlans.{counts}
use Rattle.engine.proofs.checks.state_fits.Goals as goal

pub part_records-quota-requires : goal.part_records-quota-requires
part_records-quota-requires c = let count = counts _ c.requires in (count.domains_least, count.domains_most)

pub returns : goal.returns
returns c =
    let args = c.args in
    c.state_valid.ensures ∙ ap (λ (n : ℕ). state_valid args.plan n args.state) (c.part_records-quota.ensures args.plan refl)
