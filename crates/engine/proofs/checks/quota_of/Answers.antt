-- `engine::checks::quota_of` meets its contract. Assumes nothing.
use mathlib.Core.Path.{refl}
use Rattle.plan.proofs.ValidPlans.{counts}
use Rattle.engine.proofs.checks.quota_of.Goals as goal

pub part_records-requires : goal.part_records-requires
part_records-requires c = let count = counts _ c.requires in (count.domains_least, count.domains_most)

pub returns-in-Whole : goal.returns-in-Whole
returns-in-Whole c = simp (c.in-Whole.is, c.part_records.ensures c.args.plan refl)

pub returns-in-Part : goal.returns-in-Part
returns-in-Part c = simp c.in-Part.is
