-- `latest::figure::box_indices` meets its contract. Assumes nothing.
use mathlib.Core.Path.{◌∙◌}
use Rattle.plan.proofs.Sums.{number_of_not}
use Rattle.latest.specs.Latest.{box_indices}
use Rattle.latest.proofs.Ranges.{domain_below}
use Rattle.latest.proofs.figure.box_indices.Goals as goal

pub has_box-requires : goal.has_box-requires
has_box-requires c = domain_below _ _ c.requires

pub returns-then-not-has_box : goal.returns-then-not-has_box
unfolding box_indices
returns-then-not-has_box c = simp (← c.has_box.ensures, c.if-not-has_box.true)

pub returns : goal.returns
unfolding box_indices
returns c =
    c.from.ensures
    ∙ number_of_not c.meets_kernel-met.result
    ∙ simp (← c.has_box.ensures, c.if-not-has_box.false, ← c.meets_kernel-met.ensures)
