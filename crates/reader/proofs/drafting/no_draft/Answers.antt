-- `reader::drafting::no_draft` meets its contract. Assumes nothing.
use Rattle.reader.specs.Draft.{no_draft}
use Rattle.reader.proofs.drafting.no_draft.Goals as goal

pub returns : goal.returns
unfolding no_draft
returns c = simp (← c.no_plan-plan.ensures)

pub no_plan-plan-requires : goal.no_plan-plan-requires
no_plan-plan-requires c = tt
