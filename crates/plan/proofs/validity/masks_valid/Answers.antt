-- `plan::validity::masks_valid` meets its contract. Assumes nothing.
use mathlib.Core.List.{List}
use mathlib.Core.Path.{◌∙◌, ◌≡◌, ap}
use Prim.Native.Nat.{ℕ}
use lib.ListN.{get_or, length}
use borrow.Author.Tests.{eq-eqb, eqb-true}
use Rattle.std.proofs.Common.{rules}
use Rattle.std.specs.Bool.{Decides}
use Rattle.std.proofs.lemmas.Bool.Decides.{Decides-eqb, same_from_decides}
use Rattle.std.proofs.lemmas.Slice.Eq.{slice_eq-Decides}
use Rattle.plan.specs.declared.Plan.{Plan}
use Rattle.plan.specs.Colours.{masks_from}
use Rattle.plan.specs.Validity.{mask_valid}
use Rattle.plan.specs.Sums.{all_below}
use Rattle.plan.specs.Limits.{most_domains}
use Rattle.plan.proofs.MaskLists.{mask_due, masks_are}
use Rattle.plan.proofs.Sums.{all_below_lem, below_all}
use Rattle.plan.proofs.validity.masks_valid.Goals as goal

-- every entry is valid exactly where the masks that are kept are those due
all_valid : (plan : Plan) → length plan.masks ≡ most_domains → Decides (all_below (mask_valid plan) most_domains) (plan.masks ≡ masks_from plan most_domains 0)
unfolding mask_valid
all_valid plan eight = (
  (λ valid. masks_are plan plan.masks eight (λ domain below.
      eqb-true _ _ (all_below_lem (mask_valid plan) most_domains domain valid below))),
  (λ same. below_all (mask_valid plan) most_domains (λ domain below.
      eq-eqb _ _ (ap (λ (masks : List ℕ). get_or masks domain 0) same ∙ mask_due plan domain below))),
)

pub returns : goal.returns
returns c =
    let same : Decides c.eq.result (c.args.plan.masks ≡ masks_from c.args.plan most_domains 0) =
    slice_eq-Decides Decides-eqb _ _ _ (rw c.masks_of.ensures at c.eq.ensures) in
    same_from_decides _ _ same (all_valid c.args.plan (search rules))
