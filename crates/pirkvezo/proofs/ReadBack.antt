-- The plan that a host lends to the other calls is the plan that was read: the arrays of a plan
-- that the reader gives have their lengths.
-- Assumes nothing.
use mathlib.Core.Path.{refl}
use mathlib.Core.List.{List}
use Prim.Native.Nat.{ℕ}
use Rattle.plan.specs.Limits.{most_domains}
use Rattle.plan.specs.Parts.{with_masks}
use Rattle.plan.specs.Zeros.{no_plan}
use Rattle.plan.proofs.MaskLists.{masks_length}
use Rattle.reader.specs.Final.{plan_with_masks}
use Rattle.reader.specs.Read.{lines_of, read_of}
use Rattle.reader.proofs.Accepted.{read_holds}
use Rattle.reader.proofs.Walking.{lines_good}
use Rattle.pirkvezo.specs.Theorems.{ReadPlanReturns}
use Rattle.pirkvezo.proofs.Whole.{PlanLengths, plan_again}

-- the plan of all zeros
zeros_long : PlanLengths no_plan
unfolding no_plan
zeros_long = record { shares = refl; rights = refl; owners = refl; lengths = refl; masks = refl }

-- every reading, refused or not, gives a plan whose arrays have their lengths
pub read_long : (text scripts : List ℕ) → PlanLengths (read_of text scripts).plan
unfolding plan_with_masks with_masks
read_long text scripts =
    let good = (lines_good text).0 in
    read_holds (λ read. PlanLengths read.plan) text scripts (λ why. zeros_long)
    (λ fits final.
    record {
      shares = good.domains.shares_size;
      rights = good.domains.rights_size;
      owners = good.windows.owners_size;
      lengths = good.windows.lengths_size;
      masks = masks_length (lines_of text).draft.plan most_domains 0;
    })

-- so the numbers of the plan that was read stand for that plan
pub read_back : ReadPlanReturns
read_back text scripts = plan_again (read_of text scripts).plan (read_long text scripts)
