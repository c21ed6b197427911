-- Document 02, E2: when 16 is told, said of what the lines of a text gave. Assumes nothing.
use Rattle.std.specs.Prelude.{ℕ, ◌<◌, ◌≤◌, false, [], ◌≡◌, Err}
use Rattle.plan.specs.Colours.{colours_total, shares_total}
use Rattle.plan.specs.Limits.{domain_colours, most_domains, most_shares}
use Rattle.plan.specs.Theorems.{most_colours_total}
use Rattle.refusal.specs.declared.Refusal.TheVariants.{ColoursOverFifteen}
use Rattle.reader.specs.declared.Draft.{Draft}
use Rattle.reader.specs.Final.{final_verdict, lacking, undeclared_mentions}

-- the checks before 16 pass (5, 4 and 7), and the shares give more colours than there are
pub record OverFifteen (draft : Draft) : Type 0 where
  pub nothing_lacking : lacking draft.plan ≡ false
  pub all_declared : undeclared_mentions draft.named draft.plan.domains ≡ []
  pub shares : shares_total draft.plan draft.plan.domains ≤ most_shares
  pub over : domain_colours < colours_total draft.plan

-- then a text whose lines were all taken is refused with 16 and the colours' total, whatever else is
-- wrong with it; and it is refused with 16 only then, never with more than 19 beside it
pub record SixteenExactly (text_length : ℕ) (draft : Draft) : Type 0 where
  pub told :
      OverFifteen draft
      → final_verdict text_length draft ≡ Err (ColoursOverFifteen (colours_total draft.plan))
  pub only :
      (colours : ℕ)
      → final_verdict text_length draft ≡ Err (ColoursOverFifteen colours)
      → OverFifteen draft × (colours ≡ colours_total draft.plan)
  pub at_most :
      (colours : ℕ)
      → draft.plan.domains ≤ most_domains
      → final_verdict text_length draft ≡ Err (ColoursOverFifteen colours)
      → colours ≤ most_colours_total

abbrev pub SixteenTold : Type 0
SixteenTold = (text_length : ℕ) (draft : Draft) → SixteenExactly text_length draft
