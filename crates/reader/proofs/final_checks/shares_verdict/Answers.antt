-- `reader::final_checks::shares_verdict` meets its contract. Assumes nothing.
use borrow.Author.Tests.{lt-ltb, le-ltb}
use Rattle.reader.specs.Final.{shares_verdict}
use Rattle.reader.proofs.final_checks.shares_verdict.Goals as goal

pub returns-then-shares : goal.returns-then-shares
unfolding shares_verdict
returns-then-shares c = simp (← c.shares_total-shares.ensures, lt-ltb _ _ c.if-shares.true)

pub returns-then-colours : goal.returns-then-colours
unfolding shares_verdict
returns-then-colours c =
    simp (
      ← c.shares_total-shares.ensures,
      le-ltb _ _ c.if-shares.false,
      ← c.colours_total-colours.ensures,
      lt-ltb _ _ c.if-colours.true,
    )

pub returns-then-colourless-plan : goal.returns-then-colourless-plan
unfolding shares_verdict
returns-then-colourless-plan c =
    simp (
      ← c.shares_total-shares.ensures,
      le-ltb _ _ c.if-shares.false,
      ← c.colours_total-colours.ensures,
      le-ltb _ _ c.if-colours.false,
      ← c.first_colourless-colourless.ensures,
      lt-ltb _ _ c.if-colourless-plan.true,
    )

pub returns : goal.returns
unfolding shares_verdict
returns c =
    simp (
      ← c.shares_total-shares.ensures,
      le-ltb _ _ c.if-shares.false,
      ← c.colours_total-colours.ensures,
      le-ltb _ _ c.if-colours.false,
      ← c.first_colourless-colourless.ensures,
      le-ltb _ _ c.if-colourless-plan.false,
    )
