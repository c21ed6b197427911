-- `op_of` meets its contract: with its kind known, the definition is down to that kind's test. Assumes nothing.
use mathlib.Core.Bool.{Bool, true, false}
use mathlib.Core.Path.{◌≡◌, refl, ◌∙◌}
use native.Mathlib.Omega.{arith}
use borrow.Author.Tests.{ne_eqb}
use Rattle.std.specs.Prelude.{cond, Some, None}
use Rattle.std.specs.Bool.{then_some}
use Rattle.script.specs.Fetch.{op_of}
use Rattle.script.proofs.op_of.Goals as goal

-- some value by a test is that value, or none
by_test : {A : Type 0} (test : Bool) (value : A) → then_some test value ≡ cond test (Some value) None
by_test true value = refl
by_test false value = refl

pub returns-in-1 : goal.returns-in-1
unfolding op_of
returns-in-1 c = simp (c.in-1.is) (c.then_some.ensures ∙ by_test _ _)

pub returns-in-2 : goal.returns-in-2
unfolding op_of
returns-in-2 c = simp (c.in-2.is) (c.then_some-in-2.ensures ∙ by_test _ _)

pub returns-in-3 : goal.returns-in-3
unfolding op_of
returns-in-3 c = simp (c.in-3.is) (c.then_some-in-3.ensures ∙ by_test _ _)

pub returns-in-4 : goal.returns-in-4
unfolding op_of
returns-in-4 c = simp (c.in-4.is) (c.then_some-in-4.ensures ∙ by_test _ _)

pub returns-then-other-value : goal.returns-then-other-value
unfolding op_of
returns-then-other-value c = simp (c.in-5.is, c.if-other-value.true)

pub returns-else-other-value : goal.returns-else-other-value
unfolding op_of
returns-else-other-value c = simp (c.in-5.is, c.if-other-value.false)

pub returns-in_default : goal.returns-in_default
unfolding op_of
returns-in_default c =
    let other_kind = c.in_default in
    let kind = c.args.kind in
    simp (
      ne_eqb kind 1 (omega arith),
      ne_eqb kind 2 (omega arith),
      ne_eqb kind 3 (omega arith),
      ne_eqb kind 4 (omega arith),
      ne_eqb kind 5 (omega arith),
    )
