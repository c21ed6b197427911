-- `plan::validity::declared_valid` meets its contract. Assumes nothing.
use mathlib.Core.Path.{◌∙◌, refl, sym}
use native.Mathlib.Omega.{arith}
use Rattle.plan.specs.Validity.{declared_valid}
use Rattle.plan.proofs.Bits.{one_shifted}
use Rattle.plan.proofs.validity.declared_valid.Goals as goal

pub returns-then-not-is_within : goal.returns-then-not-is_within
unfolding declared_valid
returns-then-not-is_within c = let outside = sym c.is_within.ensures ∙ c.if-not-is_within.true in rw outside refl

pub returns : goal.returns
unfolding declared_valid
returns c =
    let start = c in
    let within = sym c.is_within.ensures ∙ c.if-not-is_within.false in
    rw (within, c.colours_of-colours.ensures, c.has_bit-own.ensures, one_shifted start.args.plan.domains (omega (arith, start.requires))) refl
