-- `frame::validity::is_valid` meets its contract. Assumes nothing.
use mathlib.Core.Path.{◌∙◌, sym}
use Rattle.frame.proofs.Taken.{heavy_invalid, light_valid}
use Rattle.frame.proofs.validity.is_valid.Goals as goal

pub returns-then-not-weights_within : goal.returns-then-not-weights_within
returns-then-not-weights_within c = heavy_invalid _ _ (sym c.weights_within.ensures ∙ c.if-not-weights_within.true)

pub total_weight-total-requires : goal.total_weight-total-requires
total_weight-total-requires c = sym c.weights_within.ensures ∙ c.if-not-weights_within.false

pub returns : goal.returns
returns c =
    light_valid _ _ _ (sym c.weights_within.ensures ∙ c.if-not-weights_within.false) c.total_weight-total.ensures
