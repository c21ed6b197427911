-- `ops::touch` meets its contract. Assumes nothing.
use mathlib.Core.Path.{◌∙◌, sym}
use Rattle.ops.proofs.Operations.{touch_access, touch_barred}
use Rattle.ops.proofs.touch.Goals as goal

pub returns-then-not-owns_line : goal.returns-then-not-owns_line
returns-then-not-owns_line c =
    λ plan boxes handed.
    touch_barred _ _ _ _ _ boxes (sym (c.owns_line.ensures.1 plan handed) ∙ c.if-not-owns_line.true)

pub returns : goal.returns
returns c =
    let test = c in
    let access = c.access-accessed in
    λ plan boxes handed.
    touch_access _ _ _ _ _ boxes _ _ _ _ _
    (sym (test.owns_line.ensures.1 plan handed) ∙ test.if-not-owns_line.false)
    access.ensures.1 access.ensures.0 c.access_observation.ensures
    access.ensures.2 access.ensures.3
