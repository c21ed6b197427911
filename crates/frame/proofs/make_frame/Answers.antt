-- `frame::make_frame` meets its contract. Assumes nothing.
use mathlib.Core.Path.{◌∙◌, sym}
use Rattle.frame.proofs.Making.{made_fits, made_frame, made_refused}
use Rattle.frame.proofs.make_frame.Goals as goal

pub returns-then-not-is_valid : goal.returns-then-not-is_valid
returns-then-not-is_valid c = made_refused _ _ (sym c.is_valid.ensures ∙ c.if-not-is_valid.true)

pub windows_of-windows-requires : goal.windows_of-windows-requires
windows_of-windows-requires c = sym c.is_valid.ensures ∙ c.if-not-is_valid.false

pub lay_turns-frame-requires : goal.lay_turns-frame-requires
lay_turns-frame-requires c =
    made_fits _ _ c.windows_of-windows.result (sym c.is_valid.ensures ∙ c.if-not-is_valid.false) c.windows_of-windows.ensures

pub returns : goal.returns
returns c =
    made_frame _ _ c.windows_of-windows.result (sym c.is_valid.ensures ∙ c.if-not-is_valid.false) c.windows_of-windows.ensures _
    c.lay_turns-frame.ensures
