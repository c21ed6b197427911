-- `writer::lines::write_recipient` meets its contract. Assumes nothing.
use mathlib.Core.Path.{◌∙◌, refl, sym}
use native.Mathlib.Omega.{arith}
use Rattle.lists.specs.Ascii.{bytes_of}
use Rattle.writer.proofs.lines.write_recipient.Goals as goal

pub returns-then-not-has_bit : goal.returns-then-not-has_bit
returns-then-not-has_bit c = rw (sym c.has_bit.ensures ∙ c.if-not-has_bit.true) (omega arith, refl)

pub returns : goal.returns
unfolding bytes_of
returns c =
    let at5 = c in
    let at6 = at5 in
    rw (sym at6.has_bit.ensures ∙ at5.if-not-has_bit.false) c.write_numbered.ensures
