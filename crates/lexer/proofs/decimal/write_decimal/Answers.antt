-- `lexer::decimal::write_decimal` meets its contract. The loop's invariant: the digits of what is left, then those made, are the number's.
-- Assumes nothing.
use mathlib.Core.List.{append-nil}
use mathlib.Core.Path.{◌∙◌, refl, sym}
use native.Mathlib.Omega.{arith}
use lib.ListN.{length-set, length-take}
use borrow.Author.Rules.{rules}
use Rattle.lexer.specs.Decimal.{decimal_of}
use Rattle.lexer.specs.Limits.{widest_digits}
use Rattle.lexer.proofs.DigitsMade.{digit_made, front_fits, last_digit_made}
use Rattle.lexer.proofs.decimal.write_decimal.Goals as goal

pub loop-left-init : goal.loop-left-init
unfolding decimal_of
loop-left-init c = (search rules, search rules, omega arith, refl, sym (append-nil _))

pub loop-left-preserved : goal.loop-left-preserved
loop-left-preserved c =
    let l = c.loop-left in
    let large = c.loop-left-test.true in
    let fits = front_fits l.first l.left large l.invariant.2 in (
      omega arith,
      omega arith,
      fits.0,
      simp length-set l.invariant.3,
      l.invariant.4 ∙ digit_made l.first l.left l.digits large l.invariant.0 (omega arith),
    )

pub slice_bounds-write_bytes-end : goal.slice_bounds-write_bytes-end
slice_bounds-write_bytes-end c = simp length-set (omega arith)

pub write_bytes-requires : goal.write_bytes-requires
write_bytes-requires c = simp length-take (omega arith)

pub returns : goal.returns
returns c =
    let l = c.loop-left in
    let small = c.loop-left-test.false in
    let made = l.invariant.4 ∙ last_digit_made l.first l.left widest_digits l.digits small l.invariant.0 l.invariant.1 l.invariant.3 in
    rw made c.write_bytes.ensures
