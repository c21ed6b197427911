-- `state::table_validity::way_valid` meets its contract. Assumes nothing.
use mathlib.Core.Path.{◌∙◌, refl, sym}
use native.Mathlib.Omega.{arith}
use lib.ListN.{get_or}
use Rattle.state.proofs.TableLaws.{any_equal, line_limits, rest_whole}
use Rattle.state.proofs.table_validity.way_valid.Goals as goal

pub returns-then-not-is_line : goal.returns-then-not-is_line
returns-then-not-is_line c = rw (sym c.is_line.ensures ∙ c.if-not-is_line.true) refl

pub overflow_sub-result : goal.overflow_sub-result
overflow_sub-result c =
    (line_limits _ (sym c.is_line.ensures ∙ c.if-not-is_line.false)).0

pub overflow_cast-result : goal.overflow_cast-result
overflow_cast-result c =
    let args = c.args in
    let line = sym c.is_line.ensures ∙ c.if-not-is_line.false in
    omega (arith, line_limits (get_or args.ways.now args.way 0) line)

pub returns : goal.returns
returns c =
    let line = sym c.is_line.ensures ∙ c.if-not-is_line.false in
    rw (line, c.contains-repeated.ensures.value, any_equal (get_or c.args.ways.now c.args.way 0), rest_whole) refl
