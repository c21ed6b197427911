-- `planrun::main` meets its contract: what is printed for any text has room in the buffer. Assumes nothing.
use Prim.Native.Nat.{ℕ, ◌+◌, ◌≤◌}
use native.Mathlib.Omega.{arith}
use mathlib.Core.List.{List}
use mathlib.Core.Path.{◌≡◌, sym}
use lib.ListN.{length}
use lib.Seq.{length-take-le}
use Rattle.report.specs.Limits.{most_printed}
use Rattle.report.specs.Planrun.{planrun_of}
use Rattle.report.proofs.Length.{planrun_fits}
use Rattle.planrun.proofs.main.Goals as goal

-- of a number that is said to be the length of what is printed
printed_most : (text : List ℕ) {count : ℕ} → count ≡ 0 + length (planrun_of text) → count ≤ most_printed
printed_most text is = omega (arith, is, planrun_fits text)

pub slice_bounds-out-end : goal.slice_bounds-out-end
slice_bounds-out-end c = omega (arith, printed_most _ c.plan_lines-written.ensures.0, c.plan_lines-written.auto.out)

pub slice_bounds-write_all-end : goal.slice_bounds-write_all-end
slice_bounds-write_all-end c =
    sym
    (length-take-le _ _
    (omega (arith, printed_most _ c.plan_lines-written.ensures.0, c.plan_lines-written.auto.out)))
