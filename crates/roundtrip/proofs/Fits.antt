-- A written plan without ops fits into the largest text that is read. Assumes nothing.
use Prim.Native.Nat.{ℕ, zero, suc, ◌+◌, ◌≤◌}
use native.Mathlib.Omega.{arith}
use mathlib.Core.Bool.{true}
use mathlib.Core.List.{List, []}
use mathlib.Core.Path.{◌≡◌, refl, ap}
use lib.ListN.{length}
use Rattle.plan.specs.declared.Plan.{Plan}
use Rattle.plan.specs.Limits.{most_text_bytes}
use Rattle.plan.specs.Validity.{plan_valid}
use Rattle.reader.specs.Draft.{no_ops}
use Rattle.writer.specs.Canonical.{canonical_text, followed, lines_from, op_lines_from, script_lines}
use Rattle.writer.proofs.TextParts.{part_lengths}
use Rattle.roundtrip.proofs.Alone.{none_stored}

-- a store without an op has no line of an op
no_op_lines : (left domain : ℕ) → op_lines_from no_ops left domain ≡ []
unfolding op_lines_from script_lines lines_from
no_op_lines zero domain = refl
no_op_lines (suc left) domain = rw (none_stored domain) (no_op_lines left (domain + 1))

pub text_fits : (plan : Plan) → plan_valid plan ≡ true → length (canonical_text plan no_ops) ≤ most_text_bytes
unfolding followed
text_fits plan valid =
    let lengths = part_lengths plan no_ops valid in
    let none = ap (λ (lines : List (List ℕ)). length (followed lines)) (no_op_lines plan.domains 0) in
    omega (arith, lengths.sum, lengths.front, none)
