-- `latest::figure::latest_later` meets its contract. Assumes nothing.
use mathlib.Core.Path.{◌∙◌, refl}
use Prim.Native.Nat.{◌+◌, ◌≤◌}
use native.Mathlib.Omega.{arith}
use Rattle.cache.specs.Lines.{l1_length, ways_per_set}
use Rattle.latest.specs.Latest.{latest_later}
use Rattle.latest.proofs.Ranges.{dirty_most, domain_below}
use Rattle.latest.proofs.figure.latest_later.Goals as goal

pub box_lines-lines-requires : goal.box_lines-lines-requires
box_lines-lines-requires c = domain_below _ _ c.requires

pub late_by-requires : goal.late_by-requires
late_by-requires c = (
  omega arith,
  omega (
    arith,
    (let it : c.box_lines-lines.result ≤ ways_per_set = omega
        (arith, c.box_lines-lines.ensures) in it),
  ),
  (let it : c.own_indices-own.result + c.box_indices-added.result ≤ l1_length = rw
      (c.own_indices-own.ensures, c.box_indices-added.ensures) (dirty_most _ _) in it),
)

pub returns : goal.returns
unfolding latest_later
returns c =
    c.late_by.ensures
    ∙ rw (c.own_indices-own.ensures, c.box_indices-added.ensures, c.box_lines-lines.ensures) refl

pub overflow_add-lines : goal.overflow_add-lines
overflow_add-lines c = omega (arith, (let it : c.box_lines-lines.result ≤ ways_per_set = omega (arith, c.box_lines-lines.ensures) in it))

pub overflow_add-own : goal.overflow_add-own
overflow_add-own c = omega (arith, (let it : c.own_indices-own.result + c.box_indices-added.result ≤ l1_length = rw (c.own_indices-own.ensures, c.box_indices-added.ensures) (dirty_most _ _) in it))
