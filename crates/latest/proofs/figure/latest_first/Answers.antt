-- `latest::figure::latest_first` meets its contract. Assumes nothing.
use mathlib.Core.Bool.{false, true}
use mathlib.Core.Path.{◌∙◌, ◌≡◌, refl, sym}
use Prim.Native.Nat.{◌≤◌}
use native.Mathlib.Omega.{arith}
use Rattle.cache.specs.Lines.{l1_length, sets_per_colour}
use Rattle.latest.specs.Latest.{latest_alone, latest_apart, latest_meeting, latest_first}
use Rattle.latest.specs.Reach.{has_box, meets_kernel}
use Rattle.latest.proofs.Ranges.{apart_most, domain_below, own_lines}
use Rattle.latest.proofs.figure.latest_first.Goals as goal

pub has_box-requires : goal.has_box-requires
has_box-requires c = domain_below _ _ c.requires

pub late_by-requires : goal.late_by-requires
late_by-requires c = (omega arith, omega arith, (let it : c.own_indices-own.result ≤ l1_length = omega (arith, (own_lines _ _ c.requires).indices_most, c.own_indices-own.ensures) in it))

pub returns-then-not-has_box : goal.returns-then-not-has_box
unfolding latest_first latest_alone
returns-then-not-has_box c = c.late_by.ensures ∙ rw (c.own_indices-own.ensures, (let it : has_box c.args.plan c.args.domain ≡ false = sym c.has_box.ensures ∙ c.if-not-has_box.true in it)) refl

pub overflow_sub-own : goal.overflow_sub-own
overflow_sub-own c = omega (arith, (let it : sets_per_colour ≤ c.own_indices-own.result = omega (arith, (own_lines _ _ c.requires).indices_least, c.own_indices-own.ensures) in it))

pub late_by-requires-then-meets_kernel : goal.late_by-requires-then-meets_kernel
late_by-requires-then-meets_kernel c = (
  omega arith,
  omega arith,
  omega (
    arith,
    (let it : c.own_indices-own.result ≤ l1_length = omega
        (arith, (own_lines _ _ c.requires).indices_most, c.own_indices-own.ensures) in it),
  ),
)

pub returns-then-meets_kernel : goal.returns-then-meets_kernel
unfolding latest_first latest_meeting
returns-then-meets_kernel c =
    c.late_by-then-meets_kernel.ensures
    ∙ rw (
      c.own_indices-own.ensures,
      (let it : has_box c.args.plan c.args.domain ≡ true = sym c.has_box.ensures
          ∙ c.if-not-has_box.false in it),
      (let it : meets_kernel c.args.plan c.args.domain ≡ true = sym c.meets_kernel.ensures
          ∙ c.if-meets_kernel.true in it),
    ) refl

pub late_by-requires-2 : goal.late_by-requires-2
late_by-requires-2 c = (
  omega arith,
  omega arith,
  omega (
    arith,
    apart_most _ _
        (let it : meets_kernel c.args.plan c.args.domain ≡ false = sym c.meets_kernel.ensures
        ∙ c.if-meets_kernel.false in it),
    c.own_indices-own.ensures,
  ),
)

pub returns : goal.returns
unfolding latest_first latest_apart
returns c =
    c.late_by-2.ensures
    ∙ rw (
      c.own_indices-own.ensures,
      (let it : has_box c.args.plan c.args.domain ≡ true = sym c.has_box.ensures
          ∙ c.if-not-has_box.false in it),
      (let it : meets_kernel c.args.plan c.args.domain ≡ false = sym c.meets_kernel.ensures
          ∙ c.if-meets_kernel.false in it),
    ) refl
