-- `move_to_front` meets its contract. The loop's invariant: the ways passed lack the entry and have moved on by one,
-- and the last of them is carried. Assumes nothing.
use Prim.Native.Nat.{ℕ, ◌≤◌, ◌<◌}
use mathlib.Core.Path.{◌≡◌, ap, refl, sym, ◌∙◌}
use mathlib.Core.List.{List}
use native.Mathlib.Omega.{arith}
use lib.ListN.{length, get_or}
use Rattle.cache.specs.Sets.{has}
use Rattle.cache.proofs.Ways.{search_next, shifted, shifted_here, shifted_length, shifted_next, shifted_read}
use Rattle.cache.proofs.Ways.{use_found, use_lacks}
use Rattle.cache.proofs.sets.move_to_front.Goals as goal

-- there are as many ways as at first
here-length :
    (entry way : ℕ) (set now : List ℕ) → way ≤ length set → now ≡ shifted entry way set → length now ≡ length set
here-length entry way set now within is = ap length is ∙ shifted_length entry way set within

-- the way that is looked at holds what it held at first
held-here :
    (entry way : ℕ) (set now : List ℕ)
    → way < length set → now ≡ shifted entry way set → get_or now way 0 ≡ get_or set way 0
held-here entry way set now within is = rw is (shifted_here entry way set within)

pub loop-way-init : goal.loop-way-init
unfolding has
loop-way-init c = (omega arith, refl, refl, refl)

pub returns-then-held-entry : goal.returns-then-held-entry
returns-then-held-entry c =
    let args = c.args in
    let l = c.loop-way in
    let many = here-length args.entry l.way-index args.set.now l.set l.invariant.0 l.invariant.1 in
    let within : l.way-index < length args.set.now = omega (arith, many) in
    let here = held-here args.entry l.way-index args.set.now l.set within l.invariant.1 in
    let found = use_found args.entry l.way-index args.set.now within l.invariant.3 (sym here ∙ c.if-held-entry.true) in
    (found.0, rw (l.invariant.1, l.invariant.2) (shifted_next args.entry l.way-index args.set.now within) ∙ found.1)

pub loop-way-preserved : goal.loop-way-preserved
loop-way-preserved c =
    let args = c.args in
    let l = c.loop-way in
    let many = here-length args.entry l.way-index args.set.now l.set l.invariant.0 l.invariant.1 in
    let within : l.way-index < length args.set.now = omega (arith, many) in
    let here = held-here args.entry l.way-index args.set.now l.set within l.invariant.1 in (
      omega arith,
      rw (l.invariant.1, l.invariant.2) (shifted_next args.entry l.way-index args.set.now within),
      rw l.invariant.1 (shifted_read args.entry l.way-index args.set.now within),
      search_next args.entry l.way-index args.set.now within l.invariant.3 (λ is. c.if-held-entry.false (here ∙ is)),
    )

pub returns : goal.returns
returns c =
    let args = c.args in
    let l = c.loop-way in
    let many = here-length args.entry l.way-index args.set.now l.set l.invariant.0 l.invariant.1 in
    let all : l.way-index ≡ length args.set.now = omega (arith, many) in
    let lacks = use_lacks args.entry l.way-index args.set.now (omega arith) l.invariant.3 in
    (lacks.0, l.invariant.1 ∙ ap (λ (way : ℕ). shifted args.entry way args.set.now) all ∙ lacks.1)
