-- `state::table_validity::ways_valid` meets its contract. The loop's invariant: what is left decides the answer.
-- Assumes nothing.
use mathlib.Core.Bool.{false}
use mathlib.Core.Path.{◌≡◌, ◌∙◌, refl, sym}
use Prim.Native.Nat.{◌+◌, ◌-◌}
use lib.Dec.{eqb}
use lib.ListN.{drop, length, take}
use Rattle.std.proofs.Common.{rules, tests}
use Rattle.std.proofs.lemmas.Iterator.{YieldsList-from_slice}
use Rattle.std.proofs.lemmas.Iterator.Search.{all_from_yields_List}
use Rattle.std.specs.List.{list_all}
use borrow.Author.Tests.{eq-eqb, ne_eqb}
use Rattle.state.specs.TableValidity.{ways_valid}
use Rattle.state.proofs.Empties.{all_zero}
use Rattle.state.proofs.TableLaws.{decides_end, decides_here, decides_next, rest_whole}
use Rattle.state.proofs.table_validity.ways_valid.Goals as goal

pub returns-then-ways-way-eq0 : goal.returns-then-ways-way-eq0
unfolding ways_valid
returns-then-ways-way-eq0 c =
    let loop = c.loop-way in
    let ways = c.args.ways.now in
    let behind = take (length ways - (loop.way + 1)) (drop (loop.way + 1) ways) in
    let none : c.all.result ≡ list_all (λ number. eqb number 0) behind =
    all_from_yields_List _ _ _ _ c.all.ensures.ran (YieldsList-from_slice behind cc) (λ x b q k. search (rules, tests)) in
    decides_here (ways_valid _) _ loop.way _ c.loop-way-test.true loop.invariant
    (rw (eq-eqb _ _ c.if-ways-way-eq0.true, none, all_zero, rest_whole) refl)

pub returns-then-not-way_valid : goal.returns-then-not-way_valid
unfolding ways_valid
returns-then-not-way_valid c =
    let loop = c.loop-way in
    decides_here (ways_valid _) _ loop.way false c.loop-way-test.true loop.invariant
    (rw (ne_eqb _ _ c.if-ways-way-eq0.false, sym c.way_valid.ensures ∙ c.if-not-way_valid.true)
    refl)

pub loop-way-preserved : goal.loop-way-preserved
unfolding ways_valid
loop-way-preserved c =
    let loop = c.loop-way in
    decides_next (ways_valid _) _ loop.way c.loop-way-test.true loop.invariant
    (rw (ne_eqb _ _ c.if-ways-way-eq0.false, sym c.way_valid.ensures ∙ c.if-not-way_valid.false)
    refl)

pub returns : goal.returns
unfolding ways_valid
returns c = decides_end (ways_valid _) _ _ c.loop-way-test.false c.loop-way.invariant
