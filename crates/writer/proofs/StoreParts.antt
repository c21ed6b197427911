-- What a part of the store holds past its ops, by how many ops it has. Assumes nothing.
use Prim.Native.Nat.{ℕ, zero, suc, ◌+◌, ◌<◌, ◌≤◌}
use native.Mathlib.Numerals.{add-one}
use native.Mathlib.Omega.{arith}
use mathlib.Core.Bool.{Bool, ◌&&◌, ◌||◌}
use mathlib.Core.List.{List}
use mathlib.Core.Path.{◌≡◌, ap, ap₂, refl, sym, ◌∙◌}
use borrow.Author.Tests.{le-ltb, lt-ltb}
use lib.Dec.{eqb, ltb}
use lib.ListN.{drop, get_or, length, length-drop, take}
use Rattle.std.specs.List.{list_all, range_with_len}
use Rattle.std.proofs.lemmas.List.{get_or-drop}
use Rattle.std.proofs.lemmas.List.Folds.{list_all_more}
use Rattle.plan.proofs.Sums.{below_all}
use Rattle.plan.specs.Limits.{most_domains}
use Rattle.plan.specs.Sums.{all_below}

-- a test of each domain, by the range of their numbers
pub each_entry :
    (test : ℕ → Bool)
    → all_below (λ index. test (get_or (range_with_len 0 most_domains) index 0)) most_domains ≡ all_below test most_domains
unfolding all_below
each_entry test = refl

-- the numbers past the first ones of a part are 0 where each position holds one of those or 0
pub rest_zero :
    (scripts : List ℕ) (first ops more : ℕ)
    → first + ops + more ≤ length scripts
    → list_all (λ number. eqb number 0) (take more (drop (first + ops) scripts))
    ≡ all_below (λ position. ltb position ops || eqb (get_or scripts (first + position) 0) 0) (ops + more)
unfolding all_below
rest_zero scripts first ops zero within =
    sym (below_all _ (ops + 0) (λ position below. rw (lt-ltb position ops (omega arith)) refl))
rest_zero scripts first ops (suc more) within =
    let rest : List ℕ = drop (first + ops) scripts in
    let test : ℕ → Bool = λ position. ltb position ops || eqb (get_or scripts (first + position) 0) 0 in
    let long : more < length rest = omega (arith, length-drop (first + ops) scripts) in
    let same : get_or rest more 0 ≡ get_or scripts (first + (ops + more)) 0 =
    get_or-drop (first + ops) scripts more 0
    ∙ ap (λ (index : ℕ). get_or scripts index 0) (omega arith) in
    let here : eqb (get_or rest more 0) 0 ≡ test (ops + more) =
    rw (le-ltb (ops + more) ops (omega arith)) (ap (λ (number : ℕ). eqb number 0) same) in
    let up : suc (ops + more) ≡ ops + suc more = omega arith in
    let step : list_all (λ number. eqb number 0) (take (suc more) rest)
    ≡ (list_all (λ number. eqb number 0) (take more rest) && eqb (get_or rest more 0) 0) =
    rw (← add-one more) (list_all_more (λ number. eqb number 0) rest more 0 long) in
    step ∙ ap₂ (λ (a b : Bool). a && b) (rest_zero scripts first ops more (omega arith)) here
    ∙ ap (all_below test) up
