-- What the frame maker takes: each clause of it, that the total of such weights is not 0, and that it is
-- what lies within the limits. Assumes nothing.
use Prim.Native.Nat.{ℕ, ◌*◌, ◌≤◌, ◌<◌}
use mathlib.Core.Bool.{Bool, true, false, not, false≢true, ◌&&◌}
use mathlib.Core.List.{List}
use mathlib.Core.Path.{◌≡◌, refl, sym, ◌∙◌}
use native.Mathlib.Omega.{arith}
use lib.Dec.{eqb, ltb}
use borrow.Author.Tests.{eq-eqb, eqb-false, eqb-true, le-leb, le-ltb, leb-true, lt-ltb}
use Rattle.lists.proofs.Tests.{both, both_pass}
use Rattle.plan.specs.Limits.{least_windows, most_domains, most_windows}
use Rattle.plan.specs.Sums.{sum_to}
use Rattle.plan.specs.Validity.{within}
use Rattle.plan.proofs.Sums.{all_below_lem, below_all, sum_most}
use Rattle.frame.specs.Frame.{inputs_valid, weights_within, weights_zero}
use Rattle.frame.specs.Limits.{most_weight}
use Rattle.frame.specs.Quotas.{entry_of, total_weight}
use Rattle.frame.specs.Theorems.{WithinLimits}
use Rattle.frame.proofs.Counting.{term_most}

pub weight_within :
    (weights : List ℕ) (domain : ℕ)
    → weights_within weights ≡ true
    → domain < most_domains
    → entry_of weights domain ≤ most_weight
unfolding weights_within
weight_within weights domain all below = leb-true _ _ (all_below_lem _ most_domains domain all below)

-- a total of 0 is of weights that are all 0
zero_total : (weights : List ℕ) → total_weight weights ≡ 0 → weights_zero weights ≡ true
unfolding total_weight weights_zero
zero_total weights none =
    below_all _ most_domains (λ domain below.
    let most = term_most (entry_of weights) most_domains domain below in
    eq-eqb (entry_of weights domain) 0 (omega arith))

-- and weights that are all 0 have it
zero_each :
    (weights : List ℕ)
    → weights_zero weights ≡ true
    → (domain : ℕ)
    → domain < most_domains
    → entry_of weights domain ≡ 0
unfolding weights_zero
zero_each weights all domain below = eqb-true _ _ (all_below_lem _ most_domains domain all below)

total_zero : (weights : List ℕ) → weights_zero weights ≡ true → total_weight weights ≡ 0
unfolding total_weight
total_zero weights all =
    let most : sum_to (entry_of weights) most_domains ≤ 0 * most_domains =
    sum_most (entry_of weights) 0 most_domains (λ domain below. let none = zero_each weights all domain below in omega arith) in
    omega arith

some_total : (weights : List ℕ) → weights_zero weights ≡ false → 0 < total_weight weights
some_total weights some = go (eqb (total_weight weights) 0) refl
  where
    go : (b : Bool) → eqb (total_weight weights) 0 ≡ b → 0 < total_weight weights
    go true e = absurd (false≢true (sym some ∙ zero_total weights (eqb-true _ _ e)))
    go false e = let differs : (total_weight weights ≡ 0 → ⊥) = eqb-false _ _ e in omega arith

-- a total that is not 0 is of weights that are not all 0
total_some : (weights : List ℕ) → ltb 0 (total_weight weights) ≡ not (weights_zero weights)
total_some weights = go (weights_zero weights) refl
  where
    go : (b : Bool) → weights_zero weights ≡ b → ltb 0 (total_weight weights) ≡ not b
    go true all = le-ltb 0 (total_weight weights) (rw (total_zero weights all) (omega arith))
    go false some = lt-ltb 0 (total_weight weights) (some_total weights some)

-- ---- the test, from its parts

pub heavy_invalid : (count : ℕ) (weights : List ℕ) → weights_within weights ≡ false → false ≡ inputs_valid count weights
unfolding inputs_valid
heavy_invalid count weights heavy = rw heavy (sym (go (within least_windows most_windows count)))
  where
    go : (b : Bool) → ((b && false) && not (weights_zero weights)) ≡ false
    go true = refl
    go false = refl

pub light_valid :
    (count : ℕ) (weights : List ℕ) (total : ℕ)
    → weights_within weights ≡ true
    → total ≡ total_weight weights
    → (within least_windows most_windows count && ltb 0 total) ≡ inputs_valid count weights
unfolding inputs_valid
light_valid count weights total light is =
    rw (is, light, total_some weights) (sym (go (within least_windows most_windows count)))
  where
    go : (b : Bool) → ((b && true) && not (weights_zero weights)) ≡ (b && not (weights_zero weights))
    go true = refl
    go false = refl

-- what the proofs need of it
pub record Taken (count : ℕ) (weights : List ℕ) : Type 0 where
  pub most : count ≤ most_windows
  pub within : weights_within weights ≡ true
  pub total : 0 < total_weight weights

-- a negated test that passes
denied : (b : Bool) → not b ≡ true → b ≡ false
denied true fails = sym fails
denied false fails = refl

record Clauses (count : ℕ) (weights : List ℕ) : Type 0 where
  least : least_windows ≤ count
  most : count ≤ most_windows
  within : weights_within weights ≡ true
  some : weights_zero weights ≡ false

clauses : (count : ℕ) (weights : List ℕ) → inputs_valid count weights ≡ true → Clauses count weights
unfolding inputs_valid
clauses count weights valid =
    let outer = both _ _ valid in
    let inner = both _ _ outer.0 in
    let counts = both _ _ inner.0 in
    record {
      least = leb-true _ _ counts.0;
      most = leb-true _ _ counts.1;
      within = inner.1;
      some = denied (weights_zero weights) outer.1;
    }

pub taken : (count : ℕ) (weights : List ℕ) → inputs_valid count weights ≡ true → Taken count weights
taken count weights valid =
    let parts = clauses count weights valid in
    record { most = parts.most; within = parts.within; total = some_total weights parts.some }

-- ---- the limits, number by number

each_zero :
    (weights : List ℕ)
    → ((domain : ℕ) → domain < most_domains → entry_of weights domain ≡ 0)
    → weights_zero weights ≡ true
unfolding weights_zero
each_zero weights none = below_all _ most_domains (λ domain below. eq-eqb (entry_of weights domain) 0 (none domain below))

some_weight :
    (weights : List ℕ)
    → (((domain : ℕ) → domain < most_domains → entry_of weights domain ≡ 0) → ⊥)
    → not (weights_zero weights) ≡ true
some_weight weights some = go (weights_zero weights) refl
  where
    go : (b : Bool) → weights_zero weights ≡ b → not b ≡ true
    go true e = absurd (some (zero_each weights e))
    go false e = refl

pub limits_valid :
    (count : ℕ) (weights : List ℕ)
    → WithinLimits count weights
    → inputs_valid count weights ≡ true
unfolding inputs_valid weights_within
limits_valid count weights limits =
    both_pass _ _
    (both_pass _ _ (both_pass _ _ (le-leb _ _ limits.least) (le-leb _ _ limits.most))
    (below_all _ most_domains (λ domain below. le-leb _ _ (limits.light domain below))))
    (some_weight weights limits.not_all_zero)

pub valid_limits :
    (count : ℕ) (weights : List ℕ)
    → inputs_valid count weights ≡ true
    → WithinLimits count weights
valid_limits count weights valid =
    let parts = clauses count weights valid in
    record {
      least = parts.least;
      most = parts.most;
      light = λ domain below. weight_within weights domain parts.within below;
      not_all_zero = λ none. false≢true (sym parts.some ∙ each_zero weights none);
    }
