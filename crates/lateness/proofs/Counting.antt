-- Counting the numbers of a part of a table that pass a test, index by index: at most where they may, and
-- at least where they must. Assumes nothing.
use Prim.Native.Nat.{ℕ, zero, suc, ◌+◌, ◌≤◌, ◌<◌}
use mathlib.Core.Bool.{Bool, true, false, cond, false≢true}
use mathlib.Core.List.{List}
use mathlib.Core.Path.{◌≡◌, refl, ap, ◌∙◌}
use native.Mathlib.Numerals.{add-one}
use native.Mathlib.Omega.{arith}
use lib.ListN.{get_or, length}
use Rattle.lists.specs.Part.{part}
use Rattle.plan.specs.Sums.{sum_to}
use Rattle.plan.proofs.Sums.{sum_under}
use Rattle.cache.specs.Flush.{count_where}
use Rattle.cache.proofs.Counts.{count_more, count_none}

-- one for a test that passes
abbrev pub one : Bool → ℕ
one passes = cond passes 1 0

pub one_most : (passes : Bool) → one passes ≤ 1
one_most true = omega arith
one_most false = omega arith

-- a test that passes only where another does
one_under : (first second : Bool) → (first ≡ true → second ≡ true) → one first ≤ one second
one_under true true only = omega arith
one_under true false only = absurd (false≢true (only refl))
one_under false second only = omega arith

module _ (test : ℕ → Bool) (first : ℕ) (table : List ℕ) where
  -- the count is a sum over the part's indices
  pub count_is : (count : ℕ) → first + count ≤ length table
      → sum_to (λ index. one (test (get_or table (first + index) 0))) count ≡ count_where test (part first count table)
  unfolding sum_to
  count_is zero within = count_none test first table
  count_is (suc count) within =
      count_more test first count _ _ table (omega arith) (count_is count (omega arith)) refl
      ∙ ap (λ (n : ℕ). count_where test (part first n table)) (add-one count)

  module _ (count : ℕ) (within : first + count ≤ length table) (named : ℕ → Bool) where
    pub count_under :
        ((index : ℕ) → index < count → test (get_or table (first + index) 0) ≡ true → named index ≡ true)
        → count_where test (part first count table) ≤ sum_to (λ index. one (named index)) count
    count_under only =
        omega (
          arith,
          count_is count within,
          sum_under (λ index. one (test (get_or table (first + index) 0))) (λ index. one (named index)) count
              (λ index below. one_under _ _ (only index below)),
        )

    pub count_over :
        ((index : ℕ) → index < count → named index ≡ true → test (get_or table (first + index) 0) ≡ true)
        → sum_to (λ index. one (named index)) count ≤ count_where test (part first count table)
    count_over each =
        omega (
          arith,
          count_is count within,
          sum_under (λ index. one (named index)) (λ index. one (test (get_or table (first + index) 0))) count
              (λ index below. one_under _ _ (each index below)),
        )
