-- Quotas: whole parts and remainders add to all windows, the leftover windows find their takers, and what
-- each domain gets follows. Assumes nothing.
use Prim.Native.Nat.{ℕ, zero, suc, ◌+◌, ◌*◌, ◌-◌, ◌/◌, ◌%◌, ◌≤◌, ◌<◌, zero-le}
use mathlib.Core.Bool.{Bool, true, false, cond, ◌&&◌, ◌||◌}
use mathlib.Core.List.{List}
use mathlib.Core.Path.{◌≡◌, refl, ap, ap₂}
use native.Mathlib.Nat.{add-mul, mul-add, mul-zero, div-add-mod', le_of_mul-le-mul_right, le_of_lt, mod-lt}
use native.Mathlib.Nat.{sub-add_cancel, zero-div, zero-mod, zero-mul, one-mul}
use native.Mathlib.Omega.{arith}
use lib.Dec.{eqb, ltb}
use borrow.Author.Tests.{le-ltb, ltb-false}
use Rattle.lists.proofs.Tests.{first_passes}
use Rattle.plan.specs.Limits.{most_domains}
use Rattle.plan.specs.Sums.{sum_to}
use Rattle.plan.proofs.Sums.{sum_same}
use Rattle.frame.specs.Quotas.{ahead_of, count_below, gets_one_more, is_ahead, leftover}
use Rattle.frame.specs.Quotas.{rank, remainder_of, total_weight, entry_of, whole_part, window_count}
use Rattle.frame.proofs.Ahead.{ahead_order}
use Rattle.frame.proofs.Counting.{count_more, count_most, count_same, sum_and_count, term_most}
use Rattle.frame.proofs.Ranks.{chosen}

-- ---- single quotas

-- by a total that was worked out
pub whole_with : (count : ℕ) (weights : List ℕ) (domain total : ℕ) → total ≡ total_weight weights
    → count * entry_of weights domain / total ≡ whole_part count weights domain
unfolding whole_part
whole_with count weights domain total is = rw is

pub remainder_with : (count : ℕ) (weights : List ℕ) (domain total : ℕ) → total ≡ total_weight weights
    → count * entry_of weights domain % total ≡ remainder_of count weights domain
unfolding remainder_of
remainder_with count weights domain total is = rw is

weightless_whole :
    (count : ℕ) (weights : List ℕ) (domain : ℕ)
    → entry_of weights domain ≡ 0
    → whole_part count weights domain ≡ 0
unfolding whole_part
weightless_whole count weights domain weightless = rw (weightless, mul-zero) (zero-div (total_weight weights))

weightless_remainder :
    (count : ℕ) (weights : List ℕ) (domain : ℕ)
    → entry_of weights domain ≡ 0
    → remainder_of count weights domain ≡ 0
unfolding remainder_of
weightless_remainder count weights domain weightless = rw (weightless, mul-zero) (zero-mod (total_weight weights))

leftover_is :
    (count : ℕ) (weights : List ℕ)
    → leftover count weights ≡ count - sum_to (whole_part count weights) most_domains
unfolding leftover
leftover_is count weights = refl

-- ---- what the quotas add to

-- a quota is no whole number
unfoldable has_remainder : ℕ → List ℕ → ℕ → Bool
has_remainder count weights domain = ltb 0 (remainder_of count weights domain)

module _ (count : ℕ) (weights : List ℕ) (some : 0 < total_weight weights) where
  -- a quota is its whole part and its remainder
  quota_parts : (domain : ℕ)
      → whole_part count weights domain * total_weight weights + remainder_of count weights domain
      ≡ count * entry_of weights domain
  unfolding whole_part remainder_of
  quota_parts domain = div-add-mod' (count * entry_of weights domain) (total_weight weights)

  quotas_sum : (domains : ℕ)
      → sum_to (whole_part count weights) domains * total_weight weights + sum_to (remainder_of count weights) domains
      ≡ count * sum_to (entry_of weights) domains
  unfolding sum_to
  quotas_sum zero = rw (zero-mul, mul-zero)
  quotas_sum (suc domains) =
      let before = quotas_sum domains in
      let here = quota_parts domains in
      rw (add-mul, mul-add) (omega arith)

  all_quotas :
      sum_to (whole_part count weights) most_domains * total_weight weights + sum_to (remainder_of count weights) most_domains
      ≡ count * total_weight weights
  unfolding total_weight
  all_quotas = quotas_sum most_domains

  -- so the whole parts are no more than all windows
  wholes_fit : sum_to (whole_part count weights) most_domains ≤ count
  wholes_fit = let sum = all_quotas in le_of_mul-le-mul_right (omega arith) some

  -- and the remainders make up the leftover windows
  leftover_parts : leftover count weights * total_weight weights ≡ sum_to (remainder_of count weights) most_domains
  unfolding leftover
  leftover_parts =
      let wholes = sum_to (whole_part count weights) most_domains in
      let back : (count - wholes + wholes) * total_weight weights ≡ count * total_weight weights =
      ap (λ (n : ℕ). n * total_weight weights) (sub-add_cancel wholes_fit) in
      let split = add-mul (count - wholes) wholes (total_weight weights) in
      let sum = all_quotas in
      omega arith

  -- a remainder is less than a window, so there are at least as many remainders as leftover windows
  remainder_low : (domain : ℕ) → remainder_of count weights domain ≤ total_weight weights
  unfolding remainder_of
  remainder_low domain = le_of_lt (mod-lt (count * entry_of weights domain) some)

  remainders_low : (domains : ℕ)
      → sum_to (remainder_of count weights) domains
      ≤ count_below (has_remainder count weights) domains * total_weight weights
  unfolding sum_to count_below has_remainder
  remainders_low zero = zero-le
  remainders_low (suc domains) =
      go (ltb 0 (remainder_of count weights domains)) refl (remainders_low domains) (remainder_low domains)
    where
      go : (b : Bool) → ltb 0 (remainder_of count weights domains) ≡ b
          → sum_to (remainder_of count weights) domains
          ≤ count_below (has_remainder count weights) domains * total_weight weights
          → remainder_of count weights domains ≤ total_weight weights
          → sum_to (remainder_of count weights) domains + remainder_of count weights domains
          ≤ (count_below (has_remainder count weights) domains + cond b 1 0) * total_weight weights
      go true e before small = rw (add-mul, one-mul) (omega arith)
      go false e before small =
          let none = ltb-false 0 (remainder_of count weights domains) e in rw (add-mul, zero-mul) (omega arith)

  leftover_low : leftover count weights ≤ count_below (has_remainder count weights) most_domains
  leftover_low =
      let parts = leftover_parts in
      let low = remainders_low most_domains in
      le_of_mul-le-mul_right (omega arith) some

  -- a domain without a remainder comes after all that have one, and gets no leftover window
  whole_gets_no_more :
      (domain : ℕ)
      → remainder_of count weights domain ≡ 0
      → gets_one_more count weights domain ≡ false
  unfolding gets_one_more rank has_remainder
  whole_gets_no_more domain whole =
      let low = leftover_low in
      let fewer : count_below (has_remainder count weights) most_domains
      ≤ count_below (λ other. is_ahead (remainder_of count weights) other domain) most_domains =
      count_more _ _ most_domains (λ other below has. comes_before other has) in
      le-ltb (count_below (λ other. is_ahead (remainder_of count weights) other domain) most_domains) (leftover count weights)
      (omega arith)
    where
      comes_before : (other : ℕ) → has_remainder count weights other ≡ true
          → is_ahead (remainder_of count weights) other domain ≡ true
      comes_before other has = first_passes (ltb (remainder_of count weights domain) (remainder_of count weights other)) _ (rw whole has)

  -- ---- what each domain gets

  -- weight 0 gets none
  pub weightless_gets_none :
      (domain : ℕ)
      → entry_of weights domain ≡ 0
      → window_count count weights domain ≡ 0
  unfolding window_count
  weightless_gets_none domain weightless =
      rw (
        whole_gets_no_more domain (weightless_remainder count weights domain weightless),
        weightless_whole count weights domain weightless,
      )

  -- there is a taker for each leftover window
  takers : count_below (gets_one_more count weights) most_domains ≡ leftover count weights
  unfolding gets_one_more rank
  takers =
      let low = leftover_low in
      let few = count_most (has_remainder count weights) most_domains in
      let first = chosen (is_ahead (remainder_of count weights)) (ahead_order (remainder_of count weights)) most_domains
      (leftover count weights) in
      omega arith

  -- all windows are given out
  pub windows_sum : sum_to (window_count count weights) most_domains ≡ count
  unfolding window_count
  windows_sum =
      let parts = sum_and_count (whole_part count weights) (gets_one_more count weights) most_domains in
      let taken = takers in
      let fit = wholes_fit in
      let left : leftover count weights ≡ count - sum_to (whole_part count weights) most_domains = leftover_is count weights in
      omega arith

  -- nobody gets more than all windows
  pub windows_most : (domain : ℕ) → domain < most_domains → window_count count weights domain ≤ count
  windows_most domain below =
      let most = term_most (window_count count weights) most_domains domain below in
      let all = windows_sum in
      omega arith

-- ---- quotas that were worked out, domain by domain

module _ (count : ℕ) (weights : List ℕ) (wholes remainders : ℕ → ℕ)
    (quotas : (domain : ℕ) → domain < most_domains
    → (wholes domain ≡ whole_part count weights domain) × (remainders domain ≡ remainder_of count weights domain)) where
  worked_sum : sum_to wholes most_domains ≡ sum_to (whole_part count weights) most_domains
  worked_sum = sum_same _ _ most_domains (λ domain below. (quotas domain below).0)

  pub worked_fit : 0 < total_weight weights → sum_to wholes most_domains ≤ count
  worked_fit some = rw worked_sum (wholes_fit count weights some)

  worked_ahead :
      (domain : ℕ)
      → domain < most_domains
      → ahead_of remainders domain ≡ ahead_of (remainder_of count weights) domain
  unfolding rank
  worked_ahead domain below =
      count_same _ _ most_domains (λ other small.
      ap₂ (λ (its own : ℕ). ltb own its || (eqb its own && ltb other domain)) (quotas other small).1 (quotas domain below).1)

  -- give each domain its windows
  pub worked_windows :
      (left domain : ℕ)
      → left ≡ count - sum_to wholes most_domains
      → domain < most_domains
      → wholes domain + cond (ltb (ahead_of remainders domain) left) 1 0 ≡ window_count count weights domain
  unfolding window_count gets_one_more leftover
  worked_windows left domain is below = rw (is, worked_sum, worked_ahead domain below, (quotas domain below).0)

  pub worked_most :
      (left domain ahead more : ℕ)
      → 0 < total_weight weights
      → left ≡ count - sum_to wholes most_domains
      → domain < most_domains
      → ahead ≡ ahead_of remainders domain
      → more ≡ cond (ltb ahead left) 1 0
      → wholes domain + more ≤ count
  worked_most left domain ahead more some is below ahead_is more_is =
      rw (more_is, ahead_is, worked_windows left domain is below) (windows_most count weights some domain below)
