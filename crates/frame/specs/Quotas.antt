-- Document 02, E1: how many windows each domain gets: its quota, the quota's whole part and
-- remainder, and who gets the windows that are left over. Assumes nothing.
use Rattle.std.specs.Prelude.{ℕ, ◌+◌, ◌*◌, ◌-◌, ◌/◌, ◌%◌, Bool, cond, ◌&&◌, ◌||◌, List, eqb, ltb, get_or}
use Rattle.plan.specs.Limits.{most_domains}
use Rattle.plan.specs.Sums.{sum_to}

-- the number that an array has for a domain, as its weight
abbrev pub entry_of : List ℕ → ℕ → ℕ
entry_of array domain = get_or array domain 0

unfoldable pub total_weight : List ℕ → ℕ
total_weight weights = sum_to (entry_of weights) most_domains

-- the whole part of a domain's quota, which is count × weight / total
unfoldable pub whole_part : ℕ → List ℕ → ℕ → ℕ
whole_part count weights domain = count * entry_of weights domain / total_weight weights

-- the quota's remainder, as a number of total-ths of a window: the total is the denominator of every
-- quota, so to compare these numbers is to compare the fractions
unfoldable pub remainder_of : ℕ → List ℕ → ℕ → ℕ
remainder_of count weights domain = count * entry_of weights domain % total_weight weights

-- the windows that are left over: those in nobody's whole part
unfoldable pub leftover : ℕ → List ℕ → ℕ
leftover count weights = count - sum_to (whole_part count weights) most_domains

-- the order in which leftover windows are given out: one domain is ahead of another where its
-- remainder is larger, or they are equal and its number is lower
abbrev pub is_ahead : (ℕ → ℕ) → ℕ → ℕ → Bool
is_ahead remainders one other =
    ltb (remainders other) (remainders one)
    || (eqb (remainders one) (remainders other) && ltb one other)

-- the number of indices below `count` at which a test passes
unfoldable pub count_below : (ℕ → Bool) → ℕ → ℕ
count_below test count = sum_to (λ index. cond (test index) 1 0) count

-- how many of the indices below `count` are ahead of an index, in any order
unfoldable pub rank : (ℕ → ℕ → Bool) → ℕ → ℕ → ℕ
rank ahead count index = count_below (λ other. ahead other index) count

-- how many domains are ahead of a domain
abbrev pub ahead_of : (ℕ → ℕ) → ℕ → ℕ
ahead_of remainders domain = rank (is_ahead remainders) most_domains domain

-- the leftover windows go one each to the domains that are first in that order: to a domain that
-- fewer domains are ahead of than windows are left over. No other choice keeps the promises:
-- FramesUnique in specs/Theorems.antt.
unfoldable pub gets_one_more : ℕ → List ℕ → ℕ → Bool
gets_one_more count weights domain =
    ltb (ahead_of (remainder_of count weights) domain) (leftover count weights)

-- the number of windows that a domain gets
unfoldable pub window_count : ℕ → List ℕ → ℕ → ℕ
window_count count weights domain =
    whole_part count weights domain + cond (gets_one_more count weights domain) 1 0
