-- The lowest index that passes a test. Assumes nothing.
use Rattle.std.specs.Prelude.{ℕ, zero, suc, ◌+◌, Bool, true, false}

-- the first of the `left` indices from `index` on at which the test passes, and the index past them
-- where there is none
unfoldable pub lowest_from : (ℕ → Bool) → ℕ → ℕ → ℕ
lowest_from test zero index = index
lowest_from test (suc left) index =
    elim (test index) [ true ↦ index | false ↦ lowest_from test left (index + 1) ]

-- the lowest of the first `count` indices at which it passes, and `count` where there is none
abbrev pub lowest_below : (ℕ → Bool) → ℕ → ℕ
lowest_below test count = lowest_from test count 0
