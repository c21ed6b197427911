-- Sums and tests over the first entries of an array. Assumes nothing.
use Rattle.std.specs.Prelude.{ℕ, zero, suc, ◌+◌, Bool, true, ◌&&◌}

-- f 0 + f 1 + .. over the first `count` indices
unfoldable pub sum_to : (ℕ → ℕ) → ℕ → ℕ
sum_to f zero = 0
sum_to f (suc count) = sum_to f count + f count

-- the test passes at each of the first `count` indices
unfoldable pub all_below : (ℕ → Bool) → ℕ → Bool
all_below test zero = true
all_below test (suc count) = all_below test count && test count
