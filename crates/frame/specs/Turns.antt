-- Document 02, E1: windows laid in turns, the rounds of a round robin. Assumes nothing.
use Rattle.std.specs.Prelude.{ℕ, zero, suc, ◌-◌, cond, List, [], ◌∷◌, ◌++◌, ltb, length, replicate}
use Rattle.plan.specs.Limits.{most_domains}

-- the windows of a turn among the domains below a number: in their order, one of each that has any
-- left. A domain took one in each turn before, as long as it had any, so it has some left where it
-- gets more windows than there were turns before.
unfoldable pub turn_windows : (ℕ → ℕ) → ℕ → ℕ → List ℕ
turn_windows windows turn zero = []
turn_windows windows turn (suc domain) =
    turn_windows windows turn domain ++ cond (ltb turn (windows domain)) (domain ∷ []) []

-- the windows of the first turns, one turn behind the other
unfoldable pub first_turns : (ℕ → ℕ) → ℕ → List ℕ
first_turns windows zero = []
first_turns windows (suc turn) = first_turns windows turn ++ turn_windows windows turn most_domains

-- a list, and as many zeros behind it as it falls short of a length
unfoldable pub zero_filled : ℕ → List ℕ → List ℕ
zero_filled size list = list ++ replicate (size - length list) 0
