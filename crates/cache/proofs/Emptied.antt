-- What a flush of a switch answers and leaves where it empties a part. Assumes nothing.
use Prim.Native.Nat.{ℕ, ◌+◌, ◌≤◌}
use mathlib.Core.Bool.{Bool}
use mathlib.Core.Path.{◌≡◌, ap, ◌∙◌}
use mathlib.Core.List.{List, ◌++◌}
use native.Mathlib.Omega.{arith}
use lib.ListN.{drop, length, replicate, take, length-drop, length-take}
use lib.Seq.{take_all}
use Rattle.lists.specs.Part.{part, splice}
use Rattle.cache.specs.Flush.{count_where}

-- `count` numbers from the index `first` on are emptied, and the others stay
pub emptied_part :
    (first count : ℕ) (fresh table : List ℕ)
    → first + count ≤ length table
    → fresh ≡ replicate (length (take count (drop first table))) 0
    → take first table ++ (fresh ++ drop count (drop first table)) ≡ splice first count (replicate count 0) table
unfolding splice
emptied_part first count fresh table within emptied =
    let whole : length (take count (drop first table)) ≡ count = simp (length-take, length-drop) (omega arith) in
    rw (emptied, whole)

-- what either flush does: `count` numbers from the index `first` on are counted, then emptied
pub flush_outcome :
    (test : ℕ → Bool) (first count answer : ℕ) (fresh table : List ℕ)
    → first + count ≤ length table
    → answer ≡ count_where test (part 0 count (take count (drop first table)))
    → fresh ≡ replicate (length (take count (drop first table))) 0
    → (answer ≡ count_where test (part first count table))
    × (take first table ++ (fresh ++ drop count (drop first table)) ≡ splice first count (replicate count 0) table)
unfolding part
flush_outcome test first count answer fresh table within counted emptied =
    let whole : length (take count (drop first table)) ≡ count = simp (length-take, length-drop) (omega arith) in (
      counted ∙ ap (count_where test) (take_all count (take count (drop first table)) (omega arith)),
      emptied_part first count fresh table within emptied,
    )
