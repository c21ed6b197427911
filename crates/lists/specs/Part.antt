-- A part of a table, and a table with a part rewritten. Assumes nothing.
use Rattle.std.specs.Prelude.{ℕ, List, ◌++◌, take, drop}

-- the `count` numbers of a table from the index `first` on
unfoldable pub part : ℕ → ℕ → List ℕ → List ℕ
part first count table = take count (drop first table)

-- the table with the `count` numbers from the index `first` on replaced by those of `fresh`
unfoldable pub splice : ℕ → ℕ → List ℕ → List ℕ → List ℕ
splice first count fresh table = take first table ++ (fresh ++ drop count (drop first table))
