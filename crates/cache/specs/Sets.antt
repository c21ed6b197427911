-- Document 01, "The core and its tables" and "What an op costs": an L2 set, most recently used
-- first, of any number of ways. Assumes nothing.
use Rattle.std.specs.Prelude.{ℕ, Bool, true, false, ◌||◌, List, [], ◌∷◌, eqb, length, take}

-- a way of the set holds the entry
unfoldable pub has : ℕ → List ℕ → Bool
has entry [] = false
has entry (way ∷ ways) = eqb way entry || has entry ways

-- the other ways, in their order: a valid set holds an entry once at most
unfoldable pub without : ℕ → List ℕ → List ℕ
without entry [] = []
without entry (way ∷ ways) = elim (eqb way entry) [ true ↦ ways | false ↦ way ∷ without entry ways ]

-- the entry in front of the other ways, and no more ways than before: found, the entry has moved to
-- the front; not found, it has come in and the last way, full or empty, is dropped
unfoldable pub move_to_front : ℕ → List ℕ → List ℕ
move_to_front entry ways = take (length ways) (entry ∷ without entry ways)
