-- Document 01, "The plan text": a walk over the bytes of a text from an offset. Assumes nothing.
use Rattle.std.specs.Prelude.{ℕ, ◌+◌, Bool, true, false, ◌&&◌, List, [], ◌∷◌, drop}

-- the offset of the first byte that passes the test, where the first of the bytes stands at `at`;
-- past the last byte where none does
unfoldable pub scan_from : (ℕ → Bool) → List ℕ → ℕ → ℕ
scan_from stops [] at = at
scan_from stops (byte ∷ rest) at =
    elim (stops byte) [ true ↦ at | false ↦ scan_from stops rest (at + 1) ]

-- the same from an offset of a text; from an offset past its end, that offset
unfoldable pub scan_of : (ℕ → Bool) → List ℕ → ℕ → ℕ
scan_of stops text at = scan_from stops (drop at text) at

-- every byte passes the test
unfoldable pub all_bytes : (ℕ → Bool) → List ℕ → Bool
all_bytes test [] = true
all_bytes test (byte ∷ rest) = test byte && all_bytes test rest
