-- What a function does that writes bytes into a lent buffer. Assumes nothing.
use Rattle.std.specs.Prelude.{ℕ, ◌+◌, List, ◌≡◌, length}
use Rattle.std.proofs.lemmas.List.Edits.{sets}

-- it leaves the buffer with its bytes stored from an offset on, but for those past the buffer's
-- end, and answers the offset past them
abbrev pub Wrote : List ℕ → ℕ → List ℕ → List ℕ → ℕ → Type 0
Wrote buffer at bytes after next = (next ≡ at + length bytes) × (after ≡ sets buffer at bytes)
