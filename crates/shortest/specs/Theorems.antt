-- Document 02, E4: no text that gives a plan and its scripts is shorter than their canonical text. Assumes nothing.
use Rattle.std.specs.Prelude.{ℕ, ◌≤◌, List, ◌≡◌, length, Ok}
use Rattle.reader.specs.Read.{read_of}
use Rattle.writer.specs.Canonical.{canonical_text}

-- no accepted text is shorter than the canonical text of what it gives
abbrev pub NoneShorter : Type 0
NoneShorter =
    (text scripts : List ℕ)
    → (read_of text scripts).verdict ≡ Ok tt
    → length (canonical_text (read_of text scripts).plan (read_of text scripts).scripts) ≤ length text
