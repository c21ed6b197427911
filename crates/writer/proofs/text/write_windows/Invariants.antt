-- `writer::text::write_windows` meets its contract. The loop's invariant: the lines from the index on are left to
-- write. Assumes nothing.
use mathlib.Core.List.{List}
use Prim.Native.Nat.{ℕ}
use lib.ListN.{get_or}
use Rattle.writer.specs.Canonical.{followed, lines_from}
use Rattle.writer.specs.Lines.{window_text}
use Rattle.writer.proofs.Rest.{Writing, rest_from}
use Rattle.writer.proofs.text.write_windows.Given as goal

-- the line of an index, by the arrays
abbrev line : List ℕ → List ℕ → ℕ → List ℕ
line owners lengths = λ (slot : ℕ). window_text (get_or owners slot 0) (get_or lengths slot 0)

abbrev pub invariant-loop-slot : goal.invariant-loop-slot
invariant-loop-slot l =
    Writing l.initial.out l.at (followed (lines_from (line l.owners l.lengths) l.windows 0)) (rest_from (line l.owners l.lengths) l.windows l.slot) l.out l.next
