-- `writer::text::write_domains` meets its contract. The loop's invariant: the lines from the index on are left to
-- write. Assumes nothing.
use mathlib.Core.List.{List}
use Prim.Native.Nat.{ℕ}
use lib.ListN.{get_or}
use Rattle.writer.specs.Canonical.{followed, lines_from}
use Rattle.writer.specs.Lines.{domain_text}
use Rattle.writer.proofs.Rest.{Writing, rest_from}
use Rattle.writer.proofs.text.write_domains.Given as goal

-- the line of an index, by the arrays
abbrev line : List ℕ → List ℕ → ℕ → List ℕ
line shares rights = λ (index : ℕ). domain_text index (get_or shares index 0) (get_or rights index 0)

abbrev pub invariant-loop-domain : goal.invariant-loop-domain
invariant-loop-domain l =
    Writing l.initial.out l.at (followed (lines_from (line l.shares l.rights) l.domains 0)) (rest_from (line l.shares l.rights) l.domains l.domain) l.out l.next
