-- `writer::text::write_domains` meets its contract. The loop's invariant: the lines from the index on are left to
-- write. Assumes nothing.
use mathlib.Core.List.{List}
use Prim.Native.Nat.{ℕ}
use native.Mathlib.Omega.{arith}
use lib.ListN.{get_or}
use Rattle.writer.specs.Canonical.{followed, lines_from}
use Rattle.writer.specs.Lines.{domain_line, domain_text}
use Rattle.writer.proofs.Rest.{line_room, line_written, lines_written}
use Rattle.writer.proofs.text.write_domains.Goals as goal

-- the line of an index, by the arrays
abbrev line : List ℕ → List ℕ → ℕ → List ℕ
line shares rights = λ (index : ℕ). domain_text index (get_or shares index 0) (get_or rights index 0)

pub write_domain-next-requires : goal.write_domain-next-requires
unfolding domain_line
write_domain-next-requires c =
    let loop = c.loop-domain in
    let plan = c.args.plan in
    let room = line_room (line plan.shares plan.rights) plan.domains loop.domain c.loop-domain-test.true loop.invariant in
    omega (arith, room, c.requires.1)

pub loop-domain-preserved : goal.loop-domain-preserved
loop-domain-preserved c =
    let loop = c.loop-domain in
    let plan = c.args.plan in
    line_written (line plan.shares plan.rights) plan.domains loop.domain c.loop-domain-test.true loop.invariant c.write_domain-next.ensures

pub returns : goal.returns
unfolding domain_line
returns c =
    let args = c.args in
    let plan = args.plan in
    lines_written (line plan.shares plan.rights) plan.domains c.loop-domain.domain args.out.now args.at
    (followed (lines_from (line plan.shares plan.rights) plan.domains 0)) c.loop-domain-test.false c.loop-domain.invariant
