-- `report::write_domains` meets its contract. The loop's invariant: the logs of the domains passed are written.
-- Assumes nothing.
use mathlib.Core.Path.{◌≡◌, refl, subst}
use Prim.Native.Nat.{ℕ, ◌<◌}
use native.Mathlib.Numerals.{add-one}
use native.Mathlib.Omega.{arith}
use lib.ListN.{length}
use Rattle.lists.proofs.Stores.{wrote_both}
use Rattle.plan.proofs.Windows.{domains_most}
use Rattle.records.specs.Records.{part_records}
use Rattle.records.proofs.Parts.{parts_fit}
use Rattle.engine.specs.LogQuery.{log_query_of}
use Rattle.report.specs.Lines.{domain_lines, seen_lines}
use Rattle.lists.specs.Writing.{Wrote}
use Rattle.report.proofs.LineLengths.{domains_limit, part_ends, query_limit}
use Rattle.report.proofs.write_domains.Goals as goal

pub loop-domain-init : goal.loop-domain-init
unfolding seen_lines
loop-domain-init c = (refl, refl)

pub write_domain-next-requires : goal.write_domain-next-requires
write_domain-next-requires c =
    let l = c.loop-domain in
    let plan = c.args.plan in
    let state = c.args.state in
    let log = c.args.log.now in
    let few = domains_most plan c.requires.0 in
    let declared : l.domain < plan.domains = omega arith in
    rw c.log_of-own.ensures.0
    (omega (
      arith,
      l.invariant.0,
      domains_limit plan state log few c.requires.1 l.domain (omega arith),
      query_limit plan state log few c.requires.1 l.domain declared,
      part_ends (part_records plan (length log)) l.domain plan.domains declared,
      parts_fit plan (length log),
      c.requires.2,
    ))

pub loop-domain-preserved : goal.loop-domain-preserved
unfolding seen_lines
loop-domain-preserved c =
    let l = c.loop-domain in
    let args = c.args in
    let passed = seen_lines args.plan args.state args.log.now l.domain in
    let next = domain_lines l.domain (log_query_of args.plan args.state args.log.now l.domain) in
    rw (add-one l.domain)
    (wrote_both args.out.now 0 passed next l.invariant (rw c.log_of-own.ensures.0 at c.write_domain-next.ensures))

pub returns : goal.returns
returns c =
    let l = c.loop-domain in
    let args = c.args in
    let all : l.domain ≡ args.plan.domains = omega arith in
    let lines = seen_lines args.plan args.state args.log.now in
    subst (λ (n : ℕ). Wrote args.out.now 0 (lines n) l.out l.next) all l.invariant
