-- `report::write_run` meets its contract. Assumes nothing.
use native.Mathlib.Omega.{arith}
use lib.ListN.{length}
use Rattle.lists.proofs.Stores.{wrote_both}
use Rattle.plan.proofs.Windows.{domains_most}
use Rattle.records.proofs.Parts.{parts_fit}
use Rattle.report.specs.Lines.{end_line, run_lines, seen_lines}
use Rattle.report.proofs.LineLengths.{domains_limit}
use Rattle.report.proofs.write_run.Goals as goal

pub write_end-requires : goal.write_end-requires
write_end-requires c =
    let plan = c.args.plan in
    let log = c.args.log.now in
    omega (
      arith,
      c.write_domains-next.ensures.0,
      domains_limit plan c.args.state log (domains_most plan c.requires.0) c.requires.1
          plan.domains (omega arith),
      parts_fit plan (length log),
      c.requires.2,
    )

pub returns : goal.returns
unfolding run_lines
returns c =
    let args = c.args in
    wrote_both args.out.now 0
    (seen_lines args.plan args.state args.log.now args.plan.domains) (end_line args.state)
    c.write_domains-next.ensures
    c.write_end.ensures
