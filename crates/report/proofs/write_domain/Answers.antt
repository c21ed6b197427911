-- `report::write_domain` meets its contract. The loop's invariant: the lines of the records passed are written.
-- Assumes nothing.
use mathlib.Core.Path.{◌≡◌, refl}
use Prim.Native.Nat.{◌*◌, ◌/◌}
use native.Mathlib.Numerals.{add-one}
use native.Mathlib.Omega.{arith}
use lib.ListN.{length}
use Rattle.lists.proofs.Stores.{wrote_both}
use Rattle.records.specs.Records.{record_size}
use Rattle.report.specs.Lines.{domain_lines, record_lines, seen_line}
use Rattle.report.proofs.LineLengths.{records_limit}
use Rattle.report.proofs.write_domain.Goals as goal

pub loop-number-init : goal.loop-number-init
unfolding record_lines
loop-number-init c = (omega arith, refl)

pub write_seen-next-requires : goal.write_seen-next-requires
write_seen-next-requires c =
    let l = c.loop-number in
    let args = c.args in
    omega (arith, l.invariant.0, records_limit args.domain args.log.now l.number)

pub loop-number-preserved : goal.loop-number-preserved
unfolding record_lines
loop-number-preserved c =
    let l = c.loop-number in
    let args = c.args in
    let passed = record_lines args.domain args.log.now l.number in
    let next = seen_line args.domain args.log.now (record_size * l.number) in
    rw (add-one l.number) (wrote_both args.out.now args.at passed next l.invariant (rw c.from.ensures at c.write_seen-next.ensures))

pub returns : goal.returns
unfolding domain_lines
returns c =
    let l = c.loop-number in
    let args = c.args in
    let all : l.number ≡ length args.log.now / record_size = omega arith in
    rw (← all) l.invariant
