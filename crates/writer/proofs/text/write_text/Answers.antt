-- `writer::text::write_text` meets its contract. Assumes nothing.
use native.Mathlib.Omega.{arith}
use Rattle.plan.proofs.ValidPlans.{counts}
use Rattle.writer.specs.Lines.{pad_line, run_line}
use Rattle.writer.proofs.TextParts.{part_lengths, parts_wrote}
use Rattle.writer.proofs.text.write_text.Goals as goal

pub write_domains-shared-requires : goal.write_domains-shared-requires
unfolding pad_line
write_domains-shared-requires c =
    let args = c.args in
    let count = counts args.plan c.requires.0 in
    let lengths = part_lengths args.plan args.scripts.now c.requires.0 in
    (count.domains_most, omega (arith, lengths.sum, lengths.most, c.write_pad-padded.ensures.0))

pub write_windows-windowed-requires : goal.write_windows-windowed-requires
unfolding pad_line
write_windows-windowed-requires c =
    let args = c.args in
    let count = counts args.plan c.requires.0 in
    let lengths = part_lengths args.plan args.scripts.now c.requires.0 in
    (count.windows_most, omega (arith, lengths.sum, lengths.most, c.write_pad-padded.ensures.0, c.write_domains-shared.ensures.0))

pub write_run-repeated-requires : goal.write_run-repeated-requires
unfolding pad_line run_line
write_run-repeated-requires c =
    let args = c.args in
    let lengths = part_lengths args.plan args.scripts.now c.requires.0 in
    omega (arith, lengths.sum, lengths.most, c.write_pad-padded.ensures.0, c.write_domains-shared.ensures.0, c.write_windows-windowed.ensures.0)

pub write_scripts-requires : goal.write_scripts-requires
unfolding pad_line run_line
write_scripts-requires c =
    let args = c.args in
    let count = counts args.plan c.requires.0 in
    let lengths = part_lengths args.plan args.scripts.now c.requires.0 in (
      c.requires.1,
      count.domains_most,
      omega (
        arith,
        lengths.sum,
        lengths.most,
        c.write_pad-padded.ensures.0,
        c.write_domains-shared.ensures.0,
        c.write_windows-windowed.ensures.0,
        c.write_run-repeated.ensures.0,
      ),
    )

pub returns : goal.returns
unfolding pad_line run_line
returns c =
    let args = c.args in
    parts_wrote args.plan args.scripts.now args.out.now
    c.write_pad-padded.ensures
    c.write_domains-shared.ensures
    c.write_windows-windowed.ensures
    c.write_run-repeated.ensures
    c.write_scripts.ensures
