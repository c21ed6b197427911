-- `writer::lines::write_run` meets its contract. Assumes nothing.
use native.Mathlib.Omega.{arith}
use Rattle.lists.specs.Ascii.{bytes_of}
use Rattle.writer.proofs.Lengths.{run_length}
use Rattle.writer.proofs.Pieces.{run_wrote}
use Rattle.writer.proofs.lines.write_run.Goals as goal

pub write_numbered-end-requires : goal.write_numbered-end-requires
unfolding bytes_of
write_numbered-end-requires c = omega (arith, c.requires, run_length c.args.times)

pub write_bytes-requires : goal.write_bytes-requires
unfolding bytes_of
write_bytes-requires c =
    let at4 = c in
    let at8 = at4 in
    omega (arith, at8.requires, run_length at8.args.times, at4.write_numbered-end.ensures.0)

pub returns : goal.returns
unfolding bytes_of
returns c =
    let at7 = c in
    let at11 = at7 in
    let args = at11.args in
    run_wrote args.out.now args.at args.times at7.write_numbered-end.ensures c.write_bytes.ensures
