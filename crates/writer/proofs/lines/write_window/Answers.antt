-- `writer::lines::write_window` meets its contract. Assumes nothing.
use native.Mathlib.Omega.{arith}
use Rattle.lists.specs.Ascii.{bytes_of}
use Rattle.writer.proofs.Lengths.{window_length_lem}
use Rattle.writer.proofs.Pieces.{window_wrote}
use Rattle.writer.proofs.lines.write_window.Goals as goal

pub write_numbered-owned-requires : goal.write_numbered-owned-requires
unfolding bytes_of
write_numbered-owned-requires c = let args = c.args in omega (arith, c.requires, window_length_lem args.owner args.ticks)

pub write_numbered-long-requires : goal.write_numbered-long-requires
unfolding bytes_of
write_numbered-long-requires c =
    let args = c.args in
    omega (arith, c.requires, window_length_lem args.owner args.ticks, c.write_numbered-owned.ensures.0)

pub write_bytes-requires : goal.write_bytes-requires
unfolding bytes_of
write_bytes-requires c =
    let args = c.args in
    omega (arith, c.requires, window_length_lem args.owner args.ticks, c.write_numbered-owned.ensures.0, c.write_numbered-long.ensures.0)

pub returns : goal.returns
unfolding bytes_of
returns c =
    let args = c.args in
    window_wrote args.out.now args.at args.owner args.ticks
    c.write_numbered-owned.ensures c.write_numbered-long.ensures c.write_bytes.ensures
