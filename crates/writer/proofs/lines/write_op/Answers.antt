-- `writer::lines::write_op` meets its contract. Assumes nothing.
use native.Mathlib.Omega.{arith}
use Rattle.lists.specs.Ascii.{bytes_of}
use Rattle.writer.proofs.Lengths.{op_length}
use Rattle.writer.proofs.Pieces.{op_wrote}
use Rattle.writer.proofs.lines.write_op.Goals as goal

pub write_numbered-numbered-requires : goal.write_numbered-numbered-requires
unfolding bytes_of
write_numbered-numbered-requires c = let args = c.args in omega (arith, c.requires, op_length args.domain args.op)

pub write_op_words-worded-requires : goal.write_op_words-worded-requires
unfolding bytes_of
write_op_words-worded-requires c =
    let args = c.args in
    omega (arith, c.requires, op_length args.domain args.op, c.write_numbered-numbered.ensures.0)

pub write_bytes-requires : goal.write_bytes-requires
unfolding bytes_of
write_bytes-requires c =
    let args = c.args in
    omega (arith, c.requires, op_length args.domain args.op, c.write_numbered-numbered.ensures.0, c.write_op_words-worded.ensures.0)

pub returns : goal.returns
unfolding bytes_of
returns c =
    let args = c.args in
    op_wrote args.out.now args.at args.domain args.op
    c.write_numbered-numbered.ensures c.write_op_words-worded.ensures c.write_bytes.ensures
