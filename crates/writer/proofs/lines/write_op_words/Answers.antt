-- `writer::lines::write_op_words` meets its contract. Assumes nothing.
use mathlib.Core.Path.{ap, sym}
use native.Mathlib.Omega.{arith}
use lib.ListN.{length}
use mathlib.Core.List.{◌++◌}
use Rattle.lists.specs.Ascii.{bytes_of}
use Rattle.lists.proofs.Stores.{wrote_as, wrote_three}
use Rattle.lexer.specs.Decimal.{decimal_of}
use Rattle.script.specs.declared.Op.TheVariants.{Read, Write, Send, Receive, Compute}
use Rattle.writer.specs.Lines.{op_text}
use Rattle.writer.proofs.Lengths.{words_length}
use Rattle.writer.proofs.lines.write_op_words.Goals as goal

pub write_numbered-requires : goal.write_numbered-requires
unfolding bytes_of
write_numbered-requires c =
    omega (arith, c.requires, ap (λ op. length (op_text op)) c.in-Read.is, words_length (Read c.in-Read.line))

pub write_numbered-requires-in-Write : goal.write_numbered-requires-in-Write
unfolding bytes_of
write_numbered-requires-in-Write c =
    omega (arith, c.requires, ap (λ op. length (op_text op)) c.in-Write.is, words_length (Write c.in-Write.line))

pub write_numbered-sent-requires : goal.write_numbered-sent-requires
unfolding bytes_of
write_numbered-sent-requires c =
    omega (arith, c.requires, ap (λ op. length (op_text op)) c.in-Send.is, words_length (Send c.in-Send.recipient c.in-Send.word))

pub write_numbered-requires-in-Receive : goal.write_numbered-requires-in-Receive
unfolding bytes_of
write_numbered-requires-in-Receive c =
    omega (arith, c.requires, ap (λ op. length (op_text op)) c.in-Receive.is, words_length (Receive c.in-Receive.sender))

pub write_numbered-requires-in-Compute : goal.write_numbered-requires-in-Compute
unfolding bytes_of
write_numbered-requires-in-Compute c =
    omega (arith, c.requires, ap (λ op. length (op_text op)) c.in-Compute.is, words_length (Compute c.in-Compute.ticks))

pub write_numbered-requires-in-Send : goal.write_numbered-requires-in-Send
unfolding bytes_of
write_numbered-requires-in-Send c =
    omega (arith, c.requires, c.write_numbered-sent.ensures.0, ap (λ op. length (op_text op)) c.in-Send.is, words_length (Send c.in-Send.recipient c.in-Send.word))

pub returns-in-Read : goal.returns-in-Read
unfolding op_text bytes_of
returns-in-Read c =
    let args = c.args in wrote_as args.out.now args.at (ap op_text (sym c.in-Read.is)) c.write_numbered.ensures

pub returns-in-Write : goal.returns-in-Write
unfolding op_text bytes_of
returns-in-Write c =
    let args = c.args in wrote_as args.out.now args.at (ap op_text (sym c.in-Write.is)) c.write_numbered-in-Write.ensures

pub returns-in-Receive : goal.returns-in-Receive
unfolding op_text bytes_of
returns-in-Receive c =
    let args = c.args in wrote_as args.out.now args.at (ap op_text (sym c.in-Receive.is)) c.write_numbered-in-Receive.ensures

pub returns-in-Compute : goal.returns-in-Compute
unfolding op_text bytes_of
returns-in-Compute c =
    let args = c.args in wrote_as args.out.now args.at (ap op_text (sym c.in-Compute.is)) c.write_numbered-in-Compute.ensures

pub returns-in-Send : goal.returns-in-Send
unfolding op_text bytes_of
returns-in-Send c =
    let args = c.args in
    wrote_as args.out.now args.at (ap op_text (sym c.in-Send.is))
    (wrote_three args.out.now args.at (bytes_of "(send " ++ decimal_of c.in-Send.recipient) (bytes_of " ") (decimal_of c.in-Send.word)
    c.write_numbered-sent.ensures
    c.write_numbered-in-Send.ensures)
