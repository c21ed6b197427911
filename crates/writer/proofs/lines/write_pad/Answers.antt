-- `writer::lines::write_pad` meets its contract. Assumes nothing.
use native.Mathlib.Omega.{arith}
use mathlib.Core.List.{◌++◌}
use Rattle.lists.specs.Ascii.{bytes_of}
use Rattle.lists.proofs.Stores.{wrote_both}
use Rattle.lexer.specs.Decimal.{decimal_of}
use Rattle.lexer.proofs.Decimals.{decimal_most}
use Rattle.writer.proofs.lines.write_pad.Goals as goal

pub write_bytes-requires : goal.write_bytes-requires
unfolding bytes_of
write_bytes-requires c =
    let at4 = c in
    let at8 = at4 in
    omega (arith, at4.write_numbered-end.ensures.0, decimal_most at8.args.ticks)

pub returns : goal.returns
unfolding bytes_of
returns c =
    let at7 = c in
    let at11 = at7 in
    let args = at11.args in
    wrote_both args.out.now 0 (bytes_of "(pad " ++ decimal_of args.ticks) (bytes_of ")") at7.write_numbered-end.ensures c.write_bytes.ensures
