-- `report::lines::write_pair` meets its contract. Assumes nothing.
use mathlib.Core.List.{◌++◌}
use native.Mathlib.Omega.{arith}
use Rattle.lists.proofs.Stores.{wrote_both, wrote_three}
use Rattle.lists.specs.Ascii.{bytes_of}
use Rattle.lexer.specs.Decimal.{decimal_of}
use Rattle.report.specs.Lines.{pair_line}
use Rattle.report.proofs.LineLengths.{numbered_limit}
use Rattle.report.proofs.lines.write_pair.Goals as goal

pub write_numbered-end-requires : goal.write_numbered-end-requires
write_numbered-end-requires c =
    let args = c.args in
    omega (arith, c.write_numbered-middle.ensures.0, numbered_limit args.word.now args.first)

pub write_bytes-requires : goal.write_bytes-requires
unfolding bytes_of
write_bytes-requires c =
    let args = c.args in
    omega (
      arith,
      c.write_numbered-middle.ensures.0,
      numbered_limit args.word.now args.first,
      c.write_numbered-end.ensures.0,
      numbered_limit (bytes_of " ") args.second,
    )

pub returns : goal.returns
unfolding bytes_of pair_line
returns c =
    let args = c.args in
    let numbered = args.word.now ++ decimal_of args.first in
    wrote_both args.out.now args.at (numbered ++ bytes_of " " ++ decimal_of args.second) (bytes_of ")\n")
    (wrote_three args.out.now args.at numbered (bytes_of " ") (decimal_of args.second)
    c.write_numbered-middle.ensures
    c.write_numbered-end.ensures)
    c.write_bytes.ensures
