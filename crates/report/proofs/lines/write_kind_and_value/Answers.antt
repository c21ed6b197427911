-- `report::lines::write_kind_and_value` meets its contract. Assumes nothing.
use mathlib.Core.List.{◌++◌}
use mathlib.Core.Path.{ap}
use native.Mathlib.Omega.{arith}
use lib.ListN.{length}
use Rattle.lists.proofs.Stores.{wrote_both, wrote_three}
use Rattle.lists.specs.Ascii.{bytes_of}
use Rattle.report.specs.Lines.{kind_and_value, kind_word}
use Rattle.lexer.specs.Decimal.{decimal_of}
use Rattle.report.proofs.LineLengths.{numbered_limit, word_limit}
use Rattle.report.proofs.lines.write_kind_and_value.Goals as goal

pub write_bytes-space-requires : goal.write_bytes-space-requires
unfolding bytes_of
write_bytes-space-requires c =
    let word = c.kind_word in
    omega (arith, c.write_bytes-word.ensures.0, ap length word.ensures, word_limit c.args.kind)

pub write_numbered-close-requires : goal.write_numbered-close-requires
unfolding bytes_of
write_numbered-close-requires c =
    let word = c.kind_word in
    omega (
      arith,
      c.write_bytes-word.ensures.0,
      c.write_bytes-space.ensures.0,
      ap length word.ensures,
      word_limit c.args.kind,
    )

pub write_bytes-requires : goal.write_bytes-requires
unfolding bytes_of
write_bytes-requires c =
    let args = c.args in
    omega (
      arith,
      c.write_bytes-word.ensures.0,
      c.write_bytes-space.ensures.0,
      ap length c.kind_word.ensures,
      word_limit args.kind,
      c.write_numbered-close.ensures.0,
      numbered_limit (bytes_of " ") args.value,
    )

pub returns : goal.returns
unfolding bytes_of kind_and_value
returns c =
    let args = c.args in
    let word = bytes_of (kind_word args.kind) in
    wrote_both args.out.now args.at
    (bytes_of " (" ++ word ++ bytes_of " " ++ decimal_of args.value) (bytes_of "))\n")
    (wrote_three args.out.now args.at (bytes_of " (" ++ word) (bytes_of " ") (decimal_of args.value)
    (wrote_both args.out.now args.at (bytes_of " (") word
    c.write_bytes-word.ensures
    (rw c.kind_word.ensures at c.write_bytes-space.ensures))
    c.write_numbered-close.ensures)
    c.write_bytes.ensures
