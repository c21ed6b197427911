-- `lexer::decimal::write_numbered` meets its contract. Assumes nothing.
use Rattle.lists.proofs.Stores.{wrote_both}
use Rattle.lexer.specs.Decimal.{decimal_of}
use Rattle.lexer.proofs.decimal.write_numbered.Goals as goal

pub returns : goal.returns
returns c =
    let args = c.args in
    wrote_both args.out.now args.at args.word.now (decimal_of args.number)
    c.write_bytes-next.ensures
    c.write_decimal.ensures
