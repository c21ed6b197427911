-- The examples of shares to the nearest colour, proved together, each by computing. Assumes nothing.
use mathlib.Core.Path.{refl}
use Rattle.lexer.specs.Decimal.{digits_of, decimal_of}
use Rattle.engine.proofs.Computing.{computing}
use Rattle.worked_example.specs.Example.{text_of}
use Rattle.worked_example.specs.ShareExamples.{ShareExamples, share_lines}
use Rattle.worked_example.proofs.Reading.{reading}

pub share_examples : ShareExamples
unfolding computing reading digits_of decimal_of text_of share_lines
share_examples =
    record {
      shares = (refl, refl, refl, refl);
      eight_equal = refl;
      greatest_total = refl;
      fifteen = refl;
      shares_first = refl;
      colourless_after = refl;
    }
