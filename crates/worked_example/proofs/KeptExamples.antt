-- The examples of runs that keep only one domain's log, proved together, each by computing. Assumes nothing.
use mathlib.Core.Path.{refl}
use Rattle.lexer.specs.Decimal.{digits_of, decimal_of}
use Rattle.engine.proofs.Computing.{computing}
use Rattle.worked_example.specs.Example.{text_of}
use Rattle.worked_example.specs.KeptExamples.{KeptExamples}
use Rattle.worked_example.proofs.Reading.{reading}

pub kept_examples : KeptExamples
unfolding computing reading digits_of decimal_of text_of
kept_examples =
    record {
      ends = (refl, refl);
      steps = (refl, refl);
      first = refl;
      second = refl;
      stopped = (refl, refl, refl);
      idle = (refl, refl, refl);
      none = (refl, refl);
      lengths = (refl, refl, refl);
      undeclared = refl;
    }
