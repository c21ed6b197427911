-- The examples of dirty lines that go back through L2, proved together, each by computing. Assumes nothing.
use mathlib.Core.Path.{refl}
use Rattle.lexer.specs.Decimal.{digits_of, decimal_of}
use Rattle.cache.specs.Access.{old_access_of}
use Rattle.engine.proofs.Computing.{computing}
use Rattle.worked_example.specs.Example.{text_of}
use Rattle.worked_example.specs.WriteBackExamples.{WriteBackExamples}
use Rattle.worked_example.proofs.Reading.{reading}

pub write_back_examples : WriteBackExamples
unfolding computing reading digits_of decimal_of text_of old_access_of
write_back_examples =
    record {
      dropped = refl;
      dropped_on_the_old_board = refl;
      roomy = refl;
      behind = refl;
      elsewhere = refl;
      elsewhere_full = refl;
      elsewhere_last = refl;
      kernel = refl;
      highest = refl;
      clean = refl;
      held = refl;
      reads = (refl, refl, refl);
      messages = (refl, refl, refl);
      steps = (refl, refl);
      switches = (refl, refl, refl);
      lent = (refl, refl);
    }
