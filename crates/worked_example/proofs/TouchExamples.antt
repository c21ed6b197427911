-- The examples of the touch, proved together, each by computing. Assumes nothing.
use mathlib.Core.Path.{refl}
use Rattle.engine.proofs.Computing.{computing}
use Rattle.worked_example.specs.Example.{text_of}
use Rattle.worked_example.specs.TouchExamples.{TouchExamples}
use Rattle.worked_example.proofs.Reading.{reading}

pub touch_examples : TouchExamples
unfolding computing reading text_of
touch_examples =
    record {
      first = (refl, refl);
      second = (refl, refl, refl);
      found = refl;
      ended = (refl, refl, refl);
      missed = (refl, refl, refl);
      clocks = (refl, refl, refl);
      allowed = (refl, refl);
    }
