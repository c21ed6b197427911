-- The examples of the step bound, proved together, each by computing. Assumes nothing.
use mathlib.Core.Path.{refl}
use Rattle.script.specs.ScriptEnd.{ops_in_row, stored_ops}
use Rattle.bound.specs.Bound.{bound_answer_of, bound_verdict, ops_stored, step_bound}
use Rattle.reachable.specs.StepCounts.{window_steps}
use Rattle.engine.proofs.Computing.{computing}
use Rattle.worked_example.specs.BoundExamples.{BoundExamples}
use Rattle.worked_example.specs.Example.{text_of}
use Rattle.worked_example.proofs.Reading.{reading}

pub bound_examples : BoundExamples
unfolding computing reading text_of ops_in_row stored_ops ops_stored step_bound bound_verdict bound_answer_of window_steps
bound_examples =
    record {
      bound = refl;
      short = (refl, refl);
      enough = (refl, refl);
      more = (refl, refl);
      sharp_window = (refl, refl);
      other_windows = (refl, refl, refl);
      no_log = (refl, refl);
      at_end = refl;
      behind_end = refl;
      undeclared = refl;
      undeclared_run = refl;
      worked = (refl, refl, refl);
      short_store = refl;
      store_first = refl;
      impossible = refl;
    }
