-- Document 02, E3: a run that takes as many steps as its bound, with a window that takes as many as
-- its length and one; runs that take fewer; and what is refused. Assumes nothing.
use Rattle.std.specs.Prelude.{ℕ, ◌+◌, ◌*◌, List, [], ◌∷◌, ◌≡◌, replicate, set, take, Ok, Err}
use Rattle.plan.specs.Windows.{window_length}
use Rattle.plan.specs.Zeros.{no_plan}
use Rattle.script.specs.declared.Op.TheVariants.{Compute}
use Rattle.script.specs.Limits.{most_ops}
use Rattle.script.specs.Stored.{stored_of}
use Rattle.bound.specs.Bound.{bound_answer_of, bound_answer_with}
use Rattle.machine.specs.Fresh.{fresh_world}
use Rattle.refusal.specs.declared.Refusal.TheVariants.{ImpossiblePlan, WrongLength}
use Rattle.engine.specs.declared.Ending.TheVariants.{Ended, Stopped}
use Rattle.engine.specs.Running.{RunOutcome}
use Rattle.engine.specs.Theorems.{run_from_fresh, steps_in_window}
use Rattle.reader.specs.Draft.{no_ops}
use Rattle.reader.specs.Read.{ReadOutcome, read_of}
use Rattle.worked_example.specs.Example.{text_of}
use Rattle.worked_example.specs.WorkedExample.{example_read}

-- domain 0 has five ops of one tick, and windows of three ticks; domain 1 has two ops
abbrev pub sharp_plan : List ℕ
sharp_plan =
    text_of
    ("(pad 376)"
    ∷ "(domain 0 (share 400) (may 1))"
    ∷ "(domain 1 (share 300) (may))"
    ∷ "(window 0 (length 3))"
    ∷ "(window 1 (length 400))"
    ∷ "(run 2)"
    ∷ "(op 0 (compute 1))"
    ∷ "(op 0 (compute 1))"
    ∷ "(op 0 (compute 1))"
    ∷ "(op 0 (compute 1))"
    ∷ "(op 0 (compute 1))"
    ∷ "(op 1 (receive 0))"
    ∷ "(op 1 (read 100))"
    ∷ [])

-- its plan and scripts, as they are read
abbrev pub sharp : ReadOutcome
sharp = read_of sharp_plan no_ops

-- its scripts with one op more at a position of a domain's script
abbrev pub with_op_at : ℕ → ℕ → List ℕ
with_op_at domain position = set sharp.scripts (most_ops * domain + position) (stored_of (Compute 1))

-- a log of ten records a domain
abbrev pub ten_each : List ℕ
ten_each = replicate 160 0

-- its run under a limit, beside a log
abbrev pub sharp_run : List ℕ → ℕ → RunOutcome
sharp_run log limit = run_from_fresh sharp.plan sharp.scripts log limit

-- the steps that a run to its end takes in a window
abbrev pub sharp_steps : ℕ → ℕ
sharp_steps window = steps_in_window sharp.plan sharp.scripts (fresh_world ten_each) 11 window

pub record BoundExamples : Type 0 where
  -- seven ops, and two windows twice
  pub bound : bound_answer_of sharp.plan sharp.scripts ≡ bound_answer_with (Ok tt) 11
  -- the run takes as many steps: with one less it is stopped, and with more it takes no more
  pub short : ((sharp_run ten_each 10).steps ≡ 10) × ((sharp_run ten_each 10).ending ≡ Stopped)
  pub enough : ((sharp_run ten_each 11).steps ≡ 11) × ((sharp_run ten_each 11).ending ≡ Ended)
  pub more : ((sharp_run ten_each 99).steps ≡ 11) × ((sharp_run ten_each 99).ending ≡ Ended)
  -- its first window takes as many steps as its length and one; the others take fewer
  pub sharp_window : (window_length sharp.plan 0 + 1 ≡ 4) × (sharp_steps 0 ≡ 4)
  pub other_windows : (sharp_steps 1 ≡ 3) × (sharp_steps 2 ≡ 3) × (sharp_steps 3 ≡ 1)
  -- without a log no op is run, and only the switches are left
  pub no_log : ((sharp_run [] 11).steps ≡ 4) × ((sharp_run [] 11).ending ≡ Ended)
  -- an op more at the end of a script counts, and one behind the end does not
  pub at_end : bound_answer_of sharp.plan (with_op_at 1 2) ≡ bound_answer_with (Ok tt) 12
  pub behind_end : bound_answer_of sharp.plan (with_op_at 1 3) ≡ bound_answer_with (Ok tt) 11
  -- that of an undeclared domain counts too, though no run takes it
  pub undeclared : bound_answer_of sharp.plan (with_op_at 7 0) ≡ bound_answer_with (Ok tt) 12
  pub undeclared_run : (run_from_fresh sharp.plan (with_op_at 7 0) ten_each 12).steps ≡ 11
  -- the plan that document 01 runs has five ops and two windows, and takes as many steps
  pub worked :
      (bound_answer_of example_read.plan example_read.scripts ≡ bound_answer_with (Ok tt) 7)
      × ((run_from_fresh example_read.plan example_read.scripts ten_each 7).steps ≡ 7)
      × ((run_from_fresh example_read.plan example_read.scripts ten_each 7).ending ≡ Ended)
  -- a store of one number less is refused, also beside an impossible plan; and such a plan is
  pub short_store :
      bound_answer_of sharp.plan (take 2_047 sharp.scripts)
      ≡ bound_answer_with (Err WrongLength) 0
  pub store_first :
      bound_answer_of no_plan (take 2_047 sharp.scripts) ≡ bound_answer_with (Err WrongLength) 0
  pub impossible :
      bound_answer_of no_plan sharp.scripts ≡ bound_answer_with (Err ImpossiblePlan) 0
