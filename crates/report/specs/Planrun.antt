-- Document 01, "Settled numbers": what the program *planrun* prints for a text. Assumes nothing.
use Rattle.std.specs.Prelude.{ℕ, List, replicate, Ok, Err}
use Rattle.plan.specs.declared.Plan.{Plan}
use Rattle.state.specs.World.{World}
use Rattle.refusal.specs.Code.{refusal_code}
use Rattle.reader.specs.Draft.{no_ops}
use Rattle.reader.specs.Read.{ReadOutcome, read_of}
use Rattle.machine.specs.Fresh.{fresh_world}
use Rattle.engine.specs.Running.{RunOutcome, run_call_of}
use Rattle.report.specs.Limits.{largest_limit, planrun_log}
use Rattle.report.specs.Lines.{refusal_line, run_lines}
use Rattle.refusal.specs.Verdict.{Verdict}

-- the log that it lends
abbrev pub lent_log : List ℕ
lent_log = replicate planrun_log 0

-- the program's run of a plan and its scripts, from a fresh start
abbrev pub planrun_run : Plan → List ℕ → RunOutcome
planrun_run plan scripts = run_call_of plan scripts (fresh_world lent_log) largest_limit

-- the lines of the world that a run leaves
unfoldable pub ran_lines : Plan → World → List ℕ
ran_lines plan world = run_lines plan world.state world.log

-- what is printed after a reading, by its verdict: the lines of the run, or the refusal's
abbrev pub read_lines : Verdict → ReadOutcome → List ℕ
read_lines (Ok tt) read = ran_lines read.plan (planrun_run read.plan read.scripts).world
read_lines (Err refusal) read = refusal_line (refusal_code refusal)

-- from a plan's text to the printed lines
unfoldable pub planrun_of : List ℕ → List ℕ
planrun_of text = let read = read_of text no_ops in read_lines read.verdict read
