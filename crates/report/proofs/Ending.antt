-- The program runs every accepted plan to its end: no bound is as large as the limit that it asks for. Assumes nothing.
use Prim.Native.Nat.{ℕ}
use mathlib.Core.Path.{◌≡◌, ap, ◌∙◌}
use native.Mathlib.Omega.{arith}
use lib.ListN.{length, length-replicate}
use Rattle.script.specs.Limits.{scripts_length}
use Rattle.bound.proofs.Largest.{bounded}
use Rattle.reader.specs.Draft.{no_ops}
use Rattle.reader.specs.Read.{read_of}
use Rattle.reader.proofs.Accepted.{accepted_valid, read_store}
use Rattle.machine.specs.Fresh.{fresh_world}
use Rattle.engine.specs.Running.{ran_from, run_call_of, run_from}
use Rattle.engine.proofs.FreshRuns.{fresh_run_accepted, fresh_run_ends}
use Rattle.report.specs.Limits.{largest_limit}
use Rattle.report.specs.Planrun.{lent_log}
use Rattle.report.specs.Theorems.{PlanrunEnds}
use Rattle.refusal.specs.Verdict.{Verdict}

pub planrun_ends : PlanrunEnds
unfolding no_ops run_call_of ran_from
planrun_ends text accepted =
    let plan = (read_of text no_ops).plan in
    let scripts = (read_of text no_ops).scripts in
    let valid = accepted_valid text no_ops accepted in
    let store : length scripts ≡ scripts_length = read_store text no_ops ∙ length-replicate {A = ℕ} scripts_length 0 in
    record {
      accepted =
          ap (λ (verdict : Verdict). (run_from verdict plan scripts (fresh_world lent_log) largest_limit).verdict)
          (fresh_run_accepted plan scripts lent_log valid store);
      ended = fresh_run_ends plan scripts lent_log largest_limit valid store (omega (arith, bounded plan scripts valid));
    }
