-- All that the program prints has room in its buffer. Assumes nothing.
use Rattle.std.specs.Prelude.{Ok, Err}
use Prim.Native.Nat.{ℕ, ◌≤◌}
use mathlib.Core.Bool.{true}
use mathlib.Core.List.{List}
use mathlib.Core.Path.{◌≡◌, refl, subst}
use native.Mathlib.Omega.{arith}
use lib.ListN.{length, length-append, length-replicate}
use Rattle.lists.specs.Ascii.{bytes_of}
use Rattle.plan.specs.declared.Plan.{Plan}
use Rattle.plan.specs.Validity.{plan_valid}
use Rattle.plan.proofs.Windows.{domains_most}
use Rattle.records.specs.Records.{part_records}
use Rattle.records.proofs.Parts.{parts_fit}
use Rattle.state.specs.declared.State.{State}
use Rattle.state.specs.StateValidity.{state_valid}
use Rattle.refusal.specs.Code.{refusal_code}
use Rattle.reader.specs.Draft.{no_ops}
use Rattle.reader.specs.Read.{ReadOutcome, read_of}
use Rattle.reader.proofs.Accepted.{accepted_valid}
use Rattle.engine.proofs.FreshRuns.{run_left}
use Rattle.report.specs.Limits.{largest_limit, most_printed, planrun_log}
use Rattle.report.specs.Lines.{end_line, refusal_line, run_lines}
use Rattle.report.specs.Planrun.{lent_log, planrun_of, planrun_run, ran_lines, read_lines}
use Rattle.report.specs.Theorems.{PlanrunFits}
use Rattle.report.proofs.LineLengths.{domains_limit, pair_limit}
use Rattle.refusal.specs.Verdict.{Verdict}

-- the lines of a run
run_limit :
    (plan : Plan) (state : State) (log : List ℕ)
    → plan_valid plan ≡ true
    → length log ≡ planrun_log
    → state_valid plan (part_records plan (length log)) state ≡ true
    → length (run_lines plan state log) ≤ most_printed
unfolding run_lines end_line bytes_of
run_limit plan state log valid long passes =
    simp length-append
    (omega (
      arith,
      domains_limit plan state log (domains_most plan valid) passes plan.domains (omega arith),
      parts_fit plan (length log),
      pair_limit (bytes_of "(end ") state.windows state.clock,
    ))

-- the lines of a run, or of a refusal
pub planrun_fits : PlanrunFits
unfolding planrun_of ran_lines refusal_line bytes_of
planrun_fits text = go (read_of text no_ops).verdict refl
  where
    read : ReadOutcome
    read = read_of text no_ops

    go : (verdict : Verdict) → read.verdict ≡ verdict → length (read_lines verdict read) ≤ most_printed
    go (Err refusal) is =
        omega (arith, pair_limit (bytes_of "(refused ") (refusal_code refusal).number (refusal_code refusal).companion)
    go (Ok tt) is =
        let valid = accepted_valid text no_ops is in
        let left = run_left read.plan read.scripts lent_log largest_limit valid in
        let long = length-replicate {A = ℕ} planrun_log 0 in
        let last = (planrun_run read.plan read.scripts).world.state in
        run_limit read.plan _ _ valid (omega (arith, left.long, long))
        (subst (λ size. state_valid read.plan (part_records read.plan size) last ≡ true)
        (omega (arith, left.long)) left.possible)
