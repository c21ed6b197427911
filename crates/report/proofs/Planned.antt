-- What is printed for a text, by the verdict of its reading. Assumes nothing.
use Rattle.std.specs.Prelude.{Ok, Err}
use mathlib.Core.Path.{◌≡◌, ap, ◌∙◌}
use mathlib.Core.List.{List}
use Prim.Native.Nat.{ℕ}
use Rattle.plan.specs.declared.Plan.{Plan}
use Rattle.refusal.specs.declared.Code.{Code}
use Rattle.refusal.specs.declared.Refusal.{Refusal}
use Rattle.refusal.specs.Code.{refusal_code}
use Rattle.reader.specs.Draft.{no_ops}
use Rattle.reader.specs.Read.{ReadOutcome, read_of, read_result}
use Rattle.report.specs.Lines.{refusal_line}
use Rattle.report.specs.Planrun.{planrun_of, planrun_run, ran_lines, read_lines}
use Rattle.refusal.specs.Verdict.{Verdict}

module _ (text : List ℕ) where
  pub planned_refused :
      (refusal : Refusal) (code : Code)
      → Err refusal ≡ (read_of text no_ops).verdict
      → code ≡ refusal_code refusal
      → refusal_line code ≡ planrun_of text
  unfolding planrun_of
  planned_refused refusal code refused coded =
      ap refusal_line coded ∙ ap (λ (verdict : Verdict). read_lines verdict (read_of text no_ops)) refused

  pub planned_ran :
      (plan : Plan) (scripts : List ℕ)
      → read_result (Ok plan) scripts ≡ read_of text no_ops
      → ran_lines plan (planrun_run plan scripts).world ≡ planrun_of text
  unfolding planrun_of
  planned_ran plan scripts read = ap (λ (outcome : ReadOutcome). read_lines outcome.verdict outcome) read
