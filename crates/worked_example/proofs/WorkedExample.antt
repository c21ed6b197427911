-- The eleven marked entries of document 01, "Settled numbers", proved together, each by computing. Assumes nothing.
use Prim.Native.Nat.{ℕ}
use mathlib.Core.Path.{refl}
use Rattle.lexer.specs.Decimal.{digits_of, decimal_of}
use Rattle.engine.proofs.Computing.{computing}
use Rattle.report.specs.Lines.{kind_and_value, seen_line, record_lines, domain_lines, seen_lines}
use Rattle.report.specs.Lines.{pair_line, end_line, run_lines, refusal_line}
use Rattle.report.specs.Planrun.{ran_lines, planrun_of}
use Rattle.worked_example.specs.Example.{text_of}
use Rattle.worked_example.specs.WorkedExample.{WorkedExample, dirty_table, first_window_at}
use Rattle.worked_example.specs.WorkedExample.{found_by, step_at, table_after}
use Rattle.worked_example.proofs.Reading.{reading}

-- every definition that printing lines computes with
printing : ℕ
unfolding
    digits_of decimal_of kind_and_value seen_line record_lines domain_lines seen_lines
    pair_line end_line run_lines refusal_line ran_lines planrun_of
printing = 0

pub worked_example : WorkedExample
unfolding computing reading printing text_of dirty_table first_window_at found_by step_at table_after
worked_example =
    record {
      full_run = refl;
      shares = (refl, refl, refl);
      line_hundred = (refl, refl, refl);
      box_lines = (refl, refl);
      pad_limit = (refl, refl);
      flushes = (refl, refl);
      five_reads = (refl, refl);
      sixth_read = refl;
      begins_before_end = (refl, refl);
      none_at_end = (refl, refl);
      empty_text = refl;
    }
