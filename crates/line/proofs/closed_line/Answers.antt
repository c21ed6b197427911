-- `line::closed_line` meets its contract. Assumes nothing.
use Rattle.line.proofs.Heads.{closed_then}
use Rattle.line.specs.Lines.{closed_line}
use Rattle.line.proofs.closed_line.Goals as goal

pub returns-in-Err : goal.returns-in-Err
unfolding closed_line
returns-in-Err c = simp (c.in-Err.is, ← c.refused_line.ensures)

pub returns-in-Err-closed_end : goal.returns-in-Err-closed_end
unfolding closed_line
returns-in-Err-closed_end c =
    simp (
      c.in-Ok.is,
      closed_then,
      ← c.closed_end.ensures,
      c.in-Err-closed_end.is,
      ← c.refused_line-in-Err-closed_end.ensures,
    )

pub returns-in-Ok-closed_end : goal.returns-in-Ok-closed_end
unfolding closed_line
returns-in-Ok-closed_end c =
    simp (c.in-Ok.is, closed_then, ← c.closed_end.ensures, c.in-Ok-closed_end.is)
