-- `line::line_of` meets its contract. Assumes nothing.
use Rattle.line.proofs.line_of.Goals as goal

pub returns-in-Blank : goal.returns-in-Blank
returns-in-Blank c = simp c.in-Blank.is

pub returns-in-Pad : goal.returns-in-Pad
returns-in-Pad c =
    simp (
      c.in-Pad.is,
      ← c.pad_form.ensures,
      ← c.closed_line.ensures,
    )

pub returns-in-Run : goal.returns-in-Run
returns-in-Run c =
    simp (
      c.in-Run.is,
      ← c.run_form.ensures,
      ← c.closed_line-in-Run.ensures,
    )

pub returns-in-Domain : goal.returns-in-Domain
returns-in-Domain c =
    simp (
      c.in-Domain.is,
      ← c.domain_form.ensures,
      ← c.noted_line.ensures,
    )

pub returns-in-Window : goal.returns-in-Window
returns-in-Window c =
    simp (
      c.in-Window.is,
      ← c.window_form.ensures,
      ← c.closed_line-in-Window.ensures,
    )

pub returns-in-Refused : goal.returns-in-Refused
returns-in-Refused c = simp (c.in-Refused.is, ← c.refused_line.ensures)
