-- `report::lines::write_end` meets its contract. Assumes nothing.
use Rattle.lists.specs.Ascii.{bytes_of}
use Rattle.report.specs.Lines.{end_line}
use Rattle.report.proofs.lines.write_end.Goals as goal

pub returns : goal.returns
unfolding bytes_of end_line
returns c = c.write_pair.ensures
