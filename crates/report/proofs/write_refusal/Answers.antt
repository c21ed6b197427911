-- `report::write_refusal` meets its contract. Assumes nothing.
use Rattle.lists.specs.Ascii.{bytes_of}
use Rattle.report.specs.Lines.{refusal_line}
use Rattle.report.proofs.write_refusal.Goals as goal

pub returns : goal.returns
unfolding bytes_of refusal_line
returns c = rw c.from.ensures at c.write_pair.ensures
