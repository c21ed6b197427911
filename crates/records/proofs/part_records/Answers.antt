-- `records::part_records` meets its contract. Assumes nothing.
use mathlib.Core.Path.{refl}
use Rattle.records.specs.Records.{part_records}
use Rattle.records.proofs.part_records.Goals as goal

pub returns : goal.returns
unfolding part_records
returns c = λ plan same. rw same refl
