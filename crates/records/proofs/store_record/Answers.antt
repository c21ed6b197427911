-- `records::store_record` meets its contract. Assumes nothing.
use mathlib.Core.Path.{refl}
use Rattle.records.specs.Records.{stored_at}
use Rattle.records.proofs.store_record.Goals as goal

pub returns-in-Some : goal.returns-in-Some
unfolding stored_at
returns-in-Some c =
    rw (c.in-Some.is, stored_at)
    (c.write_record.ensures _ c.record_kind-kind.ensures c.record_value-value.ensures)

pub returns-in_default : goal.returns-in_default
unfolding stored_at
returns-in_default c = rw (c.in_default.is, stored_at) refl
