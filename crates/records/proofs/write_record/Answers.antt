-- `records::write_record` meets its contract. Assumes nothing.
use native.Mathlib.Nat.{div-one}
use native.Mathlib.Numerals.{towards_suc}
use Rattle.records.specs.Records.{record_bytes}
use Rattle.records.proofs.write_record.Goals as goal

pub returns : goal.returns
unfolding record_bytes
returns c = λ seen kind value. simp (towards_suc, div-one, kind, value)
