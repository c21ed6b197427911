-- The parts that a log is divided into: they lie within it and beside each other, and a record that is stored in the log
-- is stored in its domain's part alike. Assumes nothing.
use Rattle.std.specs.Prelude.{Some}
use Prim.Native.Nat.{ℕ, ◌+◌, ◌*◌, ◌/◌, ◌≤◌, ◌<◌}
use mathlib.Core.List.{List}
use mathlib.Core.Path.{◌≡◌, ap, ◌∙◌}
use native.Mathlib.Decide.{dec_lt}
use native.Mathlib.Nat.{div-mul-le_self, mul-le-mul_left, mul_left_comm}
use native.Mathlib.Omega.{arith}
use lib.ListN.{drop, take}
use lib.Seq.{sets, take-take}
use Rattle.lists.specs.Part.{part}
use Rattle.lists.proofs.Agree.{InRange, agree_sym, part_alike, sets_away}
use Rattle.lists.proofs.Parts.{part_sets_within}
use Rattle.plan.specs.declared.Plan.{Plan}
use Rattle.records.specs.declared.Observation.{Observation}
use Rattle.records.specs.Records.{in_parts, log_part, part_records, record_bytes, record_index, record_size, stored_at}

-- the parts of all declared domains lie within the log
pub parts_fit : (plan : Plan) (size : ℕ) → record_size * (part_records plan size * plan.domains) ≤ size
unfolding part_records
parts_fit plan size =
    rw (mul_left_comm record_size (size / (record_size * plan.domains)) plan.domains)
    (div-mul-le_self size (record_size * plan.domains))

-- the parts follow each other in domain order
pub parts_follow : (quota lower higher : ℕ) → lower < higher → record_index quota lower quota ≤ record_index quota higher 0
parts_follow quota lower higher h = omega (arith, mul-le-mul_left quota h)

-- ---- a domain's whole part of the log, as records are stored in the log

module _ (quota domain : ℕ) (number : ℕ) (room : number < quota) (seen : Observation) (clock : ℕ) (log : List ℕ) where
  -- a record of that domain is stored in its part alike
  pub part_kept : log_part quota domain quota (stored_at (in_parts quota domain) number seen clock log)
      ≡ stored_at (Some 0) number seen clock (log_part quota domain quota log)
  unfolding log_part stored_at record_bytes
  part_kept =
      let from : record_index quota domain number ≡ record_index quota domain 0 + record_size * (0 + number) = omega arith in
      ap (λ (n : ℕ). part (record_index quota domain 0) (record_size * quota) (sets log n (record_bytes seen clock))) from
      ∙ part_sets_within (record_index quota domain 0) (record_size * quota) (record_size * (0 + number)) (record_bytes seen clock)
      log (omega arith)

  -- a record of another leaves the part
  pub part_left : (other : ℕ) → (other ≡ domain → ⊥)
      → log_part quota domain quota (stored_at (in_parts quota other) number seen clock log) ≡ log_part quota domain quota log
  unfolding log_part stored_at record_bytes
  part_left other differs =
      part_alike (record_index quota domain 0) (record_size * quota) (λ index inside. inside)
      (agree_sym (sets_away log (record_index quota other number) (record_bytes seen clock) apart))
    where
      apart : (index : ℕ) → InRange (record_index quota other number) record_size index
          → InRange (record_index quota domain 0) (record_size * quota) index → ⊥
      apart index stored inside = go (dec_lt domain other)
        where
          go : Dec (domain < other) → ⊥
          go (yes lower) = omega (arith, parts_follow quota domain other lower)
          go (no higher) = omega (arith, parts_follow quota other domain (omega arith))

-- the first records of a whole part
pub part_so_far : (quota domain count : ℕ) (log : List ℕ) → count ≤ quota
    → take (record_size * count) (log_part quota domain quota log) ≡ log_part quota domain count log
unfolding log_part part
part_so_far quota domain count log few =
    take-take (record_size * count) (record_size * quota) (drop (record_index quota domain 0) log) (omega arith)
