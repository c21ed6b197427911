-- A record stored in the log: in two logs that agree on a domain's records so far they then agree on one record more,
-- and another domain's part stays as it is. Assumes nothing.
use Prim.Native.Nat.{ℕ, ◌+◌, ◌*◌, ◌≤◌, ◌<◌}
use mathlib.Core.List.{List}
use mathlib.Core.Path.{◌≡◌}
use native.Mathlib.Decide.{dec_lt}
use native.Mathlib.Omega.{arith}
use lib.ListN.{get_or, length, set}
use lib.Seq.{get_or-set_same, set_out}
use Rattle.lists.proofs.Agree.{Agree, Beside, InRange, agree_fewer, part_alike, sets_alike, sets_away}
use Rattle.records.specs.declared.Observation.{Observation}
use Rattle.records.specs.Records.{in_parts, log_part, record_bytes, record_index, record_size, stored_at}
use Rattle.records.proofs.Parts.{parts_follow}
use Rattle.isolation.proofs.TwoRuns.Relations.{LogIndex}

-- a count raised by one in a list is at most one more there: a index past the list's end keeps what it had
pub raised : (counts : List ℕ) (domain : ℕ)
    → get_or (set counts domain (get_or counts domain 0 + 1)) domain 0 ≤ get_or counts domain 0 + 1
raised counts domain = go (dec_lt domain (length counts))
  where
    go : Dec (domain < length counts)
        → get_or (set counts domain (get_or counts domain 0 + 1)) domain 0 ≤ get_or counts domain 0 + 1
    go (yes h) = omega (arith, get_or-set_same counts domain (get_or counts domain 0 + 1) 0 h)
    go (no h) = rw (set_out counts domain (get_or counts domain 0 + 1) (omega arith)) (omega arith)

module _ (quota domain count : ℕ) where
  -- the same record stored behind the records so far
  pub stored_alike : (next : ℕ) (seen : Observation) (clock : ℕ) {one other : List ℕ} → next ≤ count + 1
      → Agree (LogIndex quota domain count) one other
      → Agree (LogIndex quota domain next) (stored_at (in_parts quota domain) count seen clock one)
      (stored_at (in_parts quota domain) count seen clock other)
  unfolding stored_at record_bytes
  stored_alike next seen clock {one} {other} few a =
      sets_alike (record_index quota domain count) (record_bytes seen clock) (agree_fewer before a)
    where
      before : (index : ℕ) → Beside (LogIndex quota domain next) (record_index quota domain count) record_size index
          → LogIndex quota domain count index
      before index p = go (dec_lt index (record_index quota domain count))
        where
          go : Dec (index < record_index quota domain count) → LogIndex quota domain count index
          go (yes h) = record { from = p.named.from; recorded = h; in_part = p.named.in_part }
          go (no h) = absurd (p.outside (omega arith))

  -- a record of another domain, whose part is not full
  pub stored_away : (running number : ℕ) (seen : Observation) (clock : ℕ) (log : List ℕ) → number < quota
      → (domain ≡ running → ⊥)
      → Agree (LogIndex quota domain count) log (stored_at (in_parts quota running) number seen clock log)
  unfolding stored_at record_bytes
  stored_away running number seen clock log room other =
      sets_away log (record_index quota running number) (record_bytes seen clock) (λ index h p. apart index h p (dec_lt domain running))
    where
      apart : (index : ℕ) → InRange (record_index quota running number) record_size index
          → LogIndex quota domain count index
          → Dec (domain < running) → ⊥
      apart index h p (yes lower) = omega (arith, parts_follow quota domain running lower)
      apart index h p (no higher) = omega (arith, parts_follow quota running domain (omega arith))

  -- the records so far, where the part holds them
  pub part_of_log : {one other : List ℕ} → count ≤ quota → Agree (LogIndex quota domain count) one other
      → log_part quota domain count one ≡ log_part quota domain count other
  unfolding log_part
  part_of_log few a = part_alike (record_index quota domain 0) (record_size * count) (λ index h. omega arith) a
