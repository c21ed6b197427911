-- When two worlds are the same for a domain: outside its windows, and inside. Outside it has its position, its records
-- and its part of the partitioned cache; inside also the window and the clock, what a switch empties, and the boxes
-- that it may receive from. Assumes nothing.
use Prim.Native.Nat.{ℕ, ◌≤◌, ◌<◌}
use mathlib.Core.Path.{◌≡◌, refl}
use Rattle.plan.specs.declared.Plan.{Plan}
use Rattle.records.specs.Records.{record_index}
use Rattle.state.specs.World.{World, position_at, records_at}
use Rattle.lists.proofs.Agree.{Agree, agree_refl, agree_sym, agree_trans}
use Rattle.isolation.specs.Statement.{Only}
use Rattle.isolation.proofs.TwoRuns.Indices.{FlushedIndex, OwnIndex}

-- the bytes of a domain's records so far, inside its part of the log
pub record LogIndex (quota domain count index : ℕ) : Type 0 where
  pub from : record_index quota domain 0 ≤ index
  pub recorded : index < record_index quota domain count
  pub in_part : index < record_index quota domain quota

module _ (plan : Plan) (quota domain : ℕ) where
  -- outside its windows
  pub record Alike (one other : World) : Type 0 where
    pub positions : Agree (Only domain) one.state.positions other.state.positions
    pub records : Agree (Only domain) one.state.records other.state.records
    pub sets : Agree (OwnIndex plan domain) one.cache other.cache
    pub log : Agree (LogIndex quota domain (records_at one.state domain)) one.log other.log

  -- inside a window of its own, where the boxes of some indices are equal
  pub record Close (Kept : ℕ → Type 0) (one other : World) : Type 0 where
    pub outside : Alike one other
    pub windows : one.state.windows ≡ other.state.windows
    pub clock : one.state.clock ≡ other.state.clock
    pub flushed : Agree FlushedIndex one.cache other.cache
    pub boxes : Agree Kept one.boxes other.boxes

  module _ {one other : World} (a : Alike one other) where
    pub same_position : position_at one.state domain ≡ position_at other.state domain
    same_position = a.positions.at domain refl

    pub same_records : records_at one.state domain ≡ records_at other.state domain
    same_records = a.records.at domain refl

  -- outside its windows, to be the same is an equivalence
  pub alike_refl : (world : World) → Alike world world
  alike_refl world =
      record { positions = agree_refl _ _; records = agree_refl _ _; sets = agree_refl _ _; log = agree_refl _ _ }

  pub alike_sym : {one other : World} → Alike one other → Alike other one
  alike_sym {one} {other} a =
      record {
        positions = agree_sym a.positions;
        records = agree_sym a.records;
        sets = agree_sym a.sets;
        log = rw (← (same_records a)) (agree_sym a.log);
      }

  pub alike_trans : {one two three : World} → Alike one two → Alike two three → Alike one three
  alike_trans {one} {two} {three} a b =
      record {
        positions = agree_trans a.positions b.positions;
        records = agree_trans a.records b.records;
        sets = agree_trans a.sets b.sets;
        log = agree_trans a.log (rw (same_records a) b.log);
      }
