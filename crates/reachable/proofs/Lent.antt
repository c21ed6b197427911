-- Tables that are lent sound stay so, whatever steps are done on them. Assumes nothing.
use Prim.Native.Nat.{ℕ, ◌<◌}
use mathlib.Core.Bool.{true}
use mathlib.Core.Path.{◌≡◌, refl}
use native.Mathlib.Decide.{dec_lt}
use native.Mathlib.Omega.{arith}
use lib.ListN.{get_or-eq_default, get_or, length}
use Rattle.plan.specs.declared.Plan.{Plan}
use Rattle.plan.specs.Sums.{all_below}
use Rattle.plan.proofs.Sums.{all_below_lem}
use Rattle.cache.specs.Lines.{l1_length, set_count}
use Rattle.ops.specs.Ops.{boxes_length}
use Rattle.state.specs.TableValidity.{box_holds, box_valid, l1_entry_valid, set_valid, tables_valid}
use Rattle.state.specs.World.{World}
use Rattle.machine.proofs.Invariant.{steps_hold}
use Rattle.lists.proofs.Tests.{both}
use Rattle.reachable.specs.Lent.{LentStaysSound, TablesSound}
use Rattle.reachable.proofs.Effects.{empty_box}
use Rattle.reachable.proofs.Tables.{Sound, after_op, after_switch, passes_tables}

-- what 13 asks, number by number
pub sound_lent : (plan : Plan) (world : World) → TablesSound plan world → Sound plan (length world.log) world
unfolding tables_valid l1_entry_valid box_valid
sound_lent plan world lent =
    let cache = all_below (set_valid world.cache) set_count in
    let parts = both _ (all_below (box_valid plan world.boxes) boxes_length) lent.valid in
    let tables = both cache (all_below (l1_entry_valid plan world.state world.cache) l1_length) parts.0 in
    record {
      cache =
          record {
            long = lent.cache_long;
            lines = λ index below. all_below_lem (l1_entry_valid plan world.state world.cache) l1_length index tables.1 below;
            sets = λ set below. all_below_lem (set_valid world.cache) set_count set tables.0 below;
          };
      boxes =
          record {
            long = lent.boxes_long;
            full = λ index. box parts.1 index (dec_lt index boxes_length);
          };
      log = refl;
    }
  where
    box : all_below (box_valid plan world.boxes) boxes_length ≡ true → (index : ℕ) → Dec (index < boxes_length)
        → box_holds plan index (get_or world.boxes index 0) ≡ true
    box all index (yes below) = all_below_lem (box_valid plan world.boxes) boxes_length index all below
    box all index (no past) =
        empty_box plan index _ (get_or-eq_default world.boxes 0 (omega (arith, lent.boxes_long)))

pub lent_stays_sound : LentStaysSound
lent_stays_sound plan scripts quota count world possible lent =
    let after =
    steps_hold _ plan scripts quota (Sound plan (length world.log))
    (after_switch plan scripts quota (length world.log) possible) (after_op plan scripts quota (length world.log) possible)
    world (sound_lent plan world lent) count in
    record {
      cache_long = after.cache.long;
      boxes_long = after.boxes.long;
      valid = passes_tables plan (length world.log) _ after;
    }
