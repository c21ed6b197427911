-- A switch leaves a sound table for whoever runs next, and every line of L1 in front of its set. Assumes nothing.
use Prim.Native.Nat.{ℕ, ◌+◌, ◌≤◌, ◌<◌}
use mathlib.Core.Bool.{Bool, true, false}
use mathlib.Core.List.{List}
use mathlib.Core.Path.{◌≡◌, refl, sym, subst}
use native.Mathlib.Omega.{arith}
use lib.Dec.{ltb}
use lib.ListN.{length}
use borrow.Author.Tests.{ltb-false, ltb-true}
use Rattle.lists.proofs.Parts.{part_same}
use Rattle.plan.specs.declared.Plan.{Plan}
use Rattle.cache.specs.Flush.{flushed_cache}
use Rattle.cache.specs.Lines.{first_kernel_set, set_count, set_index, table_length, ways_per_set}
use Rattle.cache.proofs.Flushed.{flushed_kernel, flushed_l1, flushed_long, flushed_others}
use Rattle.ops.specs.Ops.{kernel_entry_line}
use Rattle.state.specs.declared.State.{State}
use Rattle.state.specs.TableValidity.{set_valid, ways_valid}
use Rattle.state.specs.World.{ended_of, running_of}
use Rattle.state.proofs.Empties.{zero_set}
use Rattle.machine.specs.Switch.{switched_cache, switched_cache_by}
use Rattle.machine.proofs.Switched.{switched_last}
use Rattle.reachable.specs.OldBoard.{InFront}
use Rattle.reachable.proofs.Effects.{kernel_allowed}
use Rattle.reachable.proofs.Fronts.{access_front, none_in_front}
use Rattle.reachable.proofs.Lines.{CacheValid, access_valid, zero_entry}

-- ---- both flushes

-- a set before the kernel's stays sound
kept_set : (cache : List ℕ) → length cache ≡ table_length → (set : ℕ) → set < first_kernel_set → set_valid cache set ≡ true
    → set_valid (flushed_cache cache) set ≡ true
unfolding set_valid
kept_set cache long set before sound =
    subst (λ ways. ways_valid set ways ≡ true)
    (sym (part_same (set_index set) ways_per_set (flushed_cache cache) cache
    (omega (arith, flushed_long cache long)) (omega arith)
    (λ way inside. flushed_others cache long (set_index set + way) (omega arith) (omega arith))))
    sound

-- the table is sound for any state: nobody's lines are in L1
flush_valid : (plan : Plan) (before after : State) (cache : List ℕ) → CacheValid plan before cache
    → CacheValid plan after (flushed_cache cache)
flush_valid plan before after cache sound =
    record {
      long = flushed_long cache sound.long;
      lines = λ index below. zero_entry plan after index _ (flushed_l1 cache index below);
      sets = λ set below. go set below (ltb set first_kernel_set) refl;
    }
  where
    go : (set : ℕ) → set < set_count → (other : Bool) → ltb set first_kernel_set ≡ other → set_valid (flushed_cache cache) set ≡ true
    go set below true test = kept_set cache sound.long set (ltb-true set first_kernel_set test) (sound.sets set below)
    go set below false test =
        let kernel : first_kernel_set ≤ set = ltb-false set first_kernel_set test in
        zero_set _ set
        (λ way inside. flushed_kernel cache sound.long (set_index set + way) (omega arith) (omega arith))

-- ---- the switch

module _ (plan : Plan) (before after : State) (cache : List ℕ) (sound : CacheValid plan before cache) where
  flushed_valid : CacheValid plan after (flushed_cache cache)
  flushed_valid = flush_valid plan before after cache sound

  -- the touched line is the kernel's, which whoever runs next may have in L1; after the end there is none
  pub switch_valid : (last : Bool) → ended_of plan after ≡ last → CacheValid plan after (switched_cache last cache)
  unfolding switched_cache_by
  switch_valid true ended = subst (CacheValid plan after) (sym (switched_last cache sound.long)) flushed_valid
  switch_valid false running =
      access_valid plan after running kernel_entry_line (omega arith)
      (kernel_allowed plan (running_of plan after) kernel_entry_line refl) false (flushed_cache cache) flushed_valid

  flushed_front : InFront (flushed_cache cache)
  flushed_front = none_in_front (flushed_cache cache) (λ index below. flushed_l1 cache index below)

  -- and it is in front of its set
  pub switch_front : (last : Bool) → InFront (switched_cache last cache)
  unfolding switched_cache_by
  switch_front true = subst InFront (sym (switched_last cache sound.long)) flushed_front
  switch_front false =
      access_front plan after (flushed_cache cache) flushed_valid flushed_front false kernel_entry_line (omega arith)
