-- An op that stands next in a script is within its limits, and stands at a position of the script. Assumes nothing.
use Rattle.std.specs.Prelude.{Some, None}
use Prim.Native.Nat.{ℕ, ◌+◌, ◌*◌, ◌<◌}
use mathlib.Core.Bool.{Bool, true, false, cond}
use mathlib.Core.List.{List}
use mathlib.Core.Path.{◌≡◌, refl}
use lib.Dec.{ltb}
use lib.ListN.{get_or}
use borrow.Author.Tests.{ltb-true}
use Rattle.script.specs.declared.Op.{Op}
use Rattle.script.specs.Fetch.{decode_of, fetch_of}
use Rattle.script.specs.Limits.{OpWithinLimits, most_ops}
use Rattle.script.proofs.Laws.{decode_within}
use Rattle.script.proofs.ScriptEnd.{end_is_none}

module _ (scripts : List ℕ) (domain position : ℕ) (op : Op) (fetched : fetch_of scripts domain position ≡ Some op) where
  -- the stored number there was decoded
  fetched_op : (position < most_ops) × (decode_of (get_or scripts (most_ops * domain + position) 0) ≡ Some op)
  unfolding fetch_of
  fetched_op = go (ltb position most_ops) refl fetched
    where
      go : (before : Bool) → ltb position most_ops ≡ before
          → cond before (decode_of (get_or scripts (most_ops * domain + position) 0)) None ≡ Some op
          → (position < most_ops) × (decode_of (get_or scripts (most_ops * domain + position) 0) ≡ Some op)
      go true test is = (ltb-true position most_ops test, is)
      go false test is = absurd (end_is_none op is)

  pub fetched_below : position < most_ops
  fetched_below = fetched_op.0

  pub fetched_within : OpWithinLimits op
  fetched_within = decode_within _ op fetched_op.1
