-- What a switch leaves of two cache tables: in L1 and the kernel's sets the same, whatever they held, and every other
-- index as it was. Assumes nothing.
use Prim.Native.Nat.{ℕ, ◌+◌, ◌-◌, ◌≤◌, ◌<◌}
use mathlib.Core.Bool.{Bool}
use mathlib.Core.List.{List}
use mathlib.Core.Path.{◌≡◌, sym, ◌∙◌}
use native.Mathlib.Omega.{arith}
use lib.ListN.{get_or, length}
use Rattle.cache.specs.Lines.{kernel_index, l1_length, table_length}
use Rattle.lists.proofs.Agree.{Agree}
use Rattle.machine.specs.Switch.{switched_cache}
use Rattle.machine.proofs.Switched.{switched_kernel, switched_l1, switched_long, switched_others}
use Rattle.isolation.proofs.TwoRuns.Indices.{FlushedIndex, kernel, l1}

-- indices between L1 and the kernel's sets
pub switched_away : {Index : ℕ → Type 0} (last : Bool) (table : List ℕ) → length table ≡ table_length
    → ((index : ℕ) → Index index → (l1_length ≤ index) × (index < kernel_index)) → Agree Index table (switched_cache last table)
switched_away last table whole between =
    record {
      len = whole ∙ sym (switched_long table whole last);
      at = λ index p. sym (switched_others table whole last index (between index p).0 (between index p).1);
    }

-- what is emptied, and the line that is touched then, are the same
pub switched_alike : (last : Bool) (one other : List ℕ) → length one ≡ table_length → length other ≡ table_length
    → Agree FlushedIndex (switched_cache last one) (switched_cache last other)
switched_alike last one other whole whole' =
    record { len = switched_long one whole last ∙ sym (switched_long other whole' last); at = go }
  where
    kernel_same : (index : ℕ) → kernel_index ≤ index → index < table_length
        → get_or (switched_cache last one) index 0 ≡ get_or (switched_cache last other) index 0
    kernel_same index from below =
        let place : kernel_index + (index - kernel_index) ≡ index = omega arith in
        rw place at
        (switched_kernel one whole last (index - kernel_index) (omega arith)
        ∙ sym (switched_kernel other whole' last (index - kernel_index) (omega arith)))

    go : (index : ℕ) → FlushedIndex index → get_or (switched_cache last one) index 0 ≡ get_or (switched_cache last other) index 0
    go index (kernel h) = kernel_same index h.from (omega arith)
    go index (l1 h) = switched_l1 one whole last index (omega arith) ∙ sym (switched_l1 other whole' last index (omega arith))
