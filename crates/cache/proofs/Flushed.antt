-- The cells of a table once both flushes of a switch are done: L1 and the kernel's sets are empty, the other sets are as
-- they were. Assumes nothing.
use Prim.Native.Nat.{ℕ, ◌+◌, ◌-◌, ◌≤◌, ◌<◌}
use mathlib.Core.List.{List}
use mathlib.Core.Path.{◌≡◌, ◌∙◌}
use native.Mathlib.Omega.{arith}
use lib.ListN.{get_or, get_or-replicate, length, length-replicate, replicate}
use Rattle.lists.proofs.Parts.{splice_after, splice_before, splice_within}
use Rattle.cache.specs.Flush.{flushed_cache, kernel_flushed, l1_flushed}
use Rattle.cache.specs.Lines.{kernel_entries, kernel_index, l1_length, table_length}
use Rattle.cache.proofs.Laws.{kernel_flush_length, l1_flush_length}

-- what is put in is as long as what it is put for
zeros_length : (count : ℕ) → length {A = ℕ} (replicate count 0) ≡ count
zeros_length count = length-replicate {A = ℕ} count 0

-- L1 is empty, whatever the table's length
pub flushed_l1 : (cache : List ℕ) (index : ℕ) → index < l1_length → get_or (flushed_cache cache) index 0 ≡ 0
unfolding l1_flushed
flushed_l1 cache index below =
    let place : 0 + index ≡ index = omega arith in
    rw place at
    (splice_within 0 l1_length (replicate l1_length 0) (kernel_flushed cache) (omega arith) index
    (omega (arith, zeros_length l1_length)))
    ∙ get_or-replicate l1_length index 0 0 below

module _ (cache : List ℕ) (long : length cache ≡ table_length) where
  kernel_long : length (kernel_flushed cache) ≡ table_length
  kernel_long = kernel_flush_length cache long ∙ long

  pub flushed_long : length (flushed_cache cache) ≡ table_length
  flushed_long = l1_flush_length (kernel_flushed cache) kernel_long ∙ kernel_long

  -- past L1 only the kernel's flush matters
  flushed_l2 : (cell : ℕ) → l1_length ≤ cell → get_or (flushed_cache cache) cell 0 ≡ get_or (kernel_flushed cache) cell 0
  unfolding l1_flushed
  flushed_l2 cell past =
      splice_after 0 l1_length (replicate l1_length 0) (kernel_flushed cache) (omega arith) cell (zeros_length l1_length)
      (omega arith)

  -- the kernel's sets are empty
  pub flushed_kernel : (cell : ℕ) → kernel_index ≤ cell → cell < table_length → get_or (flushed_cache cache) cell 0 ≡ 0
  unfolding kernel_flushed
  flushed_kernel cell past within =
      let place : kernel_index + (cell - kernel_index) ≡ cell = omega arith in
      flushed_l2 cell (omega arith)
      ∙ rw place
      at (splice_within kernel_index kernel_entries (replicate kernel_entries 0) cache (omega arith) (cell - kernel_index)
      (omega (arith, zeros_length kernel_entries)))
      ∙ get_or-replicate kernel_entries (cell - kernel_index) 0 0 (omega arith)

  -- the other sets are as they were
  pub flushed_others : (cell : ℕ) → l1_length ≤ cell → cell < kernel_index
      → get_or (flushed_cache cache) cell 0 ≡ get_or cache cell 0
  unfolding kernel_flushed
  flushed_others cell past before =
      flushed_l2 cell past
      ∙ splice_before kernel_index kernel_entries (replicate kernel_entries 0) cache (omega arith) cell before
