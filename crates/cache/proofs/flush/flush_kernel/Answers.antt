-- `flush_kernel` meets its contract: the count is taken before the part is emptied. Assumes nothing.
use Prim.Native.Nat.{ℕ, ◌-◌}
use mathlib.Core.Path.{◌≡◌, ap, ◌∙◌}
use native.Mathlib.Omega.{arith}
use lib.ListN.{drop, length, replicate, take}
use Rattle.lists.specs.Part.{splice}
use Rattle.cache.specs.Flush.{kernel_flushed, kernel_flush_ticks, valid_lines}
use Rattle.cache.specs.Lines.{is_valid, kernel_entries, kernel_index}
use Rattle.cache.proofs.Ticks.{count_part_limit}
use Rattle.cache.proofs.Emptied.{flush_outcome}
use Rattle.cache.proofs.flush.flush_kernel.Goals as goal

pub overflow_add-result : goal.overflow_add-result
overflow_add-result c =
    let count = length c.args.table.now - kernel_index in
    omega (
      arith,
      c.count_valid-valid.ensures,
      count_part_limit is_valid 0 count (take count (drop kernel_index c.args.table.now)),
    )

pub returns : goal.returns
unfolding kernel_flushed kernel_flush_ticks valid_lines
returns c =
    let table = c.args.table.now in
    let emptied = c.fill.ensures.after (λ number is. is) in
    -- the kernel's sets are the last of the table
    let entries : length table - kernel_index ≡ kernel_entries = omega arith in
    let outcome =
    flush_outcome is_valid kernel_index (length table - kernel_index) c.count_valid-valid.result c.fill.new.self table
    (omega arith) c.count_valid-valid.ensures emptied in
    (rw (outcome.0, entries), outcome.1 ∙ ap (λ (count : ℕ). splice kernel_index count (replicate count 0) table) entries)
