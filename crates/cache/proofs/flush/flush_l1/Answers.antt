-- `flush_l1` meets its contract: the count is taken before the part is emptied. Assumes nothing.
use native.Mathlib.Omega.{arith}
use lib.ListN.{take}
use Rattle.cache.specs.Flush.{dirty_lines, l1_flushed, l1_flush_ticks}
use Rattle.cache.specs.Lines.{is_dirty, l1_length}
use Rattle.cache.proofs.Ticks.{count_part_limit}
use Rattle.cache.proofs.Emptied.{flush_outcome}
use Rattle.cache.proofs.flush.flush_l1.Goals as goal

pub overflow_mul-result : goal.overflow_mul-result
overflow_mul-result c = omega (arith, c.count_dirty-dirty.ensures, count_part_limit is_dirty 0 l1_length (take l1_length c.args.table.now))

pub overflow_add-result : goal.overflow_add-result
overflow_add-result c = omega (arith, c.count_dirty-dirty.ensures, count_part_limit is_dirty 0 l1_length (take l1_length c.args.table.now))

pub returns : goal.returns
unfolding dirty_lines l1_flushed l1_flush_ticks
returns c =
    let emptied = c.fill.ensures.after (λ number is. is) in
    let outcome =
    flush_outcome is_dirty 0 l1_length c.count_dirty-dirty.result c.fill.new.self c.args.table.now (omega arith)
    c.count_dirty-dirty.ensures emptied in
    (rw outcome.0, outcome.1)
