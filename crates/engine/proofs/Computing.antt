-- Every definition that an example of the entry points computes with, named once: whoever unfolds `computing` unfolds them all. Assumes nothing.
use Prim.Native.Nat.{ℕ}
use Rattle.lists.specs.Part.{part, splice}
use Rattle.script.specs.Fetch.{op_of, decode_of, fetch_of}
use Rattle.script.specs.Stored.{stored_of}
use Rattle.plan.specs.Colours.{colours_of, shares_total, first_colour, mask_from, mask_of, has_bit}
use Rattle.plan.specs.Sums.{sum_to, all_below}
use Rattle.plan.specs.Validity.{counts_valid, declared_valid, undeclared_valid, domain_valid, mask_valid, window_valid, plan_valid}
use Rattle.plan.specs.Windows.{window_owner, window_length, window_start, window_end, windows_total, ticks_total}
use Rattle.cache.specs.Access.{lookup_l1, lookup_l2, lookup_of, lookup_at, write_back_of, write_back_at, written_back, seek_of, access_of}
use Rattle.cache.specs.Flush.{count_where, dirty_lines, valid_lines, kernel_flush_ticks, l1_flush_ticks, kernel_flushed, l1_flushed, line_emptied}
use Rattle.cache.specs.Sets.{has, move_to_front, without}
use Rattle.records.specs.Records.{log_part, only_of, part_records, record_bytes, stored_at}
use Rattle.ops.specs.Ops.{owns_line, touch_by, message_by, box_observation, receive_by, compute_of, effect_by}
use Rattle.state.specs.StateValidity.{clock_valid, domain_counts_valid, state_valid}
use Rattle.state.specs.TableValidity.{line_allowed, l1_entry_valid, all_empty, ways_valid, set_valid, box_valid, tables_valid}
use Rattle.state.specs.World.{ended_of, fresh_state}
use Rattle.machine.specs.Fresh.{fresh_world}
use Rattle.machine.specs.Steps.{active_step_by, next_step_of, op_step_by, run_by, step_by, switch_due}
use Rattle.machine.specs.Switch.{flushed_clock, padded_clock, switch_by, switched_cache_by, touched_clock_by}
use Rattle.engine.specs.Checks.{fresh_verdict, kept_verdict, lent_verdict, log_verdict, run_verdict}
use Rattle.engine.specs.FreshStart.{fresh_start_of}
use Rattle.engine.specs.Keeping.{kept_call_of}
use Rattle.engine.specs.LogQuery.{log_query_of, log_status_of}
use Rattle.engine.specs.Running.{ran_from, run_call_of, step_call_of}

unfoldable pub computing : ℕ
unfolding
    part splice
    op_of decode_of fetch_of stored_of
    colours_of shares_total first_colour mask_from mask_of has_bit sum_to all_below
    counts_valid declared_valid undeclared_valid domain_valid mask_valid window_valid plan_valid
    window_owner window_length window_start window_end windows_total ticks_total
    lookup_l1 lookup_l2 lookup_of lookup_at write_back_of write_back_at written_back seek_of access_of has move_to_front without
    count_where dirty_lines valid_lines kernel_flush_ticks l1_flush_ticks kernel_flushed l1_flushed line_emptied
    record_bytes part_records only_of stored_at log_part
    owns_line touch_by message_by box_observation receive_by compute_of effect_by
    clock_valid domain_counts_valid state_valid
    line_allowed l1_entry_valid all_empty ways_valid set_valid box_valid tables_valid
    ended_of fresh_state fresh_world op_step_by switch_due next_step_of active_step_by step_by run_by
    flushed_clock touched_clock_by padded_clock switched_cache_by switch_by
    fresh_verdict lent_verdict run_verdict kept_verdict log_verdict fresh_start_of log_query_of log_status_of
    ran_from run_call_of step_call_of kept_call_of
computing = 0
