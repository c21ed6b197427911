-- The least pad is enough, and no smaller one is: a host may lend a clock as late as an op can leave it, with every line of
-- L1 dirty and every way of the kernel's sets full. Assumes nothing.
use Prim.Native.Nat.{ℕ, ◌+◌, ◌<◌}
use mathlib.Core.List.{List, [], ◌∷◌, ◌++◌}
use mathlib.Core.Path.{◌≡◌, refl}
use native.Mathlib.Omega.{arith}
use lib.ListN.{replicate}
use Rattle.lists.specs.Part.{part, splice}
use Rattle.plan.specs.declared.Plan.{Plan}
use Rattle.plan.specs.Colours.{colours_of, first_colour, has_bit, mask_from, mask_of, shares_total}
use Rattle.plan.specs.Limits.{least_pad}
use Rattle.plan.specs.Sums.{all_below, sum_to}
use Rattle.plan.specs.Validity.{counts_valid, declared_valid, domain_valid, mask_valid, plan_valid, undeclared_valid, window_valid}
use Rattle.plan.specs.Windows.{ticks_total, window_end, window_length, window_owner, window_start, windows_total}
use Rattle.cache.specs.Access.{access_of, lookup_at, lookup_l1, lookup_l2, lookup_of, seek_of, write_back_at, write_back_of, written_back}
use Rattle.cache.specs.Flush.{count_where, dirty_lines, kernel_flush_ticks, kernel_flushed, l1_flush_ticks, l1_flushed, valid_lines}
use Rattle.cache.specs.Sets.{has, move_to_front, without}
use Rattle.records.specs.Records.{part_records}
use Rattle.ops.specs.Ops.{empty_boxes}
use Rattle.state.specs.StateValidity.{clock_valid, domain_counts_valid, state_valid}
use Rattle.state.specs.TableValidity.{all_empty, box_valid, l1_entry_valid, line_allowed, set_valid, tables_valid, ways_valid}
use Rattle.state.specs.World.{World, ended_of}
use Rattle.machine.specs.LeastPad.{LeastPadNeeded, OnTime, with_pad}
use Rattle.machine.specs.Switch.{flushed_clock, padded_clock, switch_by, switch_of, touched_clock, touched_clock_by}
use Rattle.machine.proofs.Schedule.{switch_clock, valid_scheduled}

pub on_time_lem : OnTime
on_time_lem plan quota world possible passes in_a_window =
    switch_clock plan world possible (valid_scheduled plan quota world possible passes) in_a_window

-- ---- a smaller pad

-- domain 0 has the colours 0 to 5, and so lines for every L1 index; two windows of 1,000 ticks
abbrev pad_plan : Plan
pad_plan =
    record {
      pad = 0;
      run = 2;
      domains = 1;
      windows = 1;
      shares = 400 ∷ replicate 7 0;
      rights = replicate 8 0;
      owners = replicate 32 0;
      lengths = 1_000 ∷ replicate 31 0;
      masks = 63 ∷ replicate 7 0;
    }

-- the lines 0 to 15, all dirty
abbrev dirty_l1 : List ℕ
dirty_l1 =
    32_769 ∷ 32_770 ∷ 32_771 ∷ 32_772 ∷ 32_773 ∷ 32_774 ∷ 32_775 ∷ 32_776
    ∷ 32_777 ∷ 32_778 ∷ 32_779 ∷ 32_780 ∷ 32_781 ∷ 32_782 ∷ 32_783 ∷ 32_784 ∷ []

-- four lines in each of the kernel's sets
abbrev full_kernel : List ℕ
full_kernel =
    61 ∷ 125 ∷ 189 ∷ 253 ∷ 62 ∷ 126 ∷ 190 ∷ 254
    ∷ 63 ∷ 127 ∷ 191 ∷ 255 ∷ 64 ∷ 128 ∷ 192 ∷ 256 ∷ []

abbrev full_cache : List ℕ
full_cache = dirty_l1 ++ (replicate 240 0 ++ full_kernel)

-- in the first window, 212 ticks after its end
abbrev late_world : World
late_world =
    record {
      state = record { windows = 0; clock = 1_212; positions = replicate 8 0; records = replicate 8 0 };
      cache = full_cache;
      boxes = empty_boxes;
      log = [];
    }

-- both flushes take 64 ticks, and the touch 100
late_touch : touched_clock 1_212 1_000 full_cache ≡ 1_376
unfolding
    touched_clock_by flushed_clock kernel_flush_ticks l1_flush_ticks kernel_flushed l1_flushed valid_lines dirty_lines
    count_where part splice access_of seek_of write_back_at write_back_of written_back lookup_at lookup_of lookup_l1 lookup_l2
    has move_to_front without
late_touch = refl

-- the window ends at 1,000, whatever the pad
ends : (pad : ℕ) → window_end (with_pad pad_plan pad) 0 ≡ 1_000
unfolding window_end window_start window_length sum_to
ends pad = refl

starts : (pad : ℕ) → window_start (with_pad pad_plan pad) 1 ≡ 1_000 + pad
unfolding window_end window_start window_length sum_to
starts pad = omega arith

too_late : (pad : ℕ) → pad < least_pad
    → window_start (with_pad pad_plan pad) 1 < (switch_of (with_pad pad_plan pad) late_world).state.clock
unfolding switch_by padded_clock
too_late pad less = rw (ends pad) (omega (arith, starts pad, late_touch))

pub least_pad_needed : LeastPadNeeded
unfolding
    plan_valid counts_valid domain_valid declared_valid undeclared_valid mask_valid window_valid all_below shares_total
    sum_to ticks_total colours_of mask_of mask_from first_colour has_bit state_valid clock_valid domain_counts_valid
    window_start window_end window_length window_owner windows_total tables_valid l1_entry_valid line_allowed set_valid
    ways_valid all_empty box_valid ended_of part has part_records
least_pad_needed =
    record {
      plan = pad_plan;
      world = late_world;
      plan_is_valid = refl;
      cache_long = refl;
      boxes_long = refl;
      tables_are_valid = λ pad below. refl;
      state_is_valid = λ pad below. refl;
      in_window = omega arith;
      too_late = too_late;
    }
