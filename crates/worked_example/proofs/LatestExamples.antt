-- The examples of the latest finish, proved together, each by computing. Assumes nothing.
use mathlib.Core.Path.{refl}
use Rattle.plan.specs.Colours.{holding_of}
use Rattle.plan.proofs.Bits.{mask_ones}
use Rattle.latest.specs.Answer.{domain_fits, latest_of, latest_verdict, window_fits}
use Rattle.latest.specs.Latest.{box_indices, late_by, latest_alone, latest_apart, latest_first, latest_later, latest_meeting, latest_ticks}
use Rattle.latest.specs.Lowest.{lowest_from}
use Rattle.latest.specs.Reach.{box_count, first_window, has_box, lowest_colour, lowest_recipient, lowest_sender, meets_kernel, own_indices}
use Rattle.latest.specs.Reach.{starts_run}
use Rattle.latest.specs.Script.{first_message, last_op, late_number, late_numbers, late_script_of, latest_script, message_at, opening_ops}
use Rattle.latest.specs.Script.{opening_ticks, replacing_ticks, waiting_ticks, written_ticks}
use Rattle.engine.proofs.Computing.{computing}
use Rattle.worked_example.specs.Example.{text_of}
use Rattle.worked_example.specs.LatestExamples.{LatestExamples, stored_script, writes_from}
use Rattle.worked_example.proofs.Reading.{reading}

-- a domain's holding is rewritten by the law that counts a mask's ones, since to count them one by one takes long
pub latest_examples : LatestExamples
unfolding
    computing reading text_of stored_script writes_from holding_of
    lowest_from first_window starts_run lowest_colour own_indices meets_kernel lowest_recipient lowest_sender has_box box_count
    late_by latest_alone latest_meeting latest_apart latest_first box_indices latest_later latest_ticks
    message_at opening_ops opening_ticks replacing_ticks written_ticks waiting_ticks first_message last_op
    late_script_of late_number late_numbers latest_script
    window_fits domain_fits latest_verdict latest_of
latest_examples =
    record {
      wide = (refl, rw (mask_ones 0 14) refl);
      other = (refl, rw (mask_ones 14 1) refl);
      script = rw (mask_ones 0 14) refl;
      clock = refl;
      reached = refl;
      later_script_is = rw (mask_ones 14 1) refl;
      later_clock = refl;
      later_reached = refl;
      busy = (refl, rw (mask_ones 2 5) refl);
      alone = (refl, rw (mask_ones 0 1) refl);
      boxed = (refl, rw (mask_ones 0 1) refl);
      four = (refl, rw (mask_ones 1 4) refl);
      third = (refl, rw (mask_ones 3 1) refl);
      longest = (refl, rw (mask_ones 0 14) refl);
      too_short = refl;
      too_long = refl;
      other_judged = (refl, rw (mask_ones 14 1) refl);
      windowless = refl;
      undeclared = refl;
      short_buffer = refl;
      impossible = refl;
    }
