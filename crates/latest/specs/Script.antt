-- Document 02, E6 and E9: a script that finishes its domain's first window as late as can be. In
-- its order: an opening of messages, which brings kernel lines in; a write of one line for each L1
-- index of the domain's own lines; computes up to the window's last tick; and the dearest op.
-- Assumes nothing.
use Rattle.std.specs.Prelude.{ℕ, zero, suc, ◌+◌, ◌*◌, ◌-◌, ◌/◌, ◌%◌, cond, List, [], ◌∷◌, eqb, ltb, get_or}
use Rattle.plan.specs.declared.Plan.{Plan}
use Rattle.plan.specs.Limits.{most_domains}
use Rattle.script.specs.declared.Op.{Op}
use Rattle.script.specs.declared.Op.TheVariants.{Write, Send, Receive, Compute}
use Rattle.script.specs.Limits.{most_ops, most_ticks}
use Rattle.script.specs.Stored.{stored_of}
use Rattle.cache.specs.Access.{dirty_ticks, hit1_ticks, miss_ticks}
use Rattle.cache.specs.Lines.{sets_per_colour}
use Rattle.ops.specs.Ops.{message_ticks}
use Rattle.latest.specs.declared.LateScript.{LateScript}
use Rattle.latest.specs.Reach.{box_count, first_window, has_box, lowest_colour, lowest_recipient}
use Rattle.latest.specs.Reach.{lowest_sender, meets_kernel, own_indices, starts_run}

-- ---- the opening

-- how many messages there are: to each domain, and from each
abbrev pub all_messages : ℕ
all_messages = 2 * most_domains

-- the message at an index among them
unfoldable pub message_at : ℕ → Op
message_at index =
    cond (ltb index most_domains) (Send index 0) (Receive (index - most_domains))

-- how many of them come before the writes. In the run's first window: with a box none, since there
-- the first message is to be the last op; without one the first, which is denied and brings the
-- kernel's entry line in. In any other window all, which bring in the line of every box that the
-- domain may use; the others are denied.
unfoldable pub opening_ops : Plan → ℕ → ℕ
opening_ops plan domain =
    cond (starts_run plan domain) (cond (has_box plan domain) 0 1) all_messages

-- their ticks. In the run's first window the entry line misses; in any other L1 holds it, and each
-- box's line misses and replaces, dirty, the one before it.
unfoldable pub opening_ticks : Plan → ℕ → ℕ
opening_ticks plan domain =
    cond (starts_run plan domain) ((message_ticks + miss_ticks) * opening_ops plan domain)
    ((message_ticks + hit1_ticks) * all_messages
    + ((miss_ticks + dirty_ticks) * box_count plan domain - dirty_ticks))

-- ---- the writes and the wait

-- what the writes take for replacing a box's line, which the opening left dirty
unfoldable pub replacing_ticks : Plan → ℕ → ℕ
replacing_ticks plan domain =
    cond (starts_run plan domain) 0
    (cond (has_box plan domain) (cond (meets_kernel plan domain) dirty_ticks 0) 0)

-- the ticks from the window's start until the writes are done, each of them a miss
unfoldable pub written_ticks : Plan → ℕ → ℕ
written_ticks plan domain =
    opening_ticks plan domain + (miss_ticks * own_indices plan domain + replacing_ticks plan domain)

-- the ticks from there to the first window's last tick
unfoldable pub waiting_ticks : Plan → ℕ → ℕ
waiting_ticks plan domain =
    get_or plan.lengths (first_window plan domain) 0 - 1 - written_ticks plan domain

-- ---- the last op

-- with a box, in the run's first window: a message to the lowest domain that it may send to, or,
-- where there is none, one from the lowest that may send to it; without one the longest compute
unfoldable pub first_message : Plan → ℕ → Op
first_message plan domain =
    cond (ltb (lowest_recipient plan domain) most_domains) (Send (lowest_recipient plan domain) 0)
    (cond (ltb (lowest_sender plan domain) most_domains) (Receive (lowest_sender plan domain))
    (Compute most_ticks))

-- the op that begins in the last tick: in any other window the longest compute
unfoldable pub last_op : Plan → ℕ → Op
last_op plan domain =
    cond (starts_run plan domain) (first_message plan domain) (Compute most_ticks)

-- ---- the script

-- by its parts: how many ops come before the writes; how many writes, and the first one's line, the
-- others being of the lines that follow it; how many of the longest computes, and the ticks of the
-- one after them; the number of the last op
unfoldable pub late_script_of : Plan → ℕ → LateScript
late_script_of plan domain =
    record {
      opening = opening_ops plan domain;
      writes = own_indices plan domain;
      line = sets_per_colour * lowest_colour plan domain;
      waits = (waiting_ticks plan domain - 1) / most_ticks;
      rest = (waiting_ticks plan domain - 1) % most_ticks + 1;
      last = stored_of (last_op plan domain);
    }

-- the stored number at a position; past the last op it is 0
unfoldable pub late_number : LateScript → ℕ → ℕ
late_number script position =
    let written = script.opening + script.writes in
    let waited = written + script.waits in
    cond (ltb position script.opening) (stored_of (message_at position))
    (cond (ltb position written) (stored_of (Write (script.line + (position - script.opening))))
    (cond (ltb position waited) (stored_of (Compute most_ticks))
    (cond (eqb position waited) (stored_of (Compute script.rest))
    (cond (eqb position (waited + 1)) script.last 0))))

-- the numbers at the `left` positions from `position` on
unfoldable pub late_numbers : LateScript → ℕ → ℕ → List ℕ
late_numbers script zero position = []
late_numbers script (suc left) position =
    late_number script position ∷ late_numbers script left (position + 1)

-- the whole script
unfoldable pub latest_script : Plan → ℕ → List ℕ
latest_script plan domain = late_numbers (late_script_of plan domain) most_ops 0
