-- Document 01, "What an op costs", and document 02, E7: the five ops, with their ticks, records,
-- caches and boxes. Assumes nothing.
use Rattle.std.specs.Prelude.{ℕ, ◌+◌, ◌*◌, ◌-◌, Bool, true, false, cond, List, eqb, ltb, get_or, replicate, set, Option, None}
use Rattle.plan.specs.declared.Plan.{Plan}
use Rattle.plan.specs.Limits.{most_domains}
use Rattle.plan.specs.Colours.{owns_colour}
use Rattle.plan.specs.Rights.{may_send}
use Rattle.script.specs.declared.Op.{Op}
use Rattle.script.specs.declared.Op.TheVariants.{Read, Write, Send, Receive, Compute}
use Rattle.cache.specs.declared.AccessKind.{AccessKind}
use Rattle.cache.specs.declared.AccessKind.TheVariants.{Hit1 as AtL1, Hit2 as AtL2}
use Rattle.cache.specs.declared.AccessKind.TheVariants.{Miss as Nowhere}
use Rattle.cache.specs.Lines.{colour_of, most_line, set_count}
use Rattle.cache.specs.Access.{AccessOutcome, access_of}
use Rattle.records.specs.declared.Observation.{Observation}
use Rattle.records.specs.declared.Observation.TheVariants.{Hit1, Hit2, Miss, Sent, Got, Empty}
use Rattle.records.specs.declared.Observation.TheVariants.{Denied, Ran, Barred}

-- what an op does: its ticks, what its domain sees, the dirty lines that its first and its second
-- access put out, and the cache table and boxes that it leaves. An access that it does not make puts
-- nothing out.
pub record Effect : Type 0 where
  pub ticks : ℕ
  pub seen : Observation
  pub first : Option ℕ
  pub second : Option ℕ
  pub cache : List ℕ
  pub boxes : List ℕ

-- a line is a domain's own: a line number of one of its colours
unfoldable pub owns_line : Plan → ℕ → ℕ → Bool
owns_line plan domain line = cond (ltb most_line line) false (owns_colour plan domain (colour_of line))

-- the ticks of a read or a write that is barred
abbrev pub barred_ticks : ℕ
barred_ticks = 5

-- the ticks of a send or a receive beside its accesses
abbrev pub message_ticks : ℕ
message_ticks = 5

-- the line that every send and receive reads first, whatever its rights: the entry to the kernel
abbrev pub kernel_entry_line : ℕ
kernel_entry_line = 60

-- a sender has a box for each recipient, in a row
abbrev pub box_index : ℕ → ℕ → ℕ
box_index sender recipient = most_domains * sender + recipient

-- the line of the first box
abbrev pub first_box_line : ℕ
first_box_line = 61

-- each box has a line of its own, all in one of the kernel's sets
abbrev pub box_line : ℕ → ℕ → ℕ
box_line sender recipient = first_box_line + set_count * box_index sender recipient

-- how many boxes there are
abbrev pub boxes_length : ℕ
boxes_length = 64

-- all boxes empty
abbrev pub empty_boxes : List ℕ
empty_boxes = replicate boxes_length 0

-- a box holds 0 for empty, else word + 1
abbrev pub full_box : ℕ → ℕ
full_box word = word + 1

-- hit1, hit2 or miss
abbrev pub access_observation : AccessKind → ℕ → Observation
access_observation AtL1 line = Hit1 line
access_observation AtL2 line = Hit2 line
access_observation Nowhere line = Miss line

-- what a receive finds in a box
unfoldable pub box_observation : ℕ → ℕ → Observation
box_observation sender box = cond (eqb box 0) (Empty sender) (Got (box - 1))

-- compute t: t ticks
unfoldable pub compute_of : ℕ → List ℕ → List ℕ → Effect
compute_of ticks cache boxes =
    record {
      ticks = ticks;
      seen = Ran ticks;
      first = None;
      second = None;
      cache = cache;
      boxes = boxes;
    }

-- ---- the ops, over the access that a board makes

module _ (access : Bool → ℕ → List ℕ → AccessOutcome) where
  -- read n, write n: barred, caches unchanged, where the line is not the domain's; else an access
  unfoldable pub touch_by : Plan → ℕ → Bool → ℕ → List ℕ → List ℕ → Effect
  touch_by plan domain writes line cache boxes =
      let made = access writes line cache in
      cond (owns_line plan domain line)
      (record {
        ticks = made.ticks;
        seen = access_observation made.found line;
        first = made.back;
        second = None;
        cache = made.table;
        boxes = boxes;
      })
      (record {
        ticks = barred_ticks;
        seen = Barred line;
        first = None;
        second = None;
        cache = cache;
        boxes = boxes;
      })

  -- what a send and a receive do alike: a read access to the kernel's entry line; where the sender's
  -- list lacks the recipient, no more; else a write access to the line of the box between them, and
  -- the box is given a new number
  unfoldable pub message_by : Plan → ℕ → ℕ → Observation → Observation → ℕ → List ℕ → List ℕ → Effect
  message_by plan sender recipient denied passed number cache boxes =
      let entry = access false kernel_entry_line cache in
      let box = access true (box_line sender recipient) entry.table in
      cond (may_send plan sender recipient)
      (record {
        ticks = message_ticks + entry.ticks + box.ticks;
        seen = passed;
        first = entry.back;
        second = box.back;
        cache = box.table;
        boxes = set boxes (box_index sender recipient) number;
      })
      (record {
        ticks = message_ticks + entry.ticks;
        seen = denied;
        first = entry.back;
        second = None;
        cache = entry.table;
        boxes = boxes;
      })

  -- send b w: the box holds w, overwriting. A full box is never reported.
  abbrev pub send_by : Plan → ℕ → ℕ → ℕ → List ℕ → List ℕ → Effect
  send_by plan sender recipient word cache boxes =
      message_by plan sender recipient (Denied recipient) (Sent recipient) (full_box word) cache boxes

  -- receive a: the box is emptied
  unfoldable pub receive_by : Plan → ℕ → ℕ → List ℕ → List ℕ → Effect
  receive_by plan receiver sender cache boxes =
      let found = box_observation sender (get_or boxes (box_index sender receiver) 0) in
      message_by plan sender receiver (Denied sender) found 0 cache boxes

  -- an op of a domain
  unfoldable pub effect_by : Plan → ℕ → Op → List ℕ → List ℕ → Effect
  effect_by plan domain (Read line) cache boxes = touch_by plan domain false line cache boxes
  effect_by plan domain (Write line) cache boxes = touch_by plan domain true line cache boxes
  effect_by plan domain (Send recipient word) cache boxes =
      send_by plan domain recipient word cache boxes
  effect_by plan domain (Receive sender) cache boxes = receive_by plan domain sender cache boxes
  effect_by plan domain (Compute ticks) cache boxes = compute_of ticks cache boxes

-- ---- the ops of the machine

abbrev pub touch_of : Plan → ℕ → Bool → ℕ → List ℕ → List ℕ → Effect
touch_of = touch_by access_of

abbrev pub message_of : Plan → ℕ → ℕ → Observation → Observation → ℕ → List ℕ → List ℕ → Effect
message_of = message_by access_of

abbrev pub send_of : Plan → ℕ → ℕ → ℕ → List ℕ → List ℕ → Effect
send_of = send_by access_of

abbrev pub receive_of : Plan → ℕ → ℕ → List ℕ → List ℕ → Effect
receive_of = receive_by access_of

abbrev pub effect_of : Plan → ℕ → Op → List ℕ → List ℕ → Effect
effect_of = effect_by access_of
