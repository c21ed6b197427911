-- Document 02, E6 and E9: what is promised of the latest finish of a domain and of the script that
-- is handed back with it. Assumes nothing.
use Rattle.std.specs.Prelude.{ℕ, ◌+◌, ◌*◌, ◌≤◌, ◌<◌, max, true, false, List, ◌≡◌, get_or, length, None, Ok}
use Rattle.plan.specs.declared.Plan.{Plan}
use Rattle.plan.specs.Colours.{holding_of}
use Rattle.plan.specs.Limits.{least_pad, touch_ticks}
use Rattle.plan.specs.Validity.{plan_valid}
use Rattle.plan.specs.Windows.{window_end, window_owner, windows_total}
use Rattle.cache.specs.Lines.{ways_per_set}
use Rattle.cache.specs.Flush.{flush_ticks}
use Rattle.script.specs.Fetch.{decode_of}
use Rattle.script.specs.Limits.{most_ops}
use Rattle.records.specs.Records.{part_records}
use Rattle.state.specs.World.{World}
use Rattle.machine.specs.Switch.{switch_of}
use Rattle.isolation.specs.Points.{FreshRun}
use Rattle.latest.specs.Answer.{LatestOutcome, latest_of}
use Rattle.latest.specs.Latest.{latest_later, latest_ticks}
use Rattle.latest.specs.Reach.{box_count, first_window, has_box, l1_colours, lowest_colour, starts_run}
use Rattle.lateness.specs.Lateness.{Finishes, lateness_of}

-- a run from a fresh start, by what decides it
abbrev pub fresh_run : Plan → List ℕ → List ℕ → FreshRun
fresh_run plan scripts log = record { plan = plan; scripts = scripts; log = log }

-- a store holds a script for a domain; what it holds for the others is not said
abbrev pub HoldsScript : ℕ → List ℕ → List ℕ → Type 0
HoldsScript domain script scripts =
    (index : ℕ)
    → index < most_ops
    → get_or scripts (most_ops * domain + index) 0 ≡ get_or script index 0

-- a number of ticks is the maximum of a domain's lateness under a plan, and a script reaches it
pub record IsLatest (plan : Plan) (domain : ℕ) (script : List ℕ) (ticks : ℕ) : Type 0 where
  -- (i) in every run from a fresh start, with any numbers in every script and any log, no window of
  -- the domain finishes later
  pub none_later :
      (scripts log : List ℕ) (window late : ℕ)
      → window_owner plan window ≡ domain
      → Finishes (fresh_run plan scripts log) window late
      → late ≤ ticks
  -- (ii) with this script, whatever the other scripts hold, the domain's first window finishes
  -- exactly so late wherever its part of the log holds 256 records, as many as a script can have
  -- ops
  pub reached :
      (scripts log : List ℕ)
      → HoldsScript domain script scripts
      → most_ops ≤ part_records plan (length log)
      → Finishes (fresh_run plan scripts log) (first_window plan domain) ticks

-- a script as 256 stored numbers: those of its ops, which stand before its end, and then zeros
pub record IsScript (script : List ℕ) : Type 0 where
  pub numbers : length script ≡ most_ops
  pub end : ℕ
  pub ops : (position : ℕ) → position < end → decode_of (get_or script position 0) ≡ None → ⊥
  pub zeros : (position : ℕ) → end ≤ position → get_or script position 0 ≡ 0

-- what is answered is the maximum, with a script that reaches it
pub record LatestTold (plan : Plan) (domain : ℕ) (outcome : LatestOutcome) : Type 0 where
  pub is_latest : IsLatest plan domain outcome.script outcome.ticks
  pub is_script : IsScript outcome.script

abbrev pub LatestFinish : Type 0
LatestFinish =
    (plan : Plan) (domain : ℕ) (buffer : List ℕ)
    → (latest_of plan domain buffer).verdict ≡ Ok tt
    → LatestTold plan domain (latest_of plan domain buffer)

-- and no other number is: whatever script is said to reach it
abbrev pub OneLatest : Type 0
OneLatest =
    (plan : Plan) (domain : ℕ) (buffer script : List ℕ) (ticks : ℕ)
    → (latest_of plan domain buffer).verdict ≡ Ok tt
    → IsLatest plan domain script ticks
    → ticks ≡ (latest_of plan domain buffer).ticks

-- of every domain of a valid plan, also one whose windows are outside the limits of 18, no window
-- finishes later than its figure
abbrev pub NoneLater : Type 0
NoneLater =
    (plan : Plan) (scripts log : List ℕ) (window late : ℕ)
    → plan_valid plan ≡ true
    → Finishes (fresh_run plan scripts log) window late
    → late ≤ latest_ticks plan (window_owner plan window)

-- a window that a switch comes before: it is not the run's first
abbrev pub AfterSwitch : ℕ → Type 0
AfterSwitch window = 0 < window

-- Such a window starts with the kernel's entry line in, so that no message there misses it, and has
-- a figure of its own.
pub record NoneLaterAfterSwitch : Type 0 where
  pub none_later :
      (plan : Plan) (scripts log : List ℕ) (window late : ℕ)
      → plan_valid plan ≡ true
      → AfterSwitch window
      → Finishes (fresh_run plan scripts log) window late
      → late ≤ latest_later plan (window_owner plan window)
  -- where the run begins with another's window it is the domain's own, and so is reached where 18
  -- refuses nothing
  pub own :
      (plan : Plan) (domain : ℕ)
      → starts_run plan domain ≡ false
      → latest_ticks plan domain ≡ latest_later plan domain
  -- and it is never larger than the domain's
  pub no_more : (plan : Plan) (domain : ℕ) → latest_later plan domain ≤ latest_ticks plan domain

-- the ticks of a switch that finds nothing valid and nothing dirty: of its two flushes, and of its
-- touch, which misses
abbrev pub least_lateness : ℕ
least_lateness = 2 * flush_ticks + touch_ticks

-- no window finishes sooner, and none that a switch comes before as soon: its own switch finds the
-- line that the one before it touched
pub record NoneSooner : Type 0 where
  pub any :
      (plan : Plan) (scripts log : List ℕ) (window late : ℕ)
      → plan_valid plan ≡ true
      → Finishes (fresh_run plan scripts log) window late
      → least_lateness ≤ late
  pub after_switch :
      (plan : Plan) (scripts log : List ℕ) (window late : ℕ)
      → plan_valid plan ≡ true
      → AfterSwitch window
      → Finishes (fresh_run plan scripts log) window late
      → least_lateness + 1 ≤ late

-- no domain's figure is larger than this
abbrev pub most_latest : ℕ
most_latest = 360

-- and of windows that a switch comes before none is larger than this
abbrev pub most_later : ℕ
most_later = 352

pub record LatestBounded : Type 0 where
  pub most : (plan : Plan) (domain : ℕ) → latest_ticks plan domain ≤ most_latest
  -- and document 02's domain has it: colours 0 to 13 and a box, where the run begins with a window
  -- of its own
  pub reached :
      (plan : Plan) (domain : ℕ)
      → lowest_colour plan domain ≡ 0
      → holding_of plan domain ≡ 14
      → has_box plan domain ≡ true
      → starts_run plan domain ≡ true
      → latest_ticks plan domain ≡ most_latest
  pub later_at_most : (plan : Plan) (domain : ℕ) → latest_later plan domain ≤ most_later
  -- four colours in a row have every index of L1; a domain with as many has this, if its boxes fill
  -- their set
  pub reached_later :
      (plan : Plan) (domain : ℕ)
      → l1_colours ≤ holding_of plan domain
      → ways_per_set ≤ box_count plan domain
      → latest_later plan domain ≡ most_later

-- so of every pad so many ticks at least are left when a window's flushes and touch are done
abbrev pub unused_pad : ℕ
unused_pad = 16

pub record PadSuffices : Type 0 where
  pub left :
      (plan : Plan) (scripts log : List ℕ) (window late : ℕ)
      → plan_valid plan ≡ true
      → Finishes (fresh_run plan scripts log) window late
      → late + unused_pad ≤ plan.pad
  -- and of the least pad no more need be
  pub no_more : most_latest + unused_pad ≡ least_pad

-- what lateness is to a switch: it leaves the clock at the window's end and the lateness, or at
-- that of the pad where this is later
abbrev pub SwitchesByLateness : Type 0
SwitchesByLateness =
    (plan : Plan) (world : World)
    → let end = window_end plan world.state.windows in
    (switch_of plan world).state.clock ≡ max (end + lateness_of plan world) (end + plan.pad)

-- ---- every window has a lateness

-- a window of a run finishes, at some lateness
pub record HasLateness (plan : Plan) (scripts log : List ℕ) (window : ℕ) : Type 0 where
  pub late : ℕ
  pub finishes : Finishes (fresh_run plan scripts log) window late

-- in every run every window of a valid plan does, and at one lateness alone
pub record EachFinishes : Type 0 where
  pub some :
      (plan : Plan) (scripts log : List ℕ) (window : ℕ)
      → plan_valid plan ≡ true
      → window < windows_total plan
      → HasLateness plan scripts log window
  pub one :
      (plan : Plan) (scripts log : List ℕ) (window first second : ℕ)
      → plan_valid plan ≡ true
      → Finishes (fresh_run plan scripts log) window first
      → Finishes (fresh_run plan scripts log) window second
      → first ≡ second
