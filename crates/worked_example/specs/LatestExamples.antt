-- Document 02, E6 and E9: its example, from a plan's text to the latest finish of a domain and to
-- the run that reaches it; others worked out by hand; and what is refused. Assumes nothing.
use Rattle.std.specs.Prelude.{ℕ, zero, suc, ◌+◌, ◌-◌, List, [], ◌∷◌, ◌++◌, ◌≡◌, replicate, Ok, Err}
use Prim.Native.String.{String}
use Rattle.plan.specs.declared.Plan.{Plan}
use Rattle.plan.specs.Windows.{window_end}
use Rattle.plan.specs.Zeros.{no_plan}
use Rattle.script.specs.declared.Op.{Op}
use Rattle.script.specs.declared.Op.TheVariants.{Write, Send, Receive, Compute}
use Rattle.script.specs.Limits.{most_ops}
use Rattle.script.specs.Stored.{stored_of}
use Rattle.latest.specs.Answer.{LatestOutcome, latest_of}
use Rattle.state.specs.World.{World}
use Rattle.machine.specs.Fresh.{fresh_world}
use Rattle.machine.specs.Steps.{steps}
use Rattle.machine.specs.Switch.{touched_clock}
use Rattle.refusal.specs.declared.Refusal.{Refusal}
use Rattle.refusal.specs.declared.Refusal.TheVariants.{ImpossiblePlan, LatestOutOfLimits}
use Rattle.refusal.specs.declared.Refusal.TheVariants.{WrongLength}
use Rattle.reader.specs.Draft.{no_ops}
use Rattle.reader.specs.Read.{read_of}
use Rattle.worked_example.specs.Example.{text_of}

-- the plan of two domains, by their lines and that of domain 0's window
abbrev pub plan_by : String → String → String → Plan
plan_by first second window =
    (read_of
    (text_of ("(pad 376)" ∷ first ∷ second ∷ window ∷ "(window 1 (length 4000))" ∷ "(run 1)" ∷ []))
    no_ops).plan

-- domain 0 has colours 0 to 13 and a right to send, and domain 1 has colour 14
abbrev pub wide_plan : Plan
wide_plan =
    plan_by "(domain 0 (share 966) (may 1))" "(domain 1 (share 34) (may))"
    "(window 0 (length 4000))"

-- the same with domain 0's window of another length
abbrev pub window_of : String → Plan
window_of window =
    plan_by "(domain 0 (share 966) (may 1))" "(domain 1 (share 34) (may))" window

-- domain 0 has colour 0 alone, with rights or without, and domain 1 four colours behind it
abbrev pub narrow_plan : String → Plan
narrow_plan first =
    plan_by first "(domain 1 (share 267) (may))" "(window 0 (length 20000))"

-- domain 0 has three colours, so that domain 1 has colour 3 alone
abbrev pub third_plan : Plan
third_plan =
    plan_by "(domain 0 (share 200) (may 1))" "(domain 1 (share 67) (may))"
    "(window 0 (length 4000))"

-- domain 1 has no window
abbrev pub windowless_plan : Plan
windowless_plan =
    (read_of
    (text_of
    ("(pad 376)"
    ∷ "(domain 0 (share 500) (may))"
    ∷ "(domain 1 (share 300) (may))"
    ∷ "(window 0 (length 4000))"
    ∷ "(run 1)"
    ∷ []))
    no_ops).plan

-- domain 1 has five boxes, three to send by and two to receive from, and five colours, 3 among
-- them; the run begins with domain 0
abbrev pub busy_plan : Plan
busy_plan =
    (read_of
    (text_of
    ("(pad 376)"
    ∷ "(domain 0 (share 100) (may 1))"
    ∷ "(domain 1 (share 300) (may 0 2 3))"
    ∷ "(domain 2 (share 34) (may 1))"
    ∷ "(domain 3 (share 34) (may))"
    ∷ "(window 0 (length 10))"
    ∷ "(window 1 (length 4000))"
    ∷ "(run 1)"
    ∷ []))
    no_ops).plan

-- a buffer for a script, and what is answered with it
abbrev pub buffer : List ℕ
buffer = replicate most_ops 9

abbrev pub answer_for : Plan → ℕ → LatestOutcome
answer_for plan domain = latest_of plan domain buffer

-- so many ticks are told
abbrev pub Tells : Plan → ℕ → ℕ → Type 0
Tells plan domain ticks =
    ((answer_for plan domain).verdict ≡ Ok tt) × ((answer_for plan domain).ticks ≡ ticks)

-- a refusal is told, and the buffer is as it was
abbrev pub RefusesLatest : Plan → ℕ → List ℕ → Refusal → Type 0
RefusesLatest plan domain script refusal =
    latest_of plan domain script ≡ record { verdict = Err refusal; ticks = 0; script = script }

-- a script of these ops, as 256 stored numbers
unfoldable pub stored_script : ℕ → List Op → List ℕ
stored_script left [] = replicate left 0
stored_script left (op ∷ ops) = stored_of op ∷ stored_script (left - 1) ops

-- a write of each of the `left` lines from one on, then other ops
unfoldable pub writes_from : ℕ → ℕ → List Op → List Op
writes_from zero line ops = ops
writes_from (suc left) line ops = Write line ∷ writes_from left (line + 1) ops

-- sixteen writes of 100 ticks, eleven computes of 200 and one of 199, which is up to tick 3,999;
-- then a message to domain 1
abbrev pub late_script : List ℕ
late_script =
    stored_script most_ops
    (writes_from 16 0 (replicate 11 (Compute 200) ++ (Compute 199 ∷ Send 1 0 ∷ [])))

-- the wide plan's world after those ops from a fresh start
abbrev pub late_world : World
late_world = steps wide_plan late_script most_ops 29 (fresh_world (replicate 4_096 0))

-- domain 1 of the wide plan may receive from domain 0: of sixteen messages fifteen are denied and
-- take 6 ticks each, and one takes 106; four writes of 100 ticks; seventeen computes of 200 and one
-- of 3, which is up to tick 3,999; then the longest compute
abbrev pub later_script : List ℕ
later_script =
    stored_script most_ops
    (Send 0 0 ∷ Send 1 0 ∷ Send 2 0 ∷ Send 3 0 ∷ Send 4 0 ∷ Send 5 0 ∷ Send 6 0 ∷ Send 7 0
    ∷ Receive 0 ∷ Receive 1 ∷ Receive 2 ∷ Receive 3 ∷ Receive 4 ∷ Receive 5 ∷ Receive 6 ∷ Receive 7
    ∷ writes_from 4 56 (replicate 17 (Compute 200) ++ (Compute 3 ∷ Compute 200 ∷ [])))

-- the world after the first window's switch and those ops
abbrev pub later_world : World
later_world =
    steps wide_plan (replicate most_ops 0 ++ later_script) most_ops 40
    (fresh_world (replicate 4_096 0))

pub record LatestExamples : Type 0 where
  -- colours 0 to 13 and one right to send
  pub wide : Tells wide_plan 0 360
  -- colour 14 alone, with a box to receive from, and no part in the run's first window
  pub other : Tells wide_plan 1 327
  -- the script that is handed back, and its run, which reaches it: the last op begins in the last
  -- tick and takes 213, both flushes take 48, and the touch takes 100
  pub script : (answer_for wide_plan 0).script ≡ late_script
  pub clock : late_world.state.clock ≡ 3_999 + 213
  pub reached :
      touched_clock late_world.state.clock (window_end wide_plan 0) late_world.cache
      ≡ window_end wide_plan 0 + 360
  -- that of the other domain, and its run: the last op is over 199 ticks after the end; the
  -- kernel's sets have the entry line and a box's line, 10 ticks; in L1 four own lines and the
  -- box's line are dirty, 18 ticks
  pub later_script_is : (answer_for wide_plan 1).script ≡ later_script
  pub later_clock : later_world.state.clock ≡ window_end wide_plan 1 + 199
  pub later_reached :
      touched_clock later_world.state.clock (window_end wide_plan 1) later_world.cache
      ≡ window_end wide_plan 1 + 327
  -- five boxes, of whose lines four ways have room for four; every index of L1 is an own one
  pub busy : Tells busy_plan 1 352
  -- colour 0 alone, without a box and with one
  pub alone : Tells (narrow_plan "(domain 0 (share 34) (may))") 0 324
  pub boxed : Tells (narrow_plan "(domain 0 (share 34) (may 1))") 0 332
  -- four colours have every index of L1; the entry line is in from the start
  pub four : Tells (narrow_plan "(domain 0 (share 34) (may))") 1 348
  -- colour 3 alone, which has the L1 indices of the kernel's lines
  pub third : Tells third_plan 1 325
  -- windows at and past either limit
  pub longest : Tells (window_of "(window 0 (length 20000))") 0 360
  pub too_short :
      RefusesLatest (window_of "(window 0 (length 3999))") 0 buffer (LatestOutOfLimits 0)
  pub too_long :
      RefusesLatest (window_of "(window 0 (length 20001))") 0 buffer (LatestOutOfLimits 0)
  -- the other domain's windows do not matter to it
  pub other_judged : Tells (window_of "(window 0 (length 3999))") 1 327
  -- no window; not declared
  pub windowless : RefusesLatest windowless_plan 1 buffer (LatestOutOfLimits 1)
  pub undeclared : RefusesLatest wide_plan 2 buffer (LatestOutOfLimits 2)
  -- 11 comes first, then 12
  pub short_buffer : RefusesLatest no_plan 9 (replicate 255 9) WrongLength
  pub impossible : RefusesLatest no_plan 9 buffer ImpossiblePlan
