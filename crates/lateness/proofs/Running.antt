-- A run in which a domain's script is the one that is handed back: the start of the domain's first window, and each op of the script from
-- there on. Assumes nothing.
use Prim.Native.Nat.{ℕ, suc, ◌+◌, ◌≤◌, ◌<◌}
use mathlib.Core.Bool.{true}
use mathlib.Core.List.{List}
use mathlib.Core.Path.{◌≡◌, sym, ap, subst, ◌∙◌}
use native.Mathlib.Nat.{add-suc, add-zero}
use native.Mathlib.Omega.{arith}
use lib.ListN.{length}
use Rattle.plan.specs.declared.Plan.{Plan}
use Rattle.plan.specs.Colours.{holding_of}
use Rattle.plan.specs.Limits.{most_domains}
use Rattle.plan.specs.Validity.{plan_valid}
use Rattle.plan.specs.Windows.{window_length, window_owner, windows_total}
use Rattle.plan.proofs.ValidPlans.{counts}
use Rattle.script.specs.declared.Op.{Op}
use Rattle.script.specs.Limits.{OpWithinLimits, most_ops}
use Rattle.script.specs.Stored.{stored_of}
use Rattle.records.specs.Records.{part_records}
use Rattle.ops.specs.Ops.{Effect, effect_of}
use Rattle.reachable.specs.OldBoard.{old_effect_of}
use Rattle.reachable.proofs.OldBoard.{reached_op}
use Rattle.state.specs.World.{World}
use Rattle.machine.specs.Steps.{step_of}
use Rattle.isolation.specs.Points.{FreshRun, world_after}
use Rattle.isolation.proofs.TwoRuns.Progress.{one_more_lem}
use Rattle.latest.specs.Limits.{least_latest_length, most_latest_length}
use Rattle.latest.specs.Reach.{first_window, lowest_colour}
use Rattle.latest.specs.Script.{late_number, late_script_of, latest_script}
use Rattle.lateness.specs.Theorems.{HoldsScript, fresh_run}
use Rattle.lateness.proofs.Colours.{Row, row}
use Rattle.lateness.proofs.Fetching.{fetches}
use Rattle.lateness.proofs.Starting.{AtStart, FirstStart, first_owner, first_starts, windows_in_run}
use Rattle.lateness.proofs.Stepping.{Stands, Stepped, not_ended, op_stepped, running}

-- a domain to which an answer is given: declared, with a first window long enough for the script and not too long
pub record Judged (plan : Plan) (domain : ℕ) : Type 0 where
  pub valid : plan_valid plan ≡ true
  pub declared : domain < plan.domains
  pub some : first_window plan domain < plan.windows
  pub least : least_latest_length ≤ window_length plan (first_window plan domain)
  pub most : window_length plan (first_window plan domain) ≤ most_latest_length

module _ (plan : Plan) (domain : ℕ) (judged : Judged plan domain) (scripts log : List ℕ)
    (holds : HoldsScript domain (latest_script plan domain) scripts) (room : most_ops ≤ part_records plan (length log)) where
  abbrev run : FreshRun
  run = fresh_run plan scripts log

  abbrev quota : ℕ
  quota = part_records plan (length log)

  abbrev window : ℕ
  window = first_window plan domain

  abbrev lowest : ℕ
  lowest = lowest_colour plan domain

  abbrev held : ℕ
  held = holding_of plan domain

  pub colours : Row plan domain
  colours = row plan domain judged.valid judged.declared

  pub below : domain < most_domains
  below = omega (arith, judged.declared, (counts plan judged.valid).domains_most)

  pub start : FirstStart plan scripts log judged.valid domain judged.declared judged.some
  start = first_starts plan scripts log judged.valid domain judged.declared judged.some

  -- the world after so many ops of the script
  abbrev pub world_at : ℕ → World
  world_at ops = world_after run (start.at + ops)

  abbrev pub StandsAt : ℕ → ℕ → Type 0
  StandsAt ops ticks = Stands plan domain window ops ticks (world_at ops)

  -- ---- one op

  window_in_run : window < windows_total plan
  window_in_run = windows_in_run plan judged.valid window judged.some

  owner : window_owner plan window ≡ domain
  owner = first_owner plan domain judged.some

  -- it is document 01's own
  pub old_op : (ops ticks : ℕ) (op : Op) → StandsAt ops ticks → OpWithinLimits op
      → effect_of plan domain op (world_at ops).cache (world_at ops).boxes
      ≡ old_effect_of plan domain op (world_at ops).cache (world_at ops).boxes
  unfolding world_after
  old_op ops ticks op stands good =
      let runs = running plan scripts quota domain window window_in_run owner below ops ticks (world_at ops) stands in
      let goes = not_ended plan scripts quota domain window window_in_run owner below ops ticks (world_at ops) stands in
      rw runs at (reached_op plan scripts log (start.at + ops) judged.valid op goes good)

  pub next_op : (ops ticks : ℕ) (op : Op) → StandsAt ops ticks → ticks < window_length plan window → ops < most_ops
      → late_number (late_script_of plan domain) ops ≡ stored_of op → OpWithinLimits op
      → Stepped plan domain window (suc ops) (ticks + (old_effect_of plan domain op (world_at ops).cache (world_at ops).boxes).ticks)
      (old_effect_of plan domain op (world_at ops).cache (world_at ops).boxes).cache (world_at (suc ops))
  next_op ops ticks op stands in_time few number good =
      subst
      (Stepped plan domain window (suc ops) (ticks + (old_effect_of plan domain op (world_at ops).cache (world_at ops).boxes).ticks)
      (old_effect_of plan domain op (world_at ops).cache (world_at ops).boxes).cache)
      (sym (ap (world_after run) (add-suc start.at ops) ∙ one_more_lem run (start.at + ops)))
      (subst
      (λ (effect : Effect).
      Stepped plan domain window (suc ops) (ticks + effect.ticks) effect.cache (step_of plan scripts quota (world_at ops)))
      (old_op ops ticks op stands good)
      (op_stepped plan scripts quota domain window window_in_run owner below ops ticks (world_at ops) stands op in_time (omega arith)
      (fetches plan domain scripts holds ops op few number good)))

  -- ---- the window's start

  pub starts : AtStart plan domain (world_at 0)
  starts = subst (AtStart plan domain) (ap (world_after run) (sym (add-zero start.at))) start.there

  pub begins : StandsAt 0 0
  begins =
      record {
        windows = starts.windows;
        clock = omega (arith, starts.clock);
        position = starts.position;
        records = starts.records;
        eight_positions = starts.eight_positions;
        eight_records = starts.eight_records;
      }
