-- The ops of a script, one after the other, in its domain's window: where the domain stands after each. Assumes nothing.
use Rattle.std.specs.Prelude.{Some, None}
use Prim.Native.Nat.{ℕ, suc, ◌+◌, ◌≤◌, ◌<◌}
use mathlib.Core.Bool.{true, false}
use mathlib.Core.List.{List}
use mathlib.Core.Path.{◌≡◌, refl, ap, ◌∙◌}
use native.Mathlib.Omega.{arith}
use lib.Dec.{leb}
use lib.ListN.{length, length-set}
use lib.Seq.{get_or-set_same}
use borrow.Author.Tests.{le-leb, lt-leb}
use Rattle.plan.specs.declared.Plan.{Plan}
use Rattle.plan.specs.Limits.{most_domains}
use Rattle.plan.specs.Windows.{window_end, window_length, window_owner, window_start, windows_total}
use Rattle.script.specs.declared.Op.{Op}
use Rattle.script.specs.Fetch.{fetch_of}
use Rattle.ops.specs.Ops.{Effect, effect_of}
use Rattle.state.specs.World.{World, ended_of, position_at, records_at, running_of}
use Rattle.machine.specs.Steps.{active_step, active_step_by, next_item, next_step_of, op_step_by, op_step_of, step_of, switch_due, turn_of}
use Rattle.machine.specs.Switch.{switch_of}
use Rattle.machine.proofs.Runs.{step_active}

-- a domain stands in a window after some ops of its script, the first of which began at the window's start, and so many
-- ticks after that
pub record Stands (plan : Plan) (domain window ops ticks : ℕ) (world : World) : Type 0 where
  pub windows : world.state.windows ≡ window
  pub clock : world.state.clock ≡ window_start plan window + ticks
  pub position : position_at world.state domain ≡ ops
  pub records : records_at world.state domain ≡ ops
  pub eight_positions : length world.state.positions ≡ most_domains
  pub eight_records : length world.state.records ≡ most_domains

module _ (plan : Plan) (scripts : List ℕ) (quota domain window : ℕ) (in_run_lem : window < windows_total plan)
    (owner : window_owner plan window ≡ domain) (below : domain < most_domains) where
  module _ (ops ticks : ℕ) (world : World) (stands : Stands plan domain window ops ticks world) where
    pub running : running_of plan world.state ≡ domain
    running = ap (window_owner plan) stands.windows ∙ owner

    pub not_ended : ended_of plan world.state ≡ false
    unfolding ended_of
    not_ended = lt-leb (windows_total plan) world.state.windows (omega (arith, stands.windows))

    end_is : window_end plan world.state.windows ≡ window_start plan window + window_length plan window
    unfolding window_end
    end_is = ap (λ n. window_start plan n + window_length plan n) stands.windows

    -- ---- an op

    module _ (op : Op) (in_time : ticks < window_length plan window) (room : ops < quota)
        (fetched : fetch_of scripts domain ops ≡ Some op) where
      item_is : next_item scripts (turn_of plan quota world.state) ≡ Some op
      item_is = rw (running, stands.position) fetched

      op_is_next : next_step_of scripts (turn_of plan quota world.state) ≡ Some op
      unfolding next_step_of switch_due
      op_is_next =
          let early : leb (window_end plan world.state.windows) world.state.clock ≡ false =
          lt-leb (window_end plan world.state.windows) world.state.clock (omega (arith, end_is, stands.clock)) in
          let space : leb quota (records_at world.state (running_of plan world.state)) ≡ false =
          lt-leb quota (records_at world.state (running_of plan world.state)) (rw (running, stands.records) room) in
          rw (early, item_is, space) refl

      pub op_steps : step_of plan scripts quota world ≡ op_step_of plan quota domain op world
      unfolding active_step_by
      op_steps =
          step_active _ plan scripts quota world not_ended
          ∙ ap (λ item. active_step plan quota item world) op_is_next
          ∙ ap (λ runs. op_step_of plan quota runs op world) running

      abbrev effect : Effect
      effect = effect_of plan domain op world.cache world.boxes

      op_stands : Stands plan domain window (suc ops) (ticks + effect.ticks) (op_step_of plan quota domain op world)
      unfolding op_step_by
      op_stands =
          record {
            windows = stands.windows;
            clock = omega (arith, stands.clock);
            position =
                get_or-set_same world.state.positions domain _ 0 (omega (arith, stands.eight_positions))
                ∙ omega (arith, stands.position);
            records =
                get_or-set_same world.state.records domain _ 0 (omega (arith, stands.eight_records))
                ∙ omega (arith, stands.records);
            eight_positions = simp length-set stands.eight_positions;
            eight_records = simp length-set stands.eight_records;
          }

      op_cache : (op_step_of plan quota domain op world).cache ≡ effect.cache
      unfolding op_step_by
      op_cache = refl

    -- ---- the switch

    -- once the clock has reached the window's end the next step is the switch
    pub switch_steps : window_length plan window ≤ ticks → step_of plan scripts quota world ≡ switch_of plan world
    unfolding active_step_by next_step_of switch_due
    switch_steps over =
        let late : leb (window_end plan world.state.windows) world.state.clock ≡ true =
        le-leb (window_end plan world.state.windows) world.state.clock (omega (arith, end_is, stands.clock)) in
        let due : next_step_of scripts (turn_of plan quota world.state) ≡ None = rw late refl in
        step_active _ plan scripts quota world not_ended ∙ ap (λ item. active_step plan quota item world) due

-- one op further: where the domain stands, and the cache table
pub record Stepped (plan : Plan) (domain window ops ticks : ℕ) (cache : List ℕ) (world : World) : Type 0 where
  pub stands : Stands plan domain window ops ticks world
  pub cache_is : world.cache ≡ cache

pub op_stepped : (plan : Plan) (scripts : List ℕ) (quota domain window : ℕ) → window < windows_total plan
    → window_owner plan window ≡ domain → domain < most_domains
    → (ops ticks : ℕ) (world : World) → Stands plan domain window ops ticks world
    → (op : Op) → ticks < window_length plan window → ops < quota → fetch_of scripts domain ops ≡ Some op
    → Stepped plan domain window (suc ops) (ticks + (effect_of plan domain op world.cache world.boxes).ticks)
    (effect_of plan domain op world.cache world.boxes).cache (step_of plan scripts quota world)
op_stepped plan scripts quota domain window in_run_lem owner below ops ticks world stands op in_time room fetched =
    rw (op_steps plan scripts quota domain window in_run_lem owner below ops ticks world stands op in_time room fetched)
    (record {
      stands = op_stands plan scripts quota domain window in_run_lem owner below ops ticks world stands op in_time room fetched;
      cache_is = op_cache plan scripts quota domain window in_run_lem owner below ops ticks world stands op in_time room fetched;
    })
