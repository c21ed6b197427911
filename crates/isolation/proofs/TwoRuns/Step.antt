-- One step. In a domain's own window two worlds that are the same for it both do the same op or both switch; in
-- another's window a step keeps what the domain has outside its windows. Assumes nothing.
use Rattle.std.specs.Prelude.{Option, Some, None}
use Prim.Native.Nat.{ℕ, ◌+◌, ◌*◌, ◌<◌}
use mathlib.Core.Bool.{Bool, true, false, cond, ◌||◌}
use mathlib.Core.List.{List}
use mathlib.Core.Path.{◌≡◌, refl, sym, ap, ◌∙◌}
use borrow.Author.Tests.{ltb-true}
use lib.Dec.{leb, ltb}
use lib.ListN.{get_or}
use Rattle.plan.specs.declared.Plan.{Plan}
use Rattle.plan.specs.Limits.{most_domains}
use Rattle.plan.specs.Validity.{plan_valid}
use Rattle.plan.proofs.Windows.{owner_declared}
use Rattle.plan.specs.Windows.{window_end, window_owner, windows_total}
use Rattle.script.specs.Limits.{most_ops}
use Rattle.script.specs.Fetch.{decode_of, fetch_of}
use Rattle.ops.specs.Ops.{box_index}
use Rattle.state.specs.World.{World, ended_of, position_at, records_at, running_of}
use Rattle.machine.specs.Steps.{active_step, active_step_by, is_end, next_item, next_step_of, step_of, switch_due, turn_of}
use Rattle.machine.specs.Switch.{switch_of}
use Rattle.machine.proofs.Fetched.{fetched_within}
use Rattle.machine.proofs.Invariant.{op_next, step_cases}
use Rattle.machine.proofs.Runs.{step_active, step_ended}
use Rattle.isolation.proofs.TwoRuns.OpStep.{Ready, op_alike, op_away, switch_away}
use Rattle.isolation.proofs.TwoRuns.Relations.{Alike, Close, alike_refl, same_position, same_records}
use Rattle.script.specs.declared.Op.{Op}

-- ---- two worlds in the domain's own window

-- what stands next, in stores that agree on the domain's numbers
fetch_alike : (one other : List ℕ) (domain position : ℕ)
    → ((index : ℕ) → index < most_ops → get_or one (most_ops * domain + index) 0 ≡ get_or other (most_ops * domain + index) 0)
    → fetch_of one domain position ≡ fetch_of other domain position
unfolding fetch_of
fetch_alike one other domain position same = go (ltb position most_ops) refl
  where
    go : (within : Bool) → ltb position most_ops ≡ within → fetch_of one domain position ≡ fetch_of other domain position
    go true e = ap (λ (n : ℕ). cond (ltb position most_ops) (decode_of n) None) (same position (ltb-true position most_ops e))
    go false e = rw e

-- both did an op and are as before, or both switched
pub data Together (plan : Plan) (quota domain : ℕ) (Kept : ℕ → Type 0) (one other next next' : World) : Type 0 where
  still : Close plan quota domain Kept next next' → Together plan quota domain Kept one other next next'
  both : next ≡ switch_of plan one → next' ≡ switch_of plan other → Together plan quota domain Kept one other next next'

module _ (plan : Plan) (quota domain : ℕ) {Kept : ℕ → Type 0} (to : (sender : ℕ) → sender < most_domains → Kept (box_index sender domain))
    {one other : World} (a : Close plan quota domain Kept one other) (running : running_of plan one.state ≡ domain) where
  same_ended : ended_of plan one.state ≡ ended_of plan other.state
  unfolding ended_of
  same_ended = ap (λ (n : ℕ). leb (windows_total plan) n) a.windows

  same_running : running_of plan other.state ≡ domain
  same_running = ap (window_owner plan) (sym a.windows) ∙ running

  same_turn : turn_of plan quota one.state ≡ turn_of plan quota other.state
  same_turn = λ i.
      record {
        windows = a.windows i;
        owner = window_owner plan (a.windows i);
        end = window_end plan (a.windows i);
        quota = quota;
        clock = a.clock i;
        position = position i;
        records = records i;
      }
    where
      position : position_at one.state (running_of plan one.state) ≡ position_at other.state (running_of plan other.state)
      position = rw (running, same_running) (same_position plan quota domain a.outside)

      records : records_at one.state (running_of plan one.state) ≡ records_at other.state (running_of plan other.state)
      records = rw (running, same_running) (same_records plan quota domain a.outside)

  -- the next step is the same
  same_next : (scripts scripts' : List ℕ)
      → ((index : ℕ) → index < most_ops → get_or scripts (most_ops * domain + index) 0 ≡ get_or scripts' (most_ops * domain + index) 0)
      → next_step_of scripts (turn_of plan quota one.state) ≡ next_step_of scripts' (turn_of plan quota other.state)
  unfolding next_step_of switch_due
  same_next scripts scripts' same =
      let turn = turn_of plan quota one.state in
      let item : next_item scripts turn ≡ next_item scripts' turn =
      rw running (fetch_alike scripts scripts' domain (position_at one.state domain) same) in
      ap
      (λ (found : Option Op). cond (leb turn.end turn.clock || is_end found || leb turn.quota turn.records) None found)
      item
      ∙ ap (next_step_of scripts') same_turn

  -- two worlds that pass the same tests take the same way
  pub step_alike : (scripts scripts' : List ℕ)
      → ((index : ℕ) → index < most_ops → get_or scripts (most_ops * domain + index) 0 ≡ get_or scripts' (most_ops * domain + index) 0)
      → Ready plan one
      → Together plan quota domain Kept one other (step_of plan scripts quota one) (step_of plan scripts' quota other)
  unfolding active_step_by
  step_alike scripts scripts' same ready = by_end (ended_of plan one.state) refl
    where
      by_next : (next : Option Op) → next_step_of scripts (turn_of plan quota one.state) ≡ next
          → Together plan quota domain Kept one other (active_step plan quota next one) (active_step plan quota next other)
      by_next None is = both refl refl
      by_next (Some op) is =
          rw (running, same_running)
          (still (op_alike plan quota domain to op (fetched_within scripts _ (position_at one.state _) op (op_next scripts _ op is).next) ready.whole (rw running at ready.dirty) a))

      by_end : (ended : Bool) → ended_of plan one.state ≡ ended
          → Together plan quota domain Kept one other (step_of plan scripts quota one) (step_of plan scripts' quota other)
      by_end true over = rw (step_ended _ plan scripts quota one over, step_ended _ plan scripts' quota other (sym same_ended ∙ over)) (still a)
      by_end false active =
          rw (step_active _ plan scripts quota one active, step_active _ plan scripts' quota other (sym same_ended ∙ active), ← (same_next scripts scripts' same))
          (by_next _ refl)

-- ---- one world in another's window

pub step_away : (plan : Plan) (scripts : List ℕ) (quota domain : ℕ) (world : World) → plan_valid plan ≡ true
    → domain < plan.domains
    → (domain ≡ running_of plan world.state → ⊥) → Ready plan world
    → Alike plan quota domain world (step_of plan scripts quota world)
step_away plan scripts quota domain world possible declared other ready =
    step_cases _ plan scripts quota world (Alike plan quota domain world) (λ ended. alike_refl plan quota domain world)
    (λ room. switch_away plan quota domain possible declared world ready.whole)
    (λ op begins.
    op_away plan quota domain possible declared _ op world (owner_declared plan world.state.windows possible) other ready.whole ready.dirty
    begins.room)
