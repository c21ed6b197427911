-- The ops of one window, with the running domain's numbers kept apart from the state. Assumes nothing.
use Rattle.std.specs.Prelude.{Option, Some, None}
use mathlib.Core.Bool.{false}
use mathlib.Core.Path.{◌≡◌, refl, sym, ap, ap₂, subst, ◌∙◌}
use mathlib.Core.List.{List}
use Prim.Native.Nat.{ℕ, ◌+◌, ◌-◌, ◌≤◌, ◌<◌}
use native.Mathlib.Nat.{add_assoc, add-zero}
use native.Mathlib.Omega.{arith}
use lib.ListN.{length, length-set}
use lib.Seq.{get_or-set_same, set-get_or, set-set}
use borrow.Author.Tests.{lt-leb}
use Rattle.plan.specs.declared.Plan.{Plan}
use Rattle.plan.specs.Limits.{dearest_op}
use Rattle.plan.specs.Windows.{window_end, window_owner, windows_total}
use Rattle.script.specs.declared.Op.{Op}
use Rattle.cache.specs.Access.{access_of}
use Rattle.ops.specs.View.{view_of}
use Rattle.state.specs.declared.State.{State}
use Rattle.state.specs.World.{World, ended_of, position_at, records_at}
use Rattle.machine.specs.declared.Turn.{Turn}
use Rattle.machine.specs.Steps.{active_step_by, next_step_of, op_step_by, run_by, step_by, turn_of}
use Rattle.machine.specs.Switch.{switch_of}
use Rattle.machine.specs.View.{InTurn, OpRan, RunsTo, Stands, turn_after, turned, world_with}
use Rattle.machine.proofs.Invariant.{op_next}
use Rattle.machine.proofs.Runs.{runs_on, runs_one, step_active}
use Rattle.machine.proofs.Turns.{op_step_view}

-- a state that stands where a turn says is as the turn leaves it
turned_same : (state : State) (turn : Turn) → Stands state turn → turned state turn ≡ state
turned_same state turn stands =
    rw (← stands.windows_is, ← stands.clock_is, ← stands.position_is, ← stands.records_is) (rw (set-get_or state.positions, set-get_or state.records) refl)

-- the last turn counts
turned_twice : (state : State) (turn : Turn) (clock : ℕ)
    → turned (turned state turn) (turn_after turn 1 clock) ≡ turned state (turn_after turn 1 clock)
turned_twice state turn clock = rw (set-set state.positions, set-set state.records) refl

module _ (plan : Plan) (scripts rights masks : List ℕ) (state : State) (turn : Turn) (here : InTurn plan rights masks state turn) where
  -- the state's own turn is this one
  own_turn : turn_of plan turn.quota state ≡ turn
  own_turn = λ i.
      record {
        windows = here.stands.windows_is i;
        owner = (ap (window_owner plan) here.stands.windows_is ∙ here.owner_is) i;
        end = (ap (window_end plan) here.stands.windows_is ∙ here.end_is) i;
        quota = turn.quota;
        clock = here.stands.clock_is i;
        position = (ap (λ (w : ℕ). position_at state (window_owner plan w)) here.stands.windows_is ∙ ap (position_at state) here.owner_is ∙ here.stands.position_is) i;
        records = (ap (λ (w : ℕ). records_at state (window_owner plan w)) here.stands.windows_is ∙ ap (records_at state) here.owner_is ∙ here.stands.records_is) i;
      }

  -- the turn after one op more is that state's turn
  next_turn : (clock : ℕ)
      → InTurn plan rights masks (turned state (turn_after turn 1 clock)) (turn_after turn 1 clock)
  next_turn clock =
      let positions = here.stands.positions_long in
      let records = here.stands.records_long in
      record {
        not_ended = here.not_ended;
        owner_is = here.owner_is;
        end_is = here.end_is;
        rights_are = here.rights_are;
        masks_are = here.masks_are;
        stands =
            record {
              windows_is = refl;
              clock_is = refl;
              position_is = get_or-set_same state.positions turn.owner (turn.position + 1) 0 positions;
              records_is = get_or-set_same state.records turn.owner (turn.records + 1) 0 records;
              positions_long = rw (length-set state.positions) positions;
              records_long = rw (length-set state.records) records;
            };
      }

  module _ (places : ℕ → Option ℕ) (cache boxes log : List ℕ) where
    -- the step is the one that the code chose
    not_ended : ended_of plan state ≡ false
    unfolding ended_of
    not_ended = lt-leb (windows_total plan) state.windows (omega (arith, here.not_ended, here.stands.windows_is))

    step_chosen : (next : Option Op) → next ≡ next_step_of scripts turn
        → step_by access_of places plan scripts turn.quota (world_with state cache boxes log) ≡ active_step_by access_of places plan next (world_with state cache boxes log)
    step_chosen next is =
        step_active places plan scripts turn.quota (world_with state cache boxes log) not_ended
        ∙ ap (λ (t : Turn). active_step_by access_of places plan (next_step_of scripts t) (world_with state cache boxes log)) own_turn
        ∙ ap (λ (n : Option Op). active_step_by access_of places plan n (world_with state cache boxes log)) (sym is)

    step_switches : None ≡ next_step_of scripts turn
        → step_by access_of places plan scripts turn.quota (world_with state cache boxes log) ≡ switch_of plan (world_with state cache boxes log)
    unfolding active_step_by
    step_switches is = step_chosen None is

    -- one op
    op_runs : (op : Op) (clock : ℕ) (cache' boxes' log' : List ℕ)
        → Some op ≡ next_step_of scripts turn
        → OpRan (places turn.owner) (view_of rights masks) op turn clock cache boxes log cache' boxes' log'
        → RunsTo places plan scripts turn.quota 1 (world_with state cache boxes log)
        (world_with (turned state (turn_after turn 1 clock)) cache' boxes' log')
    unfolding active_step_by
    op_runs op clock cache' boxes' log' is did =
        runs_one places plan scripts turn.quota (world_with state cache boxes log) _ not_ended
        (step_chosen (Some op) is
        ∙ ap (λ (d : ℕ). op_step_by access_of (places d) plan d op (world_with state cache boxes log))
        (ap (window_owner plan) here.stands.windows_is ∙ here.owner_is)
        ∙ sym (op_step_view (places turn.owner) plan turn.owner op (world_with state cache boxes log))
        ∙ ap₂ (λ (r m : List ℕ). op_step_by access_of (places turn.owner) (view_of r m) turn.owner op (world_with state cache boxes log)) here.rights_are here.masks_are
        ∙ sym (did.world state here.stands))

-- some ops of a window are done: as many steps lead to the state that they left, and the turn is that state's
abbrev pub Done : (ℕ → Option ℕ) → Plan → List ℕ → List ℕ → List ℕ → ℕ → ℕ → Turn → World → State → List ℕ → List ℕ → List ℕ → Type 0
Done places plan scripts rights masks quota steps turn before state cache boxes log =
    RunsTo places plan scripts quota steps before (world_with state cache boxes log) × InTurn plan rights masks state turn

-- a turn that has come to a clock, a position and a number of records
abbrev turn_stands : Turn → ℕ → ℕ → ℕ → Turn
turn_stands turn clock position records =
    record {
      windows = turn.windows;
      owner = turn.owner;
      end = turn.end;
      quota = turn.quota;
      clock = clock;
      position = position;
      records = records;
    }

-- no op yet
after_none : (turn : Turn) → turn_after turn 0 turn.clock ≡ turn
after_none turn =
    λ i. turn_stands turn turn.clock (add-zero turn.position i) (add-zero turn.records i)

-- one op after some ops
after_more : (turn : Turn) (ops clock clock' : ℕ)
    → turn_after (turn_after turn ops clock) 1 clock' ≡ turn_after turn (ops + 1) clock'
after_more turn ops clock clock' =
    λ i.
    turn_stands turn clock' (add_assoc turn.position ops 1 i) (add_assoc turn.records ops 1 i)

-- what holds each time the loop comes round
pub record Turning
    (rights masks scripts : List ℕ) (most : ℕ) (place : Option ℕ) (first : Turn)
    (cache₀ boxes₀ log₀ cache boxes log : List ℕ) (steps clock : ℕ) : Type 0 where
  pub within : steps ≤ most
  pub late : clock ≤ first.end + (dearest_op - 1)
  pub cache_long : length cache ≡ length cache₀
  pub boxes_long : length boxes ≡ length boxes₀
  pub log_long : length log ≡ length log₀
  pub done :
      (places : ℕ → Option ℕ) (plan : Plan) (state : State)
      → places first.owner ≡ place
      → InTurn plan rights masks state first
      → Done places plan scripts rights masks first.quota steps (turn_after first steps clock)
      (world_with state cache₀ boxes₀ log₀)
      (turned state (turn_after first steps clock)) cache boxes log

module _
    (rights masks scripts : List ℕ) (most : ℕ) (place : Option ℕ) (first : Turn) (cache₀ boxes₀ log₀ : List ℕ) where
  -- before the first op
  pub turn_first : first.clock ≤ first.end + (dearest_op - 1)
      → Turning rights masks scripts most place first cache₀ boxes₀ log₀ cache₀ boxes₀ log₀
      0 first.clock
  unfolding run_by
  turn_first late =
      record {
        within = omega arith;
        late = late;
        cache_long = refl;
        boxes_long = refl;
        log_long = refl;
        done = λ places plan state placed begins.
            let before = world_with state cache₀ boxes₀ log₀ in
            subst
            (λ (t : Turn).
            Done places plan scripts rights masks first.quota 0 t before (turned state t)
            cache₀ boxes₀ log₀)
            (sym (after_none first))
            (subst
            (λ (s : State).
            Done places plan scripts rights masks first.quota 0 first before s cache₀ boxes₀ log₀)
            (sym (turned_same state first begins.stands))
            (refl, begins));
      }

  module _ (cache boxes log : List ℕ) (steps clock : ℕ)
      (turning :
      Turning rights masks scripts most place first cache₀ boxes₀ log₀ cache boxes log steps clock) where
    abbrev turn : Turn
    turn = turn_after first steps clock

    -- one op more
    pub turn_more :
        (op : Op) (clock' : ℕ) (cache' boxes' log' : List ℕ)
        → steps < most
        → Some op ≡ next_step_of scripts turn
        → OpRan place (view_of rights masks) op turn clock' cache boxes log cache' boxes' log'
        → length cache' ≡ length cache
        → length boxes' ≡ length boxes
        → length log' ≡ length log
        → Turning rights masks scripts most place first cache₀ boxes₀ log₀ cache' boxes' log'
        (steps + 1) clock'
    turn_more op clock' cache' boxes' log' more is ran same-cache same_boxes same_log =
        record {
          within = omega arith;
          late = omega (arith, (op_next scripts turn op (sym is)).in_time, ran.ticks);
          cache_long = same-cache ∙ turning.cache_long;
          boxes_long = same_boxes ∙ turning.boxes_long;
          log_long = same_log ∙ turning.log_long;
          done = λ places plan state placed begins.
              let so_far = turning.done places plan state placed begins in
              let before = world_with state cache₀ boxes₀ log₀ in
              subst
              (λ (t : Turn).
              Done places plan scripts rights masks first.quota (steps + 1) t before (turned state t)
              cache' boxes' log')
              (after_more first steps clock clock')
              (subst
              (λ (s : State).
              Done places plan scripts rights masks first.quota (steps + 1) (turn_after turn 1 clock')
              before s cache' boxes' log')
              (turned_twice state turn clock') (
                runs_on places plan scripts first.quota steps 1 before
                    (world_with (turned state turn) cache boxes log) _ so_far.0
                    (op_runs plan scripts rights masks (turned state turn) turn so_far.1
                    places cache boxes log op clock' cache' boxes' log' is (rw placed ran)),
                next_turn plan scripts rights masks (turned state turn) turn so_far.1 clock',
              ));
        }

    -- a switch is next
    pub turn_ends :
        None ≡ next_step_of scripts turn
        → (places : ℕ → Option ℕ) (plan : Plan) (state : State)
        → places first.owner ≡ place
        → InTurn plan rights masks state first
        → step_by access_of places plan scripts first.quota (world_with (turned state turn) cache boxes log)
        ≡ switch_of plan (world_with (turned state turn) cache boxes log)
    turn_ends is places plan state placed begins =
        step_switches plan scripts rights masks (turned state turn) turn
        (turning.done places plan state placed begins).1 places cache boxes log is
