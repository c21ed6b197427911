-- A window's ops and its switch: what they are handed, and that as many steps lead to what they leave. Assumes nothing.
use Rattle.std.specs.Prelude.{Option}
use mathlib.Core.Path.{◌≡◌, refl, sym, ap, subst, ◌∙◌}
use mathlib.Core.Bool.{Bool, false, true}
use mathlib.Core.List.{List}
use Prim.Native.Nat.{ℕ, ◌+◌, ◌%◌, ◌-◌, ◌≤◌, ◌<◌}
use native.Mathlib.Nat.{mod-add-mod}
use native.Mathlib.Numerals.{add-one}
use native.Mathlib.Omega.{arith}
use lib.ListN.{get_or, length, set}
use borrow.Author.Tests.{lt-leb}
use Rattle.plan.specs.declared.Plan.{Plan}
use Rattle.plan.specs.Limits.{dearest_op, least_pad, most_domains}
use Rattle.plan.specs.Validity.{plan_valid}
use Rattle.plan.specs.Windows.{slot_of, window_end, window_owner, window_start, windows_total}
use Rattle.cache.proofs.Ticks.{flush_ticks_lem}
use Rattle.state.specs.declared.State.{State}
use Rattle.state.specs.World.{World, ended_of, position_at, records_at}
use Rattle.machine.specs.declared.Turn.{Turn}
use Rattle.machine.specs.declared.WindowProgress.{WindowProgress}
use Rattle.machine.specs.Switch.{flushed_clock, is_last, padded_clock, switched_cache, touched_clock, touched_clock_by}
use Rattle.machine.specs.View.{InTurn, RunsTo, TurnRan, WindowRan, clock_bound, turn_moved, turned, world_with}
use Rattle.machine.proofs.Going.{Going, going_on, small, windows_small}
use Rattle.machine.proofs.Runs.{runs_on, runs_one}
use Rattle.machine.proofs.Schedule.{next_start}
use Rattle.machine.proofs.Switched.{touch_most}
use Rattle.machine.proofs.Turns.{switch_stepped}

-- ---- what a turn is handed

-- the turn of a state whose window starts at `start` and is the declared window `slot`
abbrev pub turn_from : Plan → ℕ → State → ℕ → ℕ → Turn
turn_from plan quota state start slot =
    let owner = get_or plan.owners slot 0 in
    record {
      windows = state.windows;
      owner = owner;
      end = start + get_or plan.lengths slot 0;
      quota = quota;
      clock = state.clock;
      position = position_at state owner;
      records = records_at state owner;
    }

-- its numbers are small, so that nothing in it wraps
pub record Room (plan : Plan) (turn : Turn) : Type 0 where
  pub windows : turn.windows ≤ clock_bound
  pub owner : turn.owner < most_domains
  pub late : turn.clock ≤ turn.end + (dearest_op - 1)
  pub end : turn.end ≤ clock_bound
  pub declared : turn.owner < plan.domains

module _
    (plan : Plan) (quota : ℕ) (state : State) (start slot : ℕ)
    (possible : plan_valid plan ≡ true) (in_a_window : state.windows < windows_total plan)
    (starts : start ≡ window_start plan state.windows)
    (slot_is : slot ≡ slot_of plan state.windows) where
  pub turn_room : state.clock ≤ window_end plan state.windows + (dearest_op - 1)
      → Room plan (turn_from plan quota state start slot)
  turn_room late =
      let numbers = small plan state.windows start slot possible starts slot_is in_a_window in
      record {
        windows = omega (arith, windows_small plan possible);
        owner = numbers.owner_below;
        late = omega arith;
        end = omega arith;
        declared = numbers.owner_declared;
      }

  pub turn_here : length state.positions ≡ most_domains → length state.records ≡ most_domains
      → InTurn plan plan.rights plan.masks state (turn_from plan quota state start slot)
  unfolding window_owner
  turn_here positions records =
      let numbers = small plan state.windows start slot possible starts slot_is in_a_window in
      record {
        not_ended = in_a_window;
        owner_is = ap (λ (n : ℕ). get_or plan.owners n 0) (sym slot_is);
        end_is = sym numbers.end_is;
        rights_are = refl;
        masks_are = refl;
        stands =
            record {
              windows_is = refl;
              clock_is = refl;
              position_is = refl;
              records_is = refl;
              positions_long = omega arith;
              records_long = omega arith;
            };
      }

-- ---- its ops, and its switch

-- the turn and its steps after the switch
abbrev pub switched_to : WindowProgress → ℕ → WindowProgress
switched_to ran clock =
    record {
      steps = ran.steps + 1;
      turn =
          record {
            windows = ran.turn.windows + 1;
            owner = ran.turn.owner;
            end = ran.turn.end;
            quota = ran.turn.quota;
            clock = clock;
            position = ran.turn.position;
            records = ran.turn.records;
          };
    }

module _ (limit pad : ℕ) (first : Turn) (ran : WindowProgress) (within : ran.steps ≤ limit) (moved : ran.turn ≡ turn_moved first ran.turn) where
  -- the limit is reached
  pub turn_stops : 0 < limit → limit ≤ ran.steps → TurnRan limit pad first ran
  turn_stops some reached =
      record { some = omega arith; within = within; owner_is = ap (λ (t : Turn). t.owner) moved; next = λ fewer. absurd (omega arith) }

  -- or a switch follows
  module _ (clock : ℕ) (cache : List ℕ) (more : ran.steps < limit)
      (clocked : clock ≡ padded_clock ran.turn.end pad (touched_clock ran.turn.clock ran.turn.end cache)) where
    pub turn_switches : least_pad ≤ pad → ran.turn.clock ≤ first.end + (dearest_op - 1) → TurnRan limit pad first (switched_to ran clock)
    unfolding padded_clock touched_clock_by flushed_clock
    turn_switches least late =
        record {
          some = omega arith;
          within = omega arith;
          owner_is = ap (λ (t : Turn). t.owner) moved;
          next = λ fewer.
              (ap (λ (t : Turn). t.windows + 1) moved, omega (arith, clocked, ap (λ (t : Turn). t.end) moved, flush_ticks_lem cache, touch_most cache, late, least));
        }

    pub switch_runs :
        (places : ℕ → Option ℕ) (plan : Plan) (scripts rights masks : List ℕ) (state : State) (before : World) (boxes log cache' : List ℕ) (last : Bool)
        → WindowRan places plan scripts first.quota limit ran.steps before (world_with (turned state ran.turn) cache boxes log)
        → cache' ≡ switched_cache last cache
        → InTurn plan rights masks state first
        → plan.pad ≡ pad
        → is_last plan first.windows ≡ last
        → RunsTo places plan scripts first.quota (ran.steps + 1) before (world_with (turned state (switched_to ran clock).turn) cache' boxes log)
    unfolding ended_of
    switch_runs places plan scripts rights masks state before boxes log cache' last did left here pads lasts =
        let now = turned state ran.turn in
        let windows = ap (λ (t : Turn). t.windows) moved in
        let ends : window_end plan ran.turn.windows ≡ ran.turn.end =
        ap (window_end plan) windows ∙ here.end_is ∙ sym (ap (λ (t : Turn). t.end) moved) in
        let running : ended_of plan now ≡ false = lt-leb (windows_total plan) ran.turn.windows (omega (arith, windows, here.not_ended)) in
        runs_on places plan scripts first.quota ran.steps 1 before (world_with now cache boxes log) _ did.ran
        (runs_one places plan scripts first.quota (world_with now cache boxes log) _ running
        (did.due more
        ∙ sym (switch_stepped plan now cache boxes log ran.turn.end clock last cache' ends (ap (is_last plan) windows ∙ lasts)
        (clocked ∙ ap (λ (n : ℕ). padded_clock ran.turn.end n (touched_clock ran.turn.clock ran.turn.end cache)) (sym pads)) left)))

-- ---- a turn within a run

-- the state with the numbers of a turn, put where a domain's stand
abbrev turned_at : State → ℕ → Turn → State
turned_at state owner turn =
    record {
      windows = turn.windows;
      clock = turn.clock;
      positions = set state.positions owner turn.position;
      records = set state.records owner turn.records;
    }

-- a turn of a run: one that ends before the limit leaves the clock at the next window's start, and
-- the next declared window follows
pub going_turn :
    (places : ℕ → Option ℕ) (plan : Plan) (scripts : List ℕ) (quota limit : ℕ) (first : World) (state : State)
    (cache boxes log : List ℕ) (steps start slot : ℕ) (turn : Turn) (ran : WindowProgress)
    (slot' : ℕ) (cache' boxes' log' : List ℕ)
    → Going places plan scripts quota limit first (world_with state cache boxes log) steps start slot
    → window_end plan turn.windows ≡ turn.end
    → slot ≡ slot_of plan turn.windows
    → TurnRan (limit - steps) plan.pad turn ran
    → RunsTo places plan scripts quota ran.steps (world_with state cache boxes log) (world_with (turned state ran.turn) cache' boxes' log')
    → slot' ≡ (slot + 1) % plan.windows
    → length cache' ≡ length cache
    → length boxes' ≡ length boxes
    → length log' ≡ length log
    → Going places plan scripts quota limit first
    (world_with (turned_at state turn.owner ran.turn) cache' boxes' log')
    (steps + ran.steps) ran.turn.clock slot'
going_turn places plan scripts quota limit first state cache boxes log steps start slot turn ran slot'
    cache' boxes' log' going ends slot_is did runs follows same-cache same_boxes same_log =
    subst
    (λ (owner : ℕ).
    Going places plan scripts quota limit first
    (world_with (turned_at state owner ran.turn) cache' boxes' log')
    (steps + ran.steps) ran.turn.clock slot')
    did.owner_is
    (going_on places plan scripts quota limit first (world_with state cache boxes log) steps start slot
    going _ ran.steps _ _ did.within runs starts slots same-cache same_boxes same_log)
  where
    starts : ran.steps < limit - steps → ran.turn.clock ≡ window_start plan ran.turn.windows
    starts more =
        let next = did.next more in
        next.1
        ∙ ap (λ (n : ℕ). n + plan.pad) (sym ends)
        ∙ sym (next_start plan turn.windows)
        ∙ ap (window_start plan) (sym (next.0 ∙ add-one turn.windows))

    slots : ran.steps < limit - steps → slot' ≡ slot_of plan ran.turn.windows
    slots more =
        follows
        ∙ ap (λ (n : ℕ). (n + 1) % plan.windows) slot_is
        ∙ mod-add-mod turn.windows plan.windows 1
        ∙ ap (slot_of plan) (sym (did.next more).0)
