-- Every run agrees with the machine in which rivals' windows pass idle: for the domains of a set the worlds are the same at
-- every point, and in a window of theirs also inside. By induction over the windows. Assumes nothing.
use Prim.Native.Nat.{ℕ, zero, suc, ◌+◌, ◌-◌, ◌≤◌, ◌<◌}
use mathlib.Core.Bool.{Bool, true, false, false≢true}
use mathlib.Core.List.{List}
use mathlib.Core.Path.{◌≡◌, refl, sym, ap, subst, ◌∙◌}
use native.Mathlib.Decide.{dec_lt}
use native.Mathlib.Nat.{add-sub_of_le, add-suc, add-zero}
use native.Mathlib.Omega.{arith}
use borrow.Author.Tests.{eq-eqb, ne_eqb}
use lib.ListN.{length, length-replicate, replicate}
use Rattle.lists.proofs.Agree.{Agree, agree_refl}
use Rattle.plan.specs.declared.Plan.{Plan}
use Rattle.plan.specs.Limits.{most_domains}
use Rattle.plan.specs.Sums.{sum_to}
use Rattle.plan.specs.Validity.{plan_valid}
use Rattle.plan.specs.Windows.{window_owner, window_start, windows_total}
use Rattle.script.specs.Limits.{most_ops}
use Rattle.records.specs.Records.{log_part, part_records}
use Rattle.ops.specs.Ops.{boxes_length}
use Rattle.state.specs.World.{World, fresh_state, records_at}
use Rattle.machine.specs.Fresh.{fresh_world}
use Rattle.machine.specs.Steps.{run_by, step_of}
use Rattle.machine.specs.Switch.{switch_by, switch_of}
use Rattle.machine.proofs.Schedule.{Scheduled, switch_clock}
use Rattle.reachable.proofs.Cells.{cell_zeros}
use Rattle.reachable.proofs.Counts.{counted}
use Rattle.reachable.proofs.Reached.{boxes_length_lem}
use Rattle.isolation.specs.Points.{FreshRun, Starts, ops_for, ops_of, ops_of_domain, windows_after, world_after}
use Rattle.isolation.specs.Solo.{AgreesWithSolo, InSet, Matches, SoloInput, run_under}
use Rattle.isolation.specs.Solo.{solo_at, solo_from, solo_here, solo_start, wait_step, wait_steps, with_boxes}
use Rattle.isolation.proofs.OneRun.OnTime.{scheduled_after, started}
use Rattle.isolation.proofs.TwoRuns.Indices.{FlushedIndex, kernel, l1, own_set}
use Rattle.isolation.proofs.TwoRuns.Log.{part_of_log}
use Rattle.isolation.proofs.TwoRuns.Near.{Locked, Near, Paired, locked_step, near_both, near_refl, near_switch, switched, worked}
use Rattle.isolation.proofs.TwoRuns.OpCounts.{ops_so_far_lem, past_the_last}
use Rattle.isolation.proofs.TwoRuns.OpStep.{Whole, ready_alike, switch_flushed}
use Rattle.isolation.proofs.TwoRuns.Positions.{position_is_ops}
use Rattle.isolation.proofs.TwoRuns.Progress.{first_start, lasts, stays_ended}
use Rattle.isolation.proofs.TwoRuns.Relations.{same_position, same_records}
use Rattle.isolation.proofs.TwoRuns.Windows.{Began, BoxTo, Completed, Watched, began, completed, next_world, ready, stays_near, whole}

-- ---- waiting

module _ (input : SoloInput) where
  abbrev pub solo_step : World → World
  solo_step = step_of input.plan input.scripts (part_records input.plan input.log_length)

  -- a switch completes a window
  completes : (world : World) → solo_step world ≡ switch_of input.plan world
      → (solo_step world).state.windows ≡ world.state.windows + 1
  unfolding switch_by
  completes world e = ap (λ (w : World). w.state.windows) e

  -- a step within the window is taken
  wait_goes : (world : World) → (solo_step world).state.windows ≡ world.state.windows
      → wait_step input world ≡ solo_step world
  unfolding wait_step
  wait_goes world same = rw (eq-eqb _ _ same) refl

  -- a switch is not
  wait_stays : (world : World) → (solo_step world).state.windows ≡ world.state.windows + 1
      → wait_step input world ≡ world
  unfolding wait_step
  wait_stays world next = rw (ne_eqb (solo_step world).state.windows world.state.windows (λ same. omega arith)) refl

  wait_none : (world : World) → wait_steps input 0 world ≡ world
  unfolding wait_steps
  wait_none world = refl

  wait_more : (count : ℕ) (world : World)
      → wait_steps input (suc count) world ≡ wait_step input (wait_steps input count world)
  unfolding wait_steps
  wait_more count world = refl

  -- and then there is nothing more to take
  wait_over : (count : ℕ) (world : World)
      → (solo_step (wait_steps input count world)).state.windows ≡ (wait_steps input count world).state.windows + 1
      → (more : ℕ) → wait_steps input (count + more) world ≡ wait_steps input count world
  unfolding wait_steps
  wait_over count world due zero = rw add-zero refl
  wait_over count world due (suc more) =
      rw add-suc (ap (wait_step input) (wait_over count world due more) ∙ wait_stays (wait_steps input count world) due)

-- a window of the set begins on the boxes that were given
abbrev pub solo_first : SoloInput → ℕ → World
solo_first input window = with_boxes (input.mail window) (solo_start input window)

-- any other passes idle, whatever its ops
pub idle_same : (input : SoloInput) (window count count' : ℕ) → (InSet input (window_owner input.plan window) → ⊥)
    → solo_at input window count ≡ solo_at input window count'
unfolding solo_from
idle_same input window count count' idle = go (input.in_set (window_owner input.plan window)) refl
  where
    go : (test : Bool) → input.in_set (window_owner input.plan window) ≡ test
        → solo_at input window count ≡ solo_at input window count'
    go true test = absurd (idle test)
    go false test = rw test refl

-- a switch of two worlds of one window
module _ (plan : Plan) (quota : ℕ) (Named : ℕ → Type 0) where
  -- at a window's start
  pub record Meets (one other : World) : Type 0 where
    pub near : Near plan quota Named one other
    pub windows : one.state.windows ≡ other.state.windows
    pub clock : one.state.clock ≡ other.state.clock
    pub flushed : Agree FlushedIndex one.cache other.cache

  fresh_meets : (log log' : List ℕ) → length log ≡ length log' → Meets (fresh_world log) (fresh_world log')
  unfolding fresh_world fresh_state
  fresh_meets log log' same = record { near = near; windows = refl; clock = refl; flushed = agree_refl _ _ }
    where
      near : Near plan quota Named (fresh_world log) (fresh_world log')
      near domain named =
          record {
            positions = agree_refl _ _;
            records = agree_refl _ _;
            sets = agree_refl _ _;
            log = record { len = same; at = λ index p. absurd (omega (arith, p.from, p.recorded, cell_zeros most_domains domain)) };
          }

  -- other boxes change nothing outside a window
  boxed_near : (one other : World) (boxes : List ℕ) → Near plan quota Named one other
      → Near plan quota Named one (with_boxes boxes other)
  boxed_near one other boxes near domain n =
      let a = near domain n in
      record { positions = a.positions; records = a.records; sets = a.sets; log = a.log }

  same_schedule : (one other : World) → one.state.windows ≡ other.state.windows
      → one.state.clock ≡ other.state.clock
      → Scheduled plan one → Scheduled plan other
  same_schedule one other windows clock s =
      record {
        windows = rw (← windows) s.windows;
        started = rw (← windows, ← clock) s.started;
        soon = rw (← windows, ← clock) s.soon;
        ended = rw (← windows, ← clock) s.ended;
      }

  module _ (possible : plan_valid plan ≡ true) (declared : (domain : ℕ) → Named domain → domain < plan.domains) where
    switches_meet : (one other : World) → Near plan quota Named one other → one.state.windows ≡ other.state.windows
        → Scheduled plan one → Scheduled plan other → one.state.windows < windows_total plan → Whole one → Whole other
        → Meets (switch_of plan one) (switch_of plan other)
    unfolding switch_by
    switches_meet one other near windows s s' room full full' =
        record {
          near =
              near_both plan quota Named one other (switch_of plan one) (switch_of plan other) near
              (near_switch plan quota Named possible declared one full) (near_switch plan quota Named possible declared other full');
          windows = ap (λ (n : ℕ). n + 1) windows;
          clock =
              switch_clock plan one possible s room
              ∙ ap (λ (n : ℕ). window_start plan (n + 1)) windows
              ∙ sym (switch_clock plan other possible s' (rw (← windows) room));
          flushed = switch_flushed plan one other windows full full';
        }

-- ---- a run beside it

module _ (input : SoloInput) (scripts log : List ℕ) (count : ℕ) (possible : plan_valid input.plan ≡ true)
    (m : Matches input scripts log count) where
  abbrev plan : Plan
  plan = input.plan

  abbrev Named : ℕ → Type 0
  Named = InSet input

  abbrev run : FreshRun
  run = run_under input scripts log

  abbrev quota : ℕ
  quota = part_records plan input.log_length

  -- the boxes addressed to the set are kept
  watched : Watched plan Named (BoxTo Named)
  watched =
      record {
        possible = possible;
        is_named = λ domain. decided (input.in_set domain);
        declared = m.declared;
        to = λ domain n sender known. record { sender = sender; recipient = domain; known = known; named = n; addressed = refl };
      }
    where
      decided : (test : Bool) → Dec (test ≡ true)
      decided true = yes refl
      decided false = no (λ e. false≢true e)

  quota_is : part_records plan (length log) ≡ quota
  quota_is = ap (part_records plan) m.log_is

  abbrev MeetsAt : ℕ → World → Type 0
  MeetsAt at other = Meets plan quota Named (world_after run at) other

  abbrev LockedWith : ℕ → ℕ → World → Type 0
  LockedWith running at other = Locked plan quota Named (BoxTo Named) running (world_after run at) other

  long : (at : ℕ) → length (world_after run at).boxes ≡ boxes_length
  unfolding world_after fresh_world
  long at = boxes_length_lem plan scripts log at possible

  full : (at : ℕ) → Whole (world_after run at)
  full = whole run possible

  -- the set's own window begins on the boxes that were given
  begin : (window at : ℕ) → window < windows_total plan → Named (window_owner plan window) → Starts run window at
      → at ≤ count
      → (other : World) → MeetsAt at other
      → LockedWith (window_owner plan window) at (with_boxes (input.mail window) other)
  begin window at room named s so_far other meets =
      record {
        near = near;
        close =
            record {
              outside = near (window_owner plan window) named;
              windows = meets.windows;
              clock = meets.clock;
              flushed = meets.flushed;
              boxes = boxes;
            };
      }
    where
      near : Near plan quota Named (world_after run at) (with_boxes (input.mail window) other)
      near = boxed_near plan quota Named (world_after run at) other (input.mail window) meets.near

      boxes : Agree (BoxTo Named) (world_after run at).boxes (input.mail window)
      boxes =
          record {
            len = long at ∙ sym (m.mail_fits window);
            at = λ index p. rw p.addressed (m.mail_is window at room named s so_far p.sender p.recipient p.known p.named);
          }

  -- both do an op, or both switch
  both_next : (window at : ℕ) (other : World) → Named (window_owner plan window) → windows_after run at ≡ window
      → LockedWith (window_owner plan window) at other
      → Paired plan quota Named (BoxTo Named) (window_owner plan window) (world_after run at) other (world_after run (suc at))
      (solo_step input other)
  both_next window at other named here lock =
      rw (next_world run watched quota quota_is at)
      (locked_step plan quota Named possible m.declared scripts input.scripts m.scripts_are watched.to
      (window_owner plan window) (world_after run at) other named (ap (window_owner plan) here) (ready run possible at)
      (ready_alike plan lock.close.windows lock.close.flushed (ready run possible at)) lock)

  -- so both complete as many windows
  same_next : (window at : ℕ) (other : World) → Named (window_owner plan window) → windows_after run at ≡ window
      → LockedWith (window_owner plan window) at other → windows_after run (suc at) ≡ (solo_step input other).state.windows
  unfolding switch_by
  same_next window at other named here lock = go (both_next window at other named here lock)
    where
      go : Paired plan quota Named (BoxTo Named) (window_owner plan window) (world_after run at) other (world_after run (suc at))
          (solo_step input other)
          → windows_after run (suc at) ≡ (solo_step input other).state.windows
      go (worked l) = l.close.windows
      go (switched e e') =
          ap (λ (w : World). w.state.windows) e
          ∙ ap (λ (n : ℕ). n + 1) lock.close.windows
          ∙ sym (ap (λ (w : World). w.state.windows) e')

  -- one step while the window lasts
  follow_one : (window at : ℕ) (other : World) → Named (window_owner plan window) → windows_after run at ≡ window
      → LockedWith (window_owner plan window) at other → windows_after run (suc at) ≡ window
      → LockedWith (window_owner plan window) (suc at) (wait_step input other)
  follow_one window at other named here lock there =
      subst (LockedWith (window_owner plan window) (suc at)) (sym (wait_goes input other stays))
      (go (both_next window at other named here lock))
    where
      stays : (solo_step input other).state.windows ≡ other.state.windows
      stays = sym (same_next window at other named here lock) ∙ there ∙ sym here ∙ lock.close.windows

      go : Paired plan quota Named (BoxTo Named) (window_owner plan window) (world_after run at) other (world_after run (suc at))
          (solo_step input other)
          → LockedWith (window_owner plan window) (suc at) (solo_step input other)
      go (worked l) = l
      go (switched e e') = absurd (omega (arith, stays, completes input other e'))

  -- in lockstep to its end
  follow : (window at : ℕ) (other : World) → Named (window_owner plan window) → windows_after run at ≡ window
      → LockedWith (window_owner plan window) at other
      → (more : ℕ) → windows_after run (at + more) ≡ window
      → LockedWith (window_owner plan window) (at + more) (wait_steps input more other)
  follow window at other named here lock zero there = rw (add-zero at, wait_none input other) lock
  follow window at other named here lock (suc more) there =
      let earlier = lasts run possible window at more here there in
      rw (add-suc at more, wait_more input more other)
      (follow_one window (at + more) (wait_steps input more other) named earlier
      (follow window at other named here lock more earlier) (rw add-suc at there))

  -- a window has no more ops than a script
  few_ops : (window at more : ℕ) → window < windows_total plan → Starts run window at
      → windows_after run (at + more) ≡ window
      → more ≤ most_ops
  unfolding world_after fresh_world ops_of_domain sum_to
  few_ops window at more room s there =
      let owner = window_owner plan window in
      let position = position_is_ops run possible owner (at + more) in
      let most = (counted plan scripts (part_records plan (length log)) possible (at + more) log).position owner in
      let ops = ops_so_far_lem run possible window at s room more there in
      let own : ops_for run owner (at + more) window ≡ more = rw (eq-eqb owner owner refl) ops in
      let last : ops_for run owner (at + more) window ≤ ops_of_domain run owner (at + more) = rw there (omega arith) in
      omega arith

  -- the window's last world, and what is left of its ops
  to_the_end : (window next : ℕ) (p : Completed run window next) → next ≤ count → Named (window_owner plan window)
      → MeetsAt p.at (solo_start input window)
      → LockedWith (window_owner plan window) (p.at + p.more) (solo_at input window most_ops)
  unfolding solo_from
  to_the_end window next p so_far named meets =
      let early : p.at ≤ count = omega (arith, p.follows) in
      let first = with_boxes (input.mail window) (solo_start input window) in
      let lock = begin window p.at p.room named p.starts early (solo_start input window) meets in
      let last = follow window p.at first named p.starts.reached lock p.more p.within in
      let due = sym (same_next window (p.at + p.more) _ named p.within last) ∙ p.past in
      let few = few_ops window p.at p.more p.room p.starts p.within in
      let over = wait_over input p.more first (omega (arith, due, last.close.windows, p.within)) (most_ops - p.more) in
      let ends : wait_steps input most_ops first ≡ wait_steps input p.more first =
      ap (λ (n : ℕ). wait_steps input n first) (sym (add-sub_of_le few)) ∙ over in
      rw (named, ends) last

  -- ---- from window to window

  -- at a window's switch
  record AtSwitch (one other : World) : Type 0 where
    near : Near plan quota Named one other
    windows : one.state.windows ≡ other.state.windows
    schedule : Scheduled plan other
    whole' : Whole other

  named_switch : (at : ℕ) (other : World) (running : ℕ) → LockedWith running at other
      → AtSwitch (world_after run at) other
  named_switch at other running lock =
      record {
        near = lock.near;
        windows = lock.close.windows;
        schedule =
            same_schedule plan quota Named (world_after run at) other lock.close.windows lock.close.clock
            (scheduled_after run possible at);
        whole' = sym lock.close.flushed.len ∙ full at;
      }

  -- another's window: what the set has is left as it was
  idle_near : (window at more : ℕ) (other : World) → (Named (window_owner plan window) → ⊥) → Starts run window at
      → windows_after run (at + more) ≡ window → MeetsAt at other
      → Near plan quota Named (world_after run (at + more)) other
  idle_near window at more other unnamed s there meets =
      near_both plan quota Named (world_after run at) other (world_after run (at + more)) other meets.near
      (stays_near run watched quota quota_is window at unnamed s.reached more there) (near_refl plan quota Named other)

  idle_switch : (window at more : ℕ) (other : World) → (Named (window_owner plan window) → ⊥) → Starts run window at
      → windows_after run (at + more) ≡ window → MeetsAt at other → AtSwitch (world_after run (at + more)) other
  idle_switch window at more other unnamed s there meets =
      record {
        near = idle_near window at more other unnamed s there meets;
        windows = there ∙ sym s.reached ∙ meets.windows;
        schedule =
            same_schedule plan quota Named (world_after run at) other meets.windows meets.clock (scheduled_after run possible at);
        whole' = sym meets.flushed.len ∙ full at;
      }

  at_switch : (window next : ℕ) (p : Completed run window next) → next ≤ count
      → MeetsAt p.at (solo_start input window)
      → (test : Bool) → input.in_set (window_owner plan window) ≡ test
      → AtSwitch (world_after run (p.at + p.more)) (solo_at input window most_ops)
  unfolding solo_from
  at_switch window next p so_far meets true test =
      named_switch (p.at + p.more) (solo_at input window most_ops) (window_owner plan window) (to_the_end window next p so_far test meets)
  at_switch window next p so_far meets false test =
      rw test
      (idle_switch window p.at p.more (solo_start input window) (λ n. false≢true (sym test ∙ n)) p.starts p.within meets)

  next_meets : (window next : ℕ) (p : Completed run window next) → next ≤ count
      → MeetsAt p.at (solo_start input window)
      → MeetsAt next (solo_start input (suc window))
  unfolding solo_start
  next_meets window next p so_far meets =
      let last = at_switch window next p so_far meets (input.in_set (window_owner plan window)) refl in
      rw p.switched
      (switches_meet plan quota Named possible m.declared (world_after run (p.at + p.more)) (solo_at input window most_ops)
      last.near last.windows (scheduled_after run possible (p.at + p.more)) last.schedule
      (omega (arith, p.within, p.room)) (full (p.at + p.more)) last.whole')

  first_meets : MeetsAt 0 (solo_start input 0)
  unfolding world_after run_by solo_start fresh_world
  first_meets =
      fresh_meets plan quota Named log (replicate input.log_length 0) (m.log_is ∙ sym (length-replicate {A = ℕ} input.log_length 0))

  -- every window so far starts at the world that was computed for its start
  meets : (window at : ℕ) → Starts run window at → at ≤ count → MeetsAt at (solo_start input window)
  meets zero at s so_far = rw (first_start run at s) first_meets
  meets (suc window) at s so_far =
      let p = completed run possible count (started run possible count) window at so_far s in
      next_meets window at p so_far (meets window p.at p.starts (omega (arith, p.follows)))

  -- in a window of the set the run completes one where the computed world does
  pub next_is : (window at more : ℕ) → window < windows_total plan → Named (window_owner plan window)
      → Starts run window at
      → at ≤ count → windows_after run (at + more) ≡ window
      → windows_after run (suc (at + more)) ≡ (solo_step input (wait_steps input more (solo_first input window))).state.windows
  next_is window at more room named s so_far there =
      same_next window (at + more) _ named there
      (follow window at (solo_first input window) named s.reached
      (begin window at room named s so_far (solo_start input window) (meets window at s so_far)) more there)

  -- ---- at the point

  abbrev now : ℕ
  now = windows_after run count

  pub none_past : (window : ℕ) → windows_total plan ≤ window → (at : ℕ) → ops_of run window at ≡ 0
  unfolding ops_of
  none_past window over zero = refl
  none_past window over (suc at) = past_the_last run possible window at over ∙ none_past window over at

  -- before its first op a window's world is the one at its start, but for the boxes
  at_no_op : (window : ℕ) (one : World) → Near plan quota Named one (solo_start input window)
      → (test : Bool) → input.in_set (window_owner plan window) ≡ test
      → Near plan quota Named one (solo_at input window 0)
  unfolding solo_from
  at_no_op window one near true test =
      rw (test, wait_none input (with_boxes (input.mail window) (solo_start input window)))
      (boxed_near plan quota Named one (solo_start input window) (input.mail window) near)
  at_no_op window one near false test = rw test near

  module _ (b : Began run now count) where
    start : MeetsAt b.at (solo_start input now)
    start = meets now b.at b.starts (omega (arith, b.point))

    within : windows_after run (b.at + b.more) ≡ now
    within = ap (windows_after run) (sym b.point)

    -- in a window of the set
    locked_now : now < windows_total plan → Named (window_owner plan now)
        → LockedWith (window_owner plan now) count (solo_here input scripts log count)
    unfolding solo_from
    locked_now room named =
        let first = with_boxes (input.mail now) (solo_start input now) in
        let lock = begin now b.at room named b.starts (omega (arith, b.point)) (solo_start input now) start in
        let last = follow now b.at first named b.starts.reached lock b.more within in
        let ops : ops_of run now count ≡ b.more =
        ap (ops_of run now) b.point ∙ ops_so_far_lem run possible now b.at b.starts room b.more within in
        rw (named, ops) (rw (← b.point) at last)

    -- anywhere
    near_now : Dec (now < windows_total plan) → (test : Bool) → input.in_set (window_owner plan now) ≡ test
        → Near plan quota Named (world_after run count) (solo_here input scripts log count)
    unfolding solo_from
    near_now (yes room) true test = (locked_now room test).near
    near_now (yes room) false test =
        rw test
        (rw (← b.point) at
        (idle_near now b.at b.more (solo_start input now) (λ n. false≢true (sym test ∙ n)) b.starts within start))
    near_now (no over) test is =
        let stays = ap (world_after run) b.point ∙ stays_ended run b.at b.more (omega (arith, b.starts.reached)) in
        rw (none_past now (omega arith) count)
        (at_no_op now (world_after run count) (rw (← stays) at start.near) test is)

    abbrev here : World
    here = world_after run count

    abbrev solo : World
    solo = solo_here input scripts log count

    near_here : Near plan quota Named here solo
    near_here = near_now (dec_lt now (windows_total plan)) (input.in_set (window_owner plan now)) refl

    few : (member : ℕ) → records_at here.state member ≤ quota
    unfolding world_after fresh_world
    few member =
        rw (← quota_is) ((counted plan scripts (part_records plan (length log)) possible count log).records member)

    agrees_here : AgreesWithSolo input scripts log count
    agrees_here =
        record {
          members = λ member named.
              let near = near_here member named in
              record {
                records = same_records plan quota member near;
                log =
                    part_of_log quota member _ (few member) near.log
                    ∙ ap (λ (number : ℕ). log_part quota member number solo.log) (same_records plan quota member near);
                position = same_position plan quota member near;
                sets = λ set way in_table in_set owns. near.sets.at _ (own_set plan member set way in_set owns);
              };
          in_a_window = λ w.
              let close = (locked_now w.not_ended w.owner).close in
              record {
                clock = close.clock;
                l1 = λ index below. close.flushed.at index (l1 (omega arith));
                kernel_sets = λ set way in_table in_set colour. close.flushed.at _ (kernel (omega arith));
                boxes = λ sender recipient known named.
                    close.boxes.at _
                    (record { sender = sender; recipient = recipient; known = omega arith; named = named; addressed = refl });
              };
        }

  pub agrees_with_solo : AgreesWithSolo input scripts log count
  agrees_with_solo = agrees_here (began run possible count (started run possible count) now count (omega arith) (omega arith))
