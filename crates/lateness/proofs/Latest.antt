-- What is answered is the latest finish: no run exceeds it, and the script that is handed back reaches it. Assumes nothing.
use Rattle.std.specs.Prelude.{Ok}
use Prim.Native.Nat.{ℕ, suc, ◌+◌, ◌*◌, ◌-◌, ◌≤◌, ◌<◌}
use mathlib.Core.Bool.{Bool, true, false, cond}
use mathlib.Core.List.{List, ◌++◌}
use mathlib.Core.Path.{◌≡◌, refl, sym, ap, subst, ◌∙◌}
use native.Mathlib.Decide.{dec_lt}
use native.Mathlib.Nat.{mul-div_cancel_left}
use native.Mathlib.Numerals.{add-one}
use native.Mathlib.Omega.{arith}
use lib.Dec.{ltb}
use lib.ListN.{get_or, length, length-replicate, replicate}
use lib.Seq.{get_or-append-add}
use borrow.Author.Tests.{ltb-true}
use Rattle.lists.proofs.Tests.{first_passes, second_passes}
use Rattle.plan.specs.declared.Plan.{Plan}
use Rattle.plan.specs.Colours.{holding_of}
use Rattle.plan.specs.Limits.{most_domains}
use Rattle.plan.specs.Rights.{may_send}
use Rattle.plan.specs.Validity.{plan_valid}
use Rattle.plan.specs.Windows.{window_end, window_length, window_owner, window_start, windows_total}
use Rattle.plan.proofs.ValidPlans.{counts}
use Rattle.script.specs.declared.Op.{Op}
use Rattle.script.specs.declared.Op.TheVariants.{Send, Receive, Compute}
use Rattle.script.specs.Limits.{most_ops, most_ticks}
use Rattle.script.specs.Stored.{stored_of}
use Rattle.cache.specs.Lines.{table_length}
use Rattle.records.specs.declared.Observation.{Observation}
use Rattle.records.specs.Records.{part_records, record_size}
use Rattle.cache.specs.Access.{old_access_of}
use Rattle.ops.specs.Ops.{Effect, compute_of, effect_by, message_by, receive_by}
use Rattle.reachable.specs.OldBoard.{old_effect_of}
use Rattle.ops.proofs.Ticks.{effect_takes}
use Rattle.state.specs.World.{World}
use Rattle.machine.specs.Switch.{switch_by, switch_of}
use Rattle.isolation.specs.Points.{FreshRun, windows_after, world_after}
use Rattle.isolation.proofs.OneRun.OnTime.{every_start}
use Rattle.isolation.proofs.TwoRuns.Progress.{before, no_fewer, one_more_lem}
use Rattle.isolation.proofs.TwoRuns.Windows.{whole}
use Rattle.latest.specs.Answer.{latest_verdict}
use Rattle.latest.specs.Latest.{box_indices, latest_later, latest_ticks}
use Rattle.latest.specs.Reach.{box_count, first_window, has_box, lowest_colour, lowest_recipient, lowest_sender, meets_kernel, own_indices, starts_run}
use Rattle.latest.specs.Script.{first_message, last_op, late_number, late_script_of, latest_script}
use Rattle.latest.proofs.Answers.{accepted_fits, accepted_told, told_is}
use Rattle.latest.proofs.Ranges.{domain_declared, first_window_lem}
use Rattle.lateness.specs.Lateness.{Finishes, lateness_of}
use Rattle.lateness.specs.Theorems.{EachFinishes, HasLateness, HoldsScript, IsLatest, LatestFinish, OneLatest, fresh_run}
use Rattle.lateness.proofs.Colours.{Row}
use Rattle.lateness.proofs.Fetching.{is_script, last_within, number_last}
use Rattle.lateness.proofs.Figures.{figure_of, switch_ticks}
use Rattle.lateness.proofs.Bounds.{first_told, later_told}
use Rattle.lateness.proofs.Last.{compute_least, later_least, message_least}
use Rattle.latest.proofs.Lowest.{lowest_passes}
use Rattle.lateness.proofs.Indices.{boxes_index}
use Rattle.lateness.proofs.NoneLater.{none_later, touched_is}
use Rattle.lateness.proofs.Opening.{Opened, opens}
use Rattle.lateness.proofs.Ops.{figure_is}
use Rattle.lateness.proofs.Running.{Judged, colours, next_op, old_op, start, world_at}
use Rattle.lateness.proofs.Waiting.{WaitedAt, base, last_few, last_tick, last_at}
use Rattle.lateness.proofs.Starting.{first_length, first_owner, windows_in_run}
use Rattle.lateness.proofs.Stepping.{Stepped, switch_steps}

-- ---- an answer that is no refusal

judged : (plan : Plan) (domain : ℕ) (buffer : List ℕ) → latest_verdict plan domain buffer ≡ Ok tt → Judged plan domain
judged plan domain buffer accepted =
    let fitting = accepted_fits plan domain buffer accepted in
    let first = first_window_lem plan domain fitting in
    let length = first_length plan domain first.some in
    record {
      valid = fitting.0;
      declared = domain_declared plan domain fitting;
      some = first.some;
      least = rw length first.length_least;
      most = rw length first.length_most;
    }

-- ---- the last op

module _ (plan : Plan) (domain : ℕ) (j : Judged plan domain) (scripts log : List ℕ)
    (holds : HoldsScript domain (latest_script plan domain) scripts) (room : most_ops ≤ part_records plan (length log)) where
  abbrev world : World
  world = world_at plan domain j scripts log holds room (last_at plan domain j scripts log holds room)

  waited : WaitedAt plan domain j scripts log holds room (last_at plan domain j scripts log holds room) (window_length plan (first_window plan domain) - 1)
  waited = last_tick plan domain j scripts log holds room

  abbrev effect : Effect
  effect = old_effect_of plan domain (last_op plan domain) world.cache world.boxes

  below : domain < most_domains
  below = omega (arith, j.declared, (counts plan j.valid).domains_most)

  last_number : late_number (late_script_of plan domain) (last_at plan domain j scripts log holds room) ≡ stored_of (last_op plan domain)
  unfolding late_script_of own_indices
  last_number =
      ap (late_number (late_script_of plan domain)) (sym (add-one _)) ∙ number_last (late_script_of plan domain)

  -- an op is as long, with the switch after it, as the figure says
  abbrev Reaches : Op → Type 0
  Reaches op =
      latest_ticks plan domain + 1
      ≤ (old_effect_of plan domain op world.cache world.boxes).ticks
      + switch_ticks (old_effect_of plan domain op world.cache world.boxes).cache

  abbrev row : Row plan domain
  row = colours plan domain j scripts log holds room

  opened : Opened plan domain (base plan domain j scripts log holds room)
  opened = (opens plan domain j scripts log holds room).opened

  -- ---- in the run's first window

  module _ (first : starts_run plan domain ≡ true) where
    told : latest_ticks plan domain ≡ figure_of (lowest_colour plan domain) (holding_of plan domain) (has_box plan domain)
    told = first_told plan domain first ∙ figure_is plan domain j.valid j.declared

    -- a message over a box that it may use
    message_reaches : (sender recipient : ℕ) (denied passed : Observation) (number : ℕ) → has_box plan domain ≡ true
        → sender < most_domains → recipient < most_domains → may_send plan sender recipient ≡ true
        → latest_ticks plan domain + 1
        ≤ (message_by old_access_of plan sender recipient denied passed number world.cache world.boxes).ticks
        + switch_ticks (message_by old_access_of plan sender recipient denied passed number world.cache world.boxes).cache
    unfolding message_by
    message_reaches sender recipient denied passed number box from to may =
        let empty = opened.untouched first box in
        rw (told, box, may)
        (message_least (lowest_colour plan domain) (holding_of plan domain) row.within row.some
        (base plan domain j scripts log holds room) world.cache waited.written sender recipient (omega arith) empty.l1 empty.kernel)

    compute_reaches : has_box plan domain ≡ false → latest_ticks plan domain + 1 ≤ most_ticks + switch_ticks world.cache
    compute_reaches alone =
        rw (told, alone)
        (compute_least (lowest_colour plan domain) (holding_of plan domain) row.within row.some
        (base plan domain j scripts log holds room) world.cache waited.written (opened.alone first alone))

    first_reaches : Reaches (first_message plan domain)
    unfolding first_message has_box lowest_recipient lowest_sender effect_by receive_by compute_of
    first_reaches = go (ltb (lowest_recipient plan domain) most_domains) refl (ltb (lowest_sender plan domain) most_domains) refl
      where
        go : (sends : Bool) → ltb (lowest_recipient plan domain) most_domains ≡ sends
            → (receives : Bool) → ltb (lowest_sender plan domain) most_domains ≡ receives
            → Reaches (cond sends (Send (lowest_recipient plan domain) 0) (cond receives (Receive (lowest_sender plan domain)) (Compute most_ticks)))
        go true sends receives _ =
            let some : lowest_recipient plan domain < most_domains = ltb-true _ _ sends in
            message_reaches domain (lowest_recipient plan domain) _ _ _
            (first_passes _ (ltb (lowest_sender plan domain) most_domains) sends) below some
            (lowest_passes (may_send plan domain) most_domains some)
        go false sends true receives =
            let some : lowest_sender plan domain < most_domains = ltb-true _ _ receives in
            message_reaches (lowest_sender plan domain) domain _ _ _
            (second_passes (ltb (lowest_recipient plan domain) most_domains) _ receives) some below
            (lowest_passes (λ sender. may_send plan sender domain) most_domains some)
        go false sends false receives = compute_reaches (rw (sends, receives) refl)

  -- ---- in any other

  later_reaches : starts_run plan domain ≡ false → latest_ticks plan domain + 1 ≤ most_ticks + switch_ticks world.cache
  unfolding latest_later box_indices own_indices meets_kernel
  later_reaches later =
      rw (later_told plan domain later)
      (later_least (lowest_colour plan domain) (holding_of plan domain) row.within row.some
      (base plan domain j scripts log holds room) world.cache waited.written (has_box plan domain) (box_count plan domain)
      (opened.front later) (opened.filled later)
      (λ box. rw (later, box) at (opened.dirty boxes_index (omega arith))))

  last_reaches : Reaches (last_op plan domain)
  unfolding last_op effect_by compute_of
  last_reaches = go (starts_run plan domain) refl
    where
      go : (first : Bool) → starts_run plan domain ≡ first → Reaches (cond first (first_message plan domain) (Compute most_ticks))
      go true first = first_reaches first
      go false later = later_reaches later

  -- ---- the window's end

  abbrev ops : ℕ
  ops = last_at plan domain j scripts log holds room

  abbrev window : ℕ
  window = first_window plan domain

  abbrev quota : ℕ
  quota = part_records plan (length log)

  last_step : Stepped plan domain window (suc ops) (window_length plan window - 1 + effect.ticks) effect.cache
      (world_at plan domain j scripts log holds room (suc ops))
  last_step =
      next_op plan domain j scripts log holds room ops _ (last_op plan domain) waited.stands (omega (arith, j.least))
      (last_few plan domain j scripts log holds room) last_number (last_within plan domain)

  abbrev final : World
  final = world_at plan domain j scripts log holds room (suc ops)

  takes : 1 ≤ effect.ticks
  takes =
      subst (λ (op : Effect). 1 ≤ op.ticks)
      (old_op plan domain j scripts log holds room ops _ (last_op plan domain) waited.stands (last_within plan domain))
      (effect_takes plan domain (last_op plan domain) world.cache world.boxes (last_within plan domain))

  abbrev at : ℕ
  at = (start plan domain j scripts log holds room).at + suc ops

  -- the switch comes next
  switched : world_after (fresh_run plan scripts log) (suc at) ≡ switch_of plan final
  switched =
      one_more_lem (fresh_run plan scripts log) at
      ∙ switch_steps plan scripts quota domain window (windows_in_run plan j.valid window j.some) (first_owner plan domain j.some) below
      (suc ops) _ final last_step.stands (omega (arith, j.least, takes))

  completes : windows_after (fresh_run plan scripts log) (suc at) ≡ suc window
  unfolding switch_by
  completes =
      ap (λ (next : World). next.state.windows) switched ∙ ap (λ n. n + 1) last_step.stands.windows ∙ add-one window

  -- and its lateness is the figure at least
  late_enough : latest_ticks plan domain ≤ lateness_of plan final
  unfolding lateness_of window_end
  late_enough =
      let stands = last_step.stands in
      let cache = last_step.cache_is in
      let long : length final.cache ≡ table_length = whole (fresh_run plan scripts log) j.valid at in
      let least = rw (sym cache) at last_reaches in
      let start_is = ap (window_start plan) stands.windows in
      let length-is = ap (window_length plan) stands.windows in
      omega (arith, stands.clock, touched_is final.state.clock (window_end plan final.state.windows) final.cache long, takes, j.least)

  finishes : Finishes (fresh_run plan scripts log) window (lateness_of plan final)
  finishes = record { at = at; before = last_step.stands.windows; after = completes; is = refl }

  -- and so exactly that
  reaches : Finishes (fresh_run plan scripts log) window (latest_ticks plan domain)
  reaches =
      let most = none_later plan scripts log window _ j.valid finishes in
      let same : latest_ticks plan (window_owner plan window) ≡ latest_ticks plan domain =
      ap (latest_ticks plan) (first_owner plan domain j.some) in
      let exact : lateness_of plan final ≡ latest_ticks plan domain = omega (arith, late_enough) in
      subst (Finishes (fresh_run plan scripts log) window) exact finishes

-- ---- the statements

is_latest : (plan : Plan) (domain : ℕ) → Judged plan domain → IsLatest plan domain (latest_script plan domain) (latest_ticks plan domain)
is_latest plan domain j =
    record {
      none_later = λ scripts log window late owner finishes.
          subst (λ owner. late ≤ latest_ticks plan owner) owner (none_later plan scripts log window late j.valid finishes);
      reached = λ scripts log holds room. reaches plan domain j scripts log holds room;
    }

pub latest_finish : LatestFinish
latest_finish plan domain buffer tells =
    let accepted = accepted_told plan domain buffer tells in
    let is = told_is plan domain buffer accepted in
    record {
      is_latest = rw (is.0, is.1) (is_latest plan domain (judged plan domain buffer accepted));
      is_script = rw is.0 (is_script plan domain (accepted_fits plan domain buffer accepted));
    }

-- ---- one number alone is the maximum

-- a store that holds a script for a domain
abbrev store_of : ℕ → List ℕ → List ℕ
store_of domain script = replicate (most_ops * domain) 0 ++ script

store_holds : (domain : ℕ) (script : List ℕ) → HoldsScript domain script (store_of domain script)
store_holds domain script index small =
    subst (λ n. get_or (store_of domain script) (n + index) 0 ≡ get_or script index 0) (length-replicate {A = ℕ} (most_ops * domain) 0)
    (get_or-append-add (replicate (most_ops * domain) 0) script index 0)

-- a log that has room for one
abbrev wide_log : Plan → List ℕ
wide_log plan = replicate (record_size * plan.domains * most_ops) 0

wide_enough : (plan : Plan) → 0 < plan.domains → most_ops ≤ part_records plan (length (wide_log plan))
unfolding part_records
wide_enough plan some =
    let long : length (wide_log plan) ≡ record_size * plan.domains * most_ops =
    length-replicate {A = ℕ} (record_size * plan.domains * most_ops) 0 in
    rw (long, mul-div_cancel_left most_ops {n = record_size * plan.domains} (omega arith)) (omega arith)

pub one_latest : OneLatest
one_latest plan domain buffer script ticks tells other =
    let accepted = accepted_told plan domain buffer tells in
    let j = judged plan domain buffer accepted in
    let mine = is_latest plan domain j in
    let window = first_window plan domain in
    let owner = first_owner plan domain j.some in
    let wide = wide_enough plan (omega (arith, j.declared)) in
    let theirs = store_of domain script in
    let ours = store_of domain (latest_script plan domain) in
    let log = wide_log plan in
    let less : ticks ≤ latest_ticks plan domain =
    mine.none_later theirs log window ticks owner (other.reached theirs log (store_holds domain script) wide) in
    let more : latest_ticks plan domain ≤ ticks =
    other.none_later ours log window _ owner (mine.reached ours log (store_holds domain (latest_script plan domain)) wide) in
    omega (arith, (told_is plan domain buffer accepted).1)

-- ---- every window finishes

finishes_at : (plan : Plan) (scripts log : List ℕ) (window : ℕ) → plan_valid plan ≡ true → window < windows_total plan → HasLateness plan scripts log window
finishes_at plan scripts log window valid within =
    let run = fresh_run plan scripts log in
    let next = every_start run valid (suc window) within in
    let last = before run window next.at next.starts in
    record {
      late = lateness_of plan (world_after run last.last);
      finishes =
          record {
            at = last.last;
            before = last.within;
            after = rw last.follows at next.starts.reached;
            is = refl;
          };
    }

-- a window has one switch
one_switch : (run : FreshRun) (window first second : ℕ) → plan_valid run.plan ≡ true
    → windows_after run first ≡ window → windows_after run (suc first) ≡ suc window
    → windows_after run second ≡ window → windows_after run (suc second) ≡ suc window
    → first ≡ second
one_switch run window first second valid before-first after_first before-second after-second = go (dec_lt first second) (dec_lt second first)
  where
    go : Dec (first < second) → Dec (second < first) → first ≡ second
    go (yes less) other = absurd (omega (arith, no_fewer run valid (suc first) second less))
    go (no more) (yes less) = absurd (omega (arith, no_fewer run valid (suc second) first less))
    go (no more) (no less) = omega arith

pub each_finishes : EachFinishes
each_finishes =
    record {
      some = finishes_at;
      one = λ plan scripts log window first second valid a b.
          let run = fresh_run plan scripts log in
          let same = one_switch run window a.at b.at valid a.before a.after b.before b.after in
          sym a.is ∙ ap (λ count. lateness_of plan (world_after run count)) same ∙ b.is;
    }
