-- The script that is handed back from where its opening ends to the last tick of its domain's first window: the writes, the computes.
-- Assumes nothing.
use Prim.Native.Nat.{ℕ, zero, suc, ◌+◌, ◌*◌, ◌-◌, ◌/◌, ◌%◌, ◌≤◌, ◌<◌}
use mathlib.Core.Bool.{Bool, true, false, cond, ◌&&◌}
use mathlib.Core.List.{List}
use mathlib.Core.Path.{◌≡◌, refl, ap, subst, ◌∙◌}
use native.Mathlib.Nat.{add-suc, add-zero}
use native.Mathlib.Omega.{arith}
use lib.ListN.{get_or, length}
use borrow.Author.Tests.{le-ltb}
use Rattle.plan.specs.declared.Plan.{Plan}
use Rattle.plan.specs.Colours.{holding_of, owns_colour}
use Rattle.plan.specs.Sums.{sum_to}
use Rattle.plan.proofs.Sums.{sum_most}
use Rattle.plan.specs.Windows.{window_length}
use Rattle.script.specs.declared.Op.TheVariants.{Write, Compute}
use Rattle.script.specs.Limits.{OpWithinLimits, most_ops, most_ticks}
use Rattle.script.specs.Stored.{stored_of}
use Rattle.cache.specs.Access.{dirty_ticks, miss_ticks, old_access_of, replace_ticks}
use Rattle.cache.specs.Lines.{l1_index, most_line, set_colour, set_of, sets_per_colour}
use Rattle.records.specs.Records.{part_records}
use Rattle.ops.specs.Ops.{compute_of, effect_by, owns_line, touch_by}
use Rattle.reachable.specs.OldBoard.{old_effect_of}
use Rattle.state.specs.World.{World}
use Rattle.isolation.proofs.TwoRuns.Indices.{own_set}
use Rattle.latest.specs.Reach.{first_window, has_box, lowest_colour, meets_kernel, own_indices, starts_run}
use Rattle.latest.specs.Script.{late_number, late_script_of, latest_script, opening_ops, opening_ticks, replacing_ticks, waiting_ticks, written_ticks}
use Rattle.latest.proofs.Ranges.{opening_most, opening_ticks_most, replacing_most}
use Rattle.lateness.specs.Theorems.{HoldsScript}
use Rattle.lateness.proofs.Accesses.{replaced_most}
use Rattle.lateness.proofs.Colours.{Row}
use Rattle.lateness.proofs.Fetching.{number_rest, number_wait, number_write}
use Rattle.lateness.proofs.Indices.{indices_of, meets}
use Rattle.lateness.proofs.Opening.{leaves_dirty, opens}
use Rattle.lateness.proofs.Running.{Judged, StandsAt, colours, next_op, world_at}
use Rattle.lateness.proofs.Starting.{first_length}
use Rattle.lateness.proofs.Writing.{Lacking, Written, all_replaced, line_at, replaced_ticks, write_more, write_ticks}

module _ (plan : Plan) (domain : ℕ) (judged : Judged plan domain) (scripts log : List ℕ)
    (holds : HoldsScript domain (latest_script plan domain) scripts) (room : most_ops ≤ part_records plan (length log)) where
  abbrev window : ℕ
  window = first_window plan domain

  abbrev lowest : ℕ
  lowest = lowest_colour plan domain

  abbrev held : ℕ
  held = holding_of plan domain

  abbrev row : Row plan domain
  row = colours plan domain judged scripts log holds room

  abbrev at : ℕ → World
  at ops = world_at plan domain judged scripts log holds room ops

  abbrev Stand : ℕ → ℕ → Type 0
  Stand ops ticks = StandsAt plan domain judged scripts log holds room ops ticks

  abbrev opening : ℕ
  opening = opening_ops plan domain

  -- ---- the writes

  -- L1 and the kernel's sets before them
  abbrev pub base : List ℕ
  base = (world_at plan domain judged scripts log holds room (opening_ops plan domain)).cache

  abbrev line_of : ℕ → ℕ
  line_of count = line_at lowest held row.within count

  base_lacks : Lacking lowest held row.within base
  base_lacks index line small few =
      (opens plan domain judged scripts log holds room).opened.lacks index (line_of line) small (omega (arith, row.within))

  -- a line that is written is the domain's own
  own_colour : (count : ℕ) → count < indices_of held → owns_colour plan domain (set_colour (line_of count)) ≡ true
  own_colour count few =
      let same : lowest + count / sets_per_colour ≡ set_colour (line_of count) = omega arith in
      subst (λ colour. owns_colour plan domain colour ≡ true) same (row.owned (count / sets_per_colour) (omega arith))

  owns : (count : ℕ) → count < indices_of held → owns_line plan domain (line_of count) ≡ true
  unfolding owns_line
  owns count few =
      let set : set_of (line_of count) ≡ line_of count = omega (arith, row.within) in
      rw (le-ltb most_line (line_of count) (omega (arith, row.within)), set) (own_colour count few)

  -- the ticks of the first writes
  abbrev replaced : ℕ → ℕ
  replaced count = replaced_ticks lowest held row.within base count

  pub record WrittenAt (count : ℕ) : Type 0 where
    pub stands : Stand (opening + count) (opening_ticks plan domain + (miss_ticks * count + replaced count))
    pub written : Written lowest held row.within count base (at (opening + count)).cache

  none_written : Written lowest held row.within 0 base base
  none_written =
      let opened = (opens plan domain judged scripts log holds room).opened in
      record {
        long = opened.long;
        done = λ line none. absurd (omega arith);
        ahead = λ line way past few less. opened.own _ (own_set plan domain (line_of line) way less (own_colour line few));
        rest = λ index small differs. refl;
        kernel = λ index small. refl;
      }

  write_number : (count : ℕ) → count < indices_of held
      → late_number (late_script_of plan domain) (opening + count) ≡ stored_of (Write (line_of count))
  unfolding late_script_of own_indices
  write_number count few = number_write (late_script_of plan domain) count few

  write_good : (count : ℕ) → count < indices_of held → OpWithinLimits (Write (line_of count))
  unfolding OpWithinLimits
  write_good count few = omega (arith, row.within)

  write_effect : (count : ℕ) → count < indices_of held → (table boxes : List ℕ)
      → ((old_effect_of plan domain (Write (line_of count)) table boxes).ticks ≡ (old_access_of true (line_of count) table).ticks)
      × ((old_effect_of plan domain (Write (line_of count)) table boxes).cache ≡ (old_access_of true (line_of count) table).table)
  unfolding effect_by touch_by
  write_effect count few table boxes = rw (owns count few) (refl, refl)

  -- they replace little, so that there is time for each
  replaced_few : (count : ℕ) → replaced count ≤ dirty_ticks * count
  replaced_few count =
      sum_most (λ line. replace_ticks (get_or base (l1_index (line_of line)) 0)) dirty_ticks count
      (λ line below. replaced_most (get_or base (l1_index (line_of line)) 0))

  pub writes : (count : ℕ) → count ≤ indices_of held → WrittenAt count
  unfolding sum_to
  writes zero few =
      let none : opening + 0 ≡ opening = add-zero opening in
      let ticks : opening_ticks plan domain + (miss_ticks * 0 + 0) ≡ opening_ticks plan domain = omega arith in
      record {
        stands = rw (none, ticks) (opens plan domain judged scripts log holds room).stands;
        written = rw none none_written;
      }
  writes (suc count) few =
      let before = writes count (omega arith) in
      let table = (at (opening + count)).cache in
      let effect = write_effect count few table (at (opening + count)).boxes in
      let step =
      next_op plan domain judged scripts log holds room (opening + count) _ (Write (line_of count)) before.stands
      (omega (arith, judged.least, opening_ticks_most plan domain, replaced_few count))
      (omega (arith, opening_most plan domain)) (write_number count few) (write_good count few) in
      let miss = write_ticks lowest held row.within count base table base_lacks before.written few in
      let ops : opening + suc count ≡ suc (opening + count) = add-suc opening count in
      let ticks : opening_ticks plan domain + (miss_ticks * suc count + (replaced count + replace_ticks (get_or base (l1_index (line_of count)) 0)))
      ≡ opening_ticks plan domain + (miss_ticks * count + replaced count)
      + (old_effect_of plan domain (Write (line_of count)) table (at (opening + count)).boxes).ticks
      = omega (arith, effect.0, miss) in
      record {
        stands = rw (ops, ticks) step.stands;
        written =
            rw (ops, step.cache_is ∙ effect.1)
            (write_more lowest held row.within count base table base_lacks before.written few);
      }

  -- all of them take what the script's parts say
  all_written : opening_ticks plan domain + (miss_ticks * indices_of held + replaced (indices_of held)) ≡ written_ticks plan domain
  unfolding written_ticks replacing_ticks own_indices meets_kernel
  all_written =
      ap (λ more. opening_ticks plan domain + (miss_ticks * indices_of held + more))
      (all_replaced lowest held row.within base (leaves_dirty plan domain) (opens plan domain judged scripts log holds room).opened.dirty row.some
      ∙ go (starts_run plan domain) (has_box plan domain) (meets lowest held))
    where
      go : (first box meet : Bool) → cond (cond first false box && meet) dirty_ticks 0 ≡ cond first 0 (cond box (cond meet dirty_ticks 0) 0)
      go true box meet = refl
      go false true meet = refl
      go false false meet = refl

  -- ---- the computes

  abbrev written_ops : ℕ
  written_ops = opening + indices_of held

  abbrev waits : ℕ
  waits = (waiting_ticks plan domain - 1) / most_ticks

  abbrev rest_ticks : ℕ
  rest_ticks = (waiting_ticks plan domain - 1) % most_ticks + 1

  -- writes and waits fill the window up to its last tick
  fills : (1 ≤ waiting_ticks plan domain)
      × (written_ticks plan domain + waiting_ticks plan domain + 1 ≡ window_length plan window)
  unfolding waiting_ticks written_ticks own_indices
  fills =
      let length = first_length plan domain judged.some in
      let opens = opening_ticks_most plan domain in
      let replaces = replacing_most plan domain in
      (omega (arith, judged.least), omega (arith, judged.least))

  -- the script fits
  few_ops : written_ops + waits + 2 ≤ most_ops
  few_ops = omega (arith, judged.most, opening_most plan domain, fills.1)

  compute_effect : (ticks : ℕ) (table boxes : List ℕ)
      → ((old_effect_of plan domain (Compute ticks) table boxes).ticks ≡ ticks)
      × ((old_effect_of plan domain (Compute ticks) table boxes).cache ≡ table)
  unfolding effect_by compute_of
  compute_effect ticks table boxes = (refl, refl)

  compute_good : (ticks : ℕ) → 1 ≤ ticks → ticks ≤ most_ticks → OpWithinLimits (Compute ticks)
  unfolding OpWithinLimits
  compute_good ticks some few = (some, few)

  pub record WaitedAt (ops ticks : ℕ) : Type 0 where
    pub stands : StandsAt plan domain judged scripts log holds room ops ticks
    pub written :
        Written (lowest_colour plan domain) (holding_of plan domain) (colours plan domain judged scripts log holds room).within
        (indices_of (holding_of plan domain)) base (world_at plan domain judged scripts log holds room ops).cache

  -- one compute
  waits_on : (ops ticks more : ℕ) → WaitedAt ops ticks → ticks < window_length plan window → ops < most_ops
      → late_number (late_script_of plan domain) ops ≡ stored_of (Compute more) → 1 ≤ more → more ≤ most_ticks
      → WaitedAt (suc ops) (ticks + more)
  waits_on ops ticks more waited in_time few number some most =
      let step =
      next_op plan domain judged scripts log holds room ops ticks (Compute more) waited.stands in_time few number (compute_good more some most) in
      let effect = compute_effect more (at ops).cache (at ops).boxes in
      record {
        stands = rw effect.0 at step.stands;
        written = rw (step.cache_is ∙ effect.1) waited.written;
      }

  wait_number : (count : ℕ) → count < waits → late_number (late_script_of plan domain) (written_ops + count) ≡ stored_of (Compute most_ticks)
  unfolding late_script_of own_indices
  wait_number count less = number_wait (late_script_of plan domain) count less

  rest_number : late_number (late_script_of plan domain) (written_ops + waits) ≡ stored_of (Compute rest_ticks)
  unfolding late_script_of own_indices
  rest_number = number_rest (late_script_of plan domain)

  waited_at : (count : ℕ) → count ≤ waits → WaitedAt (written_ops + count) (written_ticks plan domain + most_ticks * count)
  waited_at zero less =
      let all = writes (indices_of held) (omega arith) in
      let ops : written_ops + 0 ≡ written_ops = add-zero written_ops in
      let ticks : written_ticks plan domain + most_ticks * 0 ≡ opening_ticks plan domain + (miss_ticks * indices_of held + replaced (indices_of held)) =
      omega (arith, all_written) in
      record { stands = rw (ops, ticks) all.stands; written = rw ops all.written }
  waited_at (suc count) less =
      let before = waited_at count (omega arith) in
      let ops : written_ops + suc count ≡ suc (written_ops + count) = add-suc written_ops count in
      let ticks : written_ticks plan domain + most_ticks * suc count ≡ written_ticks plan domain + most_ticks * count + most_ticks = omega arith in
      rw (ops, ticks)
      (waits_on (written_ops + count) _ most_ticks before (omega (arith, fills.0, fills.1)) (omega (arith, few_ops))
      (wait_number count less) (omega arith) (omega arith))

  -- where the last op begins
  abbrev pub last_at : ℕ
  last_at = suc (written_ops + waits)

  pub last_tick : WaitedAt last_at (window_length plan window - 1)
  last_tick =
      let all : written_ticks plan domain + most_ticks * waits + rest_ticks ≡ window_length plan window - 1 = omega (arith, fills.0, fills.1) in
      subst (WaitedAt last_at) all
      (waits_on (written_ops + waits) _ rest_ticks (waited_at waits (omega arith)) (omega (arith, fills.0, fills.1)) (omega (arith, few_ops))
      rest_number (omega arith) (omega arith))

  pub last_few : last_at < most_ops
  last_few = omega (arith, few_ops)
