-- Every window but the run's first starts with the kernel's entry line in: there no op takes longer than the longest compute, and with
-- the switch after it ends no later than the domain's figure for such windows. Assumes nothing.
use Prim.Native.Nat.{ℕ, ◌+◌, ◌≤◌, ◌<◌, min}
use mathlib.Core.Bool.{Bool, true, false, false≢true, cond, ◌&&◌, ◌||◌}
use mathlib.Core.List.{List}
use mathlib.Core.Path.{◌≡◌, refl, sym, ◌∙◌}
use native.Mathlib.Omega.{arith}
use lib.Dec.{eqb}
use lib.ListN.{get_or}
use Rattle.plan.specs.declared.Plan.{Plan}
use Rattle.plan.specs.Colours.{holding_of}
use Rattle.plan.specs.Rights.{may_send}
use Rattle.plan.specs.Sums.{sum_to}
use Rattle.plan.specs.Validity.{plan_valid}
use Rattle.plan.proofs.Sums.{sum_under}
use Rattle.script.specs.declared.Op.{Op}
use Rattle.script.specs.declared.Op.TheVariants.{Read, Write, Send, Receive, Compute}
use Rattle.script.specs.Limits.{OpWithinLimits, most_ticks}
use Rattle.cache.specs.Access.{old_access_of}
use Rattle.cache.specs.Flush.{count_where, valid_lines}
use Rattle.cache.specs.Lines.{clean_entry, is_valid, kernel_entries, kernel_index, set_of, ways_per_set}
use Rattle.records.specs.declared.Observation.{Observation}
use Rattle.ops.specs.Ops.{Effect, box_line, compute_of, effect_by, first_box_line, kernel_entry_line, message_by, owns_line, receive_by, touch_by}
use Rattle.ops.proofs.Operations.{owned}
use Rattle.state.specs.TableValidity.{set_valid}
use Rattle.latest.specs.Latest.{box_indices, late_by, latest_later}
use Rattle.latest.specs.Reach.{box_count, has_box, lowest_colour, meets_kernel, own_indices}
use Rattle.reachable.specs.OldBoard.{old_effect_of}
use Rattle.lateness.proofs.Accesses.{sought_ticks}
use Rattle.lateness.proofs.Boxes.{box_enters, boxes_set, in_boxes_set}
use Rattle.lateness.proofs.Colours.{Row, row}
use Rattle.lateness.proofs.Counting.{count_is, one, one_most}
use Rattle.lateness.proofs.Entries.{entry_after, later_enters, later_ticks}
use Rattle.lateness.proofs.Figures.{entered_dirty, flushes_most, quiet_flushes, switch_ticks}
use Rattle.lateness.proofs.Places.{UsableEntry, receives_box, receives_entry, sends_box, sends_entry}
use Rattle.lateness.proofs.Usable.{BoxesUsable, away_usable, box_usable, box_ways, boxes_most}
use Rattle.lateness.proofs.Windows.{Entered, Quiet, may_hold, own_entered}

-- ---- the valid lines of an entered window

-- the entry line, and what the boxes' set holds
module _ (lowest held : ℕ) (box : Bool) (table : List ℕ) (e : Entered lowest held box table) where
  abbrev cell : ℕ → ℕ
  cell index = one (is_valid (get_or table (kernel_index + index) 0))

  abbrev allowed : ℕ → ℕ
  allowed index = cond (eqb index 0) 1 (cond (in_boxes_set index) (cell index) 0)

  cell_under : (index : ℕ) → index < kernel_entries → cell index ≤ allowed index
  cell_under index below = go (eqb index 0) refl (in_boxes_set index) refl (is_valid (get_or table (kernel_index + index) 0)) refl
    where
      nothing : (box : Bool) → (false || (box && false)) ≡ false
      nothing true = refl
      nothing false = refl

      go : (first : Bool) → eqb index 0 ≡ first → (inside : Bool) → in_boxes_set index ≡ inside
          → (valid : Bool) → is_valid (get_or table (kernel_index + index) 0) ≡ valid
          → one valid ≤ cond first 1 (cond inside (one valid) 0)
      go true _ inside _ valid _ = one_most valid
      go false first true _ valid _ = omega arith
      go false first false inside false valid = omega arith
      go false first false inside true valid =
          let may_not : may_hold box index ≡ false = rw (first, inside) (nothing box) in
          absurd (false≢true (sym may_not ∙ e.valid index below valid))

  pub entered_valid : valid_lines table ≤ 1 + count_where is_valid (box_ways table)
  unfolding valid_lines sum_to
  entered_valid =
      let long = e.long in
      omega (
        arith,
        count_is is_valid kernel_index table kernel_entries (omega arith),
        count_is is_valid (kernel_index + boxes_set) table ways_per_set (omega arith),
        sum_under cell allowed kernel_entries cell_under,
      )

  pub four_most : count_where is_valid (box_ways table) ≤ ways_per_set
  unfolding sum_to
  four_most =
      let long = e.long in
      omega (
        arith,
        count_is is_valid (kernel_index + boxes_set) table ways_per_set (omega arith),
        one_most (is_valid (get_or table (kernel_index + boxes_set) 0)),
        one_most (is_valid (get_or table (kernel_index + boxes_set + 1) 0)),
        one_most (is_valid (get_or table (kernel_index + boxes_set + 2) 0)),
        one_most (is_valid (get_or table (kernel_index + boxes_set + 3) 0)),
      )

-- ---- a window of a domain

-- what the tables hold in it
pub record EnteredBy (plan : Plan) (domain : ℕ) (table : List ℕ) : Type 0 where
  pub entered : Entered (lowest_colour plan domain) (holding_of plan domain) (has_box plan domain) table
  pub usable : BoxesUsable plan domain table

-- what an op leaves, and how soon
pub record OpLater (plan : Plan) (domain : ℕ) (effect : Effect) : Type 0 where
  pub left : EnteredBy plan domain effect.cache
  pub few : effect.ticks ≤ most_ticks

module _ (plan : Plan) (domain : ℕ) (valid : plan_valid plan ≡ true) (declared : domain < plan.domains) where
  abbrev lowest : ℕ
  lowest = lowest_colour plan domain

  abbrev held : ℕ
  held = holding_of plan domain

  abbrev box : Bool
  box = has_box plan domain

  colours : Row plan domain
  colours = row plan domain valid declared

  -- ---- how late

  pub later_late : (table : List ℕ) (ticks : ℕ) → EnteredBy plan domain table → set_valid table (set_of first_box_line) ≡ true → ticks ≤ most_ticks
      → ticks + switch_ticks table ≤ latest_later plan domain + 1
  unfolding latest_later late_by box_indices own_indices meets_kernel
  later_late table ticks inside sound few =
      let e = inside.entered in
      let boxes = boxes_most plan domain table e.long sound inside.usable in
      let four = four_most lowest held box table e in
      let lines = entered_valid lowest held box table e in
      let dirty = entered_dirty lowest held colours.within colours.some box table e in
      omega (arith, flushes_most table (1 + min ways_per_set (box_count plan domain)) _ (omega arith) dirty)

  -- after the run's end, where nothing is touched
  pub quiet_late : (table : List ℕ) → Quiet (lowest_colour plan domain) (holding_of plan domain) (has_box plan domain) table
      → switch_ticks table ≤ latest_later plan domain
  unfolding latest_later late_by own_indices
  quiet_late table q = omega (arith, quiet_flushes lowest held colours.within colours.some box table q)

  -- ---- an op

  -- a read or a write: of an own line, or barred
  touch_later : (writes : Bool) (line : ℕ) (table boxes : List ℕ) → EnteredBy plan domain table
      → OpLater plan domain (touch_by old_access_of plan domain writes line table boxes)
  unfolding touch_by
  touch_later writes line table boxes inside = go (owns_line plan domain line) refl
    where
      go : (owns : Bool) → owns_line plan domain line ≡ owns → OpLater plan domain (touch_by old_access_of plan domain writes line table boxes)
      go true test =
          let own = owned plan domain line test in
          let from = colours.from _ own.1 in
          let below = colours.below _ own.1 in
          rw test
          (record {
            left =
                record {
                  entered = own_entered lowest held box colours.within writes line own.0 from below table inside.entered;
                  usable = away_usable plan domain writes line table inside.entered.long (λ same. omega (arith, colours.within)) inside.usable;
                };
            few = omega (arith, sought_ticks writes line table);
          })
      go false test = rw test (record { left = inside; few = omega arith })

  -- a message, which finds the entry line, and writes the line of a box that the domain may use or is denied
  module _ (sender recipient : ℕ) (denied passed : Observation) (number : ℕ) (table boxes : List ℕ)
      (boxed : may_send plan sender recipient ≡ true → has_box plan domain ≡ true)
      (entry : may_send plan sender recipient ≡ true → UsableEntry plan domain (clean_entry (box_line sender recipient)))
      (inside : EnteredBy plan domain table) where
    abbrev message : Effect
    message = message_by old_access_of plan sender recipient denied passed number table boxes

    after_entry : EnteredBy plan domain (entry_after table)
    after_entry =
        record {
          entered = later_enters lowest held box table inside.entered;
          usable = away_usable plan domain false kernel_entry_line table inside.entered.long (λ same. omega arith) inside.usable;
        }

    passes_on : (box : Bool) → box ≡ true → Entered lowest held box (entry_after table)
        → Entered lowest held box (old_access_of true (box_line sender recipient) (entry_after table)).table
    passes_on true is e = box_enters lowest held sender recipient (entry_after table) e
    passes_on false is e = absurd (false≢true is)

    message_later : OpLater plan domain message
    unfolding message_by
    message_later = go (may_send plan sender recipient) refl
      where
        go : (may : Bool) → may_send plan sender recipient ≡ may → OpLater plan domain message
        go false test =
            rw test (record { left = after_entry; few = omega (arith, later_ticks lowest held box table inside.entered) })
        go true test =
            rw test
            (record {
              left =
                  record {
                    entered = passes_on box (boxed test) after_entry.entered;
                    usable =
                        box_usable plan domain sender recipient (entry test) (entry_after table) after_entry.entered.long after_entry.usable;
                  };
              few =
                  omega (arith, later_ticks lowest held box table inside.entered, sought_ticks true (box_line sender recipient) (entry_after table));
            })

  pub op_later : (op : Op) (table boxes : List ℕ) → OpWithinLimits op → EnteredBy plan domain table
      → OpLater plan domain (old_effect_of plan domain op table boxes)
  unfolding effect_by receive_by compute_of OpWithinLimits
  op_later (Read line) table boxes good inside = touch_later false line table boxes inside
  op_later (Write line) table boxes good inside = touch_later true line table boxes inside
  op_later (Send recipient word) table boxes good inside =
      message_later domain recipient _ _ _ table boxes (sends_box plan domain recipient (omega arith))
      (sends_entry plan domain recipient (omega arith)) inside
  op_later (Receive sender) table boxes good inside =
      message_later sender domain _ _ _ table boxes (receives_box plan domain sender (omega arith))
      (receives_entry plan domain sender (omega arith)) inside
  op_later (Compute ticks) table boxes good inside = record { left = inside; few = omega arith }
