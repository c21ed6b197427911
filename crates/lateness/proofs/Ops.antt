-- What an op leaves in a window of its domain, the run's first among them, and that it ends, with the switch after it, no later than the
-- domain's figure for that one, where it begins in the window. Assumes nothing.
use Prim.Native.Nat.{ℕ, ◌+◌, ◌≤◌, ◌<◌}
use mathlib.Core.Bool.{Bool, true, false, false≢true}
use mathlib.Core.List.{List}
use mathlib.Core.Path.{◌≡◌, refl}
use native.Mathlib.Omega.{arith}
use Rattle.plan.specs.declared.Plan.{Plan}
use Rattle.plan.specs.Colours.{holding_of}
use Rattle.plan.specs.Rights.{may_send}
use Rattle.plan.specs.Validity.{plan_valid}
use Rattle.script.specs.declared.Op.{Op}
use Rattle.script.specs.declared.Op.TheVariants.{Read, Write, Send, Receive, Compute}
use Rattle.script.specs.Limits.{OpWithinLimits, most_ticks}
use Rattle.cache.specs.Access.{old_access_of}
use Rattle.records.specs.declared.Observation.{Observation}
use Rattle.ops.specs.Ops.{Effect, box_line, compute_of, effect_by, kernel_entry_line, message_by, message_ticks, owns_line, receive_by, touch_by}
use Rattle.ops.proofs.Operations.{owned}
use Rattle.latest.specs.Latest.{latest_first}
use Rattle.latest.specs.Reach.{has_box, lowest_colour, meets_kernel, own_indices}
use Rattle.reachable.specs.OldBoard.{old_effect_of}
use Rattle.lateness.proofs.Accesses.{sought_ticks}
use Rattle.lateness.proofs.Boxes.{box_enters}
use Rattle.lateness.proofs.Colours.{Row, row}
use Rattle.lateness.proofs.Entries.{entry_after, later_enters, later_ticks, quiet_enters}
use Rattle.lateness.proofs.Figures.{common_late, figure_of, switch_ticks, message_late}
use Rattle.lateness.proofs.Places.{receives_box, sends_box}
use Rattle.lateness.proofs.Windows.{Entered, InWindow, Quiet, entered, own_in_window, quiet}

-- what the tables hold in a window of a domain
abbrev pub Inside : Plan → ℕ → List ℕ → Type 0
Inside plan domain table = InWindow (lowest_colour plan domain) (holding_of plan domain) (has_box plan domain) table

-- what an op of a domain leaves, and how late
pub record OpLate (plan : Plan) (domain : ℕ) (effect : Effect) : Type 0 where
  pub in_window : Inside plan domain effect.cache
  pub late : effect.ticks + switch_ticks effect.cache ≤ latest_first plan domain + 1

module _ (plan : Plan) (domain : ℕ) (valid : plan_valid plan ≡ true) (declared : domain < plan.domains) where
  abbrev lowest : ℕ
  lowest = lowest_colour plan domain

  abbrev held : ℕ
  held = holding_of plan domain

  colours : Row plan domain
  colours = row plan domain valid declared

  pub figure_is : latest_first plan domain ≡ figure_of lowest held (has_box plan domain)
  unfolding latest_first own_indices meets_kernel
  figure_is = refl

  -- an op of no more ticks than the longest compute
  common : (effect : Effect) → Inside plan domain effect.cache → effect.ticks ≤ most_ticks → OpLate plan domain effect
  common effect inside few =
      record {
        in_window = inside;
        late = rw figure_is (common_late lowest held colours.within colours.some (has_box plan domain) effect.cache effect.ticks inside few);
      }

  -- no op at all
  pub flushes_late : (table : List ℕ) → Inside plan domain table → switch_ticks table ≤ latest_first plan domain
  flushes_late table inside =
      omega (arith, figure_is, common_late lowest held colours.within colours.some (has_box plan domain) table 1 inside (omega arith))

  touch_late : (writes : Bool) (line : ℕ) (table boxes : List ℕ) → Inside plan domain table → OpLate plan domain (touch_by old_access_of plan domain writes line table boxes)
  unfolding touch_by
  touch_late writes line table boxes inside = go (owns_line plan domain line) refl
    where
      go : (owns : Bool) → owns_line plan domain line ≡ owns → OpLate plan domain (touch_by old_access_of plan domain writes line table boxes)
      go true test =
          let own = owned plan domain line test in
          let kept = own_in_window lowest held (has_box plan domain) colours.within writes line own.0
          (colours.from _ own.1) (colours.below _ own.1) table inside in
          rw test (common _ kept (omega (arith, sought_ticks writes line table)))
      go false test = rw test (common _ inside (omega arith))

  -- a message that the rights refuse, or allow, from a quiet or an entered window
  module _ (sender recipient : ℕ) (denied passed : Observation) (number : ℕ) (table boxes : List ℕ)
      (boxed : may_send plan sender recipient ≡ true → has_box plan domain ≡ true) where
    abbrev message : Effect
    message = message_by old_access_of plan sender recipient denied passed number table boxes

    enters : Inside plan domain table → Entered lowest held (has_box plan domain) (entry_after table)
    enters (quiet q) = quiet_enters lowest held (has_box plan domain) table q
    enters (entered e) = later_enters lowest held (has_box plan domain) table e

    passes_on : (box : Bool) → box ≡ true → Entered lowest held box (entry_after table)
        → Entered lowest held box (old_access_of true (box_line sender recipient) (entry_after table)).table
    passes_on true is e = box_enters lowest held sender recipient (entry_after table) e
    passes_on false is e = absurd (false≢true is)

    first_passes_on : (box : Bool) → box ≡ true → Quiet lowest held box table
        → message_ticks + (old_access_of false kernel_entry_line table).ticks + (old_access_of true (box_line sender recipient) (entry_after table)).ticks
        + switch_ticks (old_access_of true (box_line sender recipient) (entry_after table)).table
        ≤ figure_of lowest held box + 1
    first_passes_on true is q = message_late lowest held colours.within colours.some sender recipient table q
    first_passes_on false is q = absurd (false≢true is)

    message_inside : Inside plan domain table → OpLate plan domain message
    unfolding message_by
    message_inside inside = go (may_send plan sender recipient) refl inside
      where
        go : (may : Bool) → may_send plan sender recipient ≡ may → Inside plan domain table → OpLate plan domain message
        go false test inside = rw test (common _ (entered (enters inside)) (omega (arith, sought_ticks false kernel_entry_line table)))
        go true test (quiet q) =
            rw test
            (record {
              in_window = entered (passes_on (has_box plan domain) (boxed test) (enters (quiet q)));
              late = rw figure_is (first_passes_on (has_box plan domain) (boxed test) q);
            })
        go true test (entered e) =
            rw test
            (common _ (entered (passes_on (has_box plan domain) (boxed test) (enters (entered e))))
            (omega (arith, later_ticks lowest held (has_box plan domain) table e, sought_ticks true (box_line sender recipient) (entry_after table))))

  pub op_late : (op : Op) (table boxes : List ℕ) → OpWithinLimits op → Inside plan domain table → OpLate plan domain (old_effect_of plan domain op table boxes)
  unfolding effect_by receive_by compute_of OpWithinLimits
  op_late (Read line) table boxes good inside = touch_late false line table boxes inside
  op_late (Write line) table boxes good inside = touch_late true line table boxes inside
  op_late (Send recipient word) table boxes good inside =
      message_inside domain recipient _ _ _ table boxes (sends_box plan domain recipient (omega arith)) inside
  op_late (Receive sender) table boxes good inside =
      message_inside sender domain _ _ _ table boxes (receives_box plan domain sender (omega arith)) inside
  op_late (Compute ticks) table boxes good inside = common _ inside (omega arith)
