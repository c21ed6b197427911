-- What the code of an op answers and leaves is the op's effect: a law for each way through it. Assumes nothing.
use Rattle.std.specs.Prelude.{Option, None}
use mathlib.Core.Path.{◌≡◌, refl}
use mathlib.Core.Bool.{Bool, true, false, cond, false≢true}
use mathlib.Core.List.{List}
use Prim.Native.Nat.{ℕ, ◌+◌, ◌*◌, ◌≤◌, ◌<◌}
use native.Mathlib.Omega.{arith}
use lib.Dec.{ltb}
use lib.ListN.{get_or, set}
use borrow.Author.Tests.{ltb-false}
use Rattle.plan.specs.declared.Plan.{Plan}
use Rattle.plan.specs.Colours.{has_bit, owns_colour}
use Rattle.plan.specs.Limits.{most_domains}
use Rattle.script.specs.Limits.{OpWithinLimits}
use Rattle.script.specs.declared.Op.TheVariants.{Receive, Send}
use Rattle.cache.specs.declared.AccessKind.{AccessKind}
use Rattle.cache.specs.Access.{access_of}
use Rattle.cache.specs.Lines.{colour_of, most_line, set_count}
use Rattle.cache.proofs.Ticks.{access_ticks, most_access_ticks}
use Rattle.records.specs.declared.Observation.{Observation}
use Rattle.records.specs.declared.Observation.TheVariants.{Barred}
use Rattle.ops.specs.Ops.{access_observation, barred_ticks, box_index, first_box_line, kernel_entry_line, message_by}
use Rattle.ops.specs.Ops.{message_of, message_ticks, owns_line, touch_by, touch_of}
use Rattle.ops.specs.View.{effect_with}

-- a domain's own line is a line, and of one of its colours
pub owned : (plan : Plan) (domain line : ℕ) → owns_line plan domain line ≡ true
    → (line ≤ most_line) × (owns_colour plan domain (colour_of line) ≡ true)
unfolding owns_line
owned plan domain line owns = go (ltb most_line line) refl owns
  where
    go : (past : Bool) → ltb most_line line ≡ past → cond past false (owns_colour plan domain (colour_of line)) ≡ true
        → (line ≤ most_line) × (owns_colour plan domain (colour_of line) ≡ true)
    go true test none = absurd (false≢true none)
    go false test own = (ltb-false most_line line test, own)

module _ (plan : Plan) (domain : ℕ) (writes : Bool) (line : ℕ) (cache boxes : List ℕ) where
  pub touch_barred :
      owns_line plan domain line ≡ false
      → effect_with (record { ticks = barred_ticks; seen = Barred line; first = None; second = None }) cache boxes
      ≡ touch_of plan domain writes line cache boxes
  unfolding touch_by
  touch_barred lacks = rw lacks refl

  pub touch_access :
      (ticks : ℕ) (found : AccessKind) (seen : Observation) (first : Option ℕ) (table : List ℕ)
      → owns_line plan domain line ≡ true
      → ticks ≡ (access_of writes line cache).ticks
      → found ≡ (access_of writes line cache).found
      → seen ≡ access_observation found line
      → first ≡ (access_of writes line cache).back
      → table ≡ (access_of writes line cache).table
      → effect_with (record { ticks = ticks; seen = seen; first = first; second = None }) table boxes
      ≡ touch_of plan domain writes line cache boxes
  unfolding touch_by
  touch_access ticks found seen first table owns t f s o b = rw (owns, t, s, f, o, b) refl

-- a send or a receive: refused by the rights, or passed on. The code has the rights and the box's index in hand.
module _
    (plan : Plan) (sender recipient : ℕ) (denied passed : Observation) (number : ℕ) (cache boxes rights : List ℕ)
    (handed : plan.rights ≡ rights) (entered : ℕ) (first : Option ℕ) (table : List ℕ)
    (e : entered ≡ (access_of false kernel_entry_line cache).ticks)
    (f : first ≡ (access_of false kernel_entry_line cache).back)
    (t : table ≡ (access_of false kernel_entry_line cache).table) where
  pub message_denied :
      has_bit (get_or rights sender 0) recipient ≡ false
      → effect_with (record { ticks = message_ticks + entered; seen = denied; first = first; second = None }) table boxes
      ≡ message_of plan sender recipient denied passed number cache boxes
  unfolding message_by
  message_denied lacks = rw (handed, lacks, e, f, t) refl

  pub message_passed :
      (reached index : ℕ) (second : Option ℕ) (last : List ℕ)
      → has_bit (get_or rights sender 0) recipient ≡ true
      → index ≡ box_index sender recipient
      → reached ≡ (access_of true (first_box_line + set_count * index) table).ticks
      → second ≡ (access_of true (first_box_line + set_count * index) table).back
      → last ≡ (access_of true (first_box_line + set_count * index) table).table
      → effect_with (record { ticks = message_ticks + entered + reached; seen = passed; first = first; second = second }) last
      (set boxes index number)
      ≡ message_of plan sender recipient denied passed number cache boxes
  unfolding message_by
  message_passed reached index second last may i r s l =
      rw (handed, may, r, s, l, e, f, t, i) refl

-- an access's answer is no larger than any access's
pub answered_ticks : (writes : Bool) (line answer : ℕ) (table : List ℕ) → answer ≡ (access_of writes line table).ticks
    → answer ≤ most_access_ticks
answered_ticks writes line answer table so = rw so (access_ticks writes line table)

-- what a send or a receive takes at most
pub message_ticks_lem :
    (entered reached line : ℕ) (cache table : List ℕ)
    → entered ≡ (access_of false kernel_entry_line cache).ticks
    → reached ≡ (access_of true line table).ticks
    → message_ticks + entered + reached ≤ message_ticks + most_access_ticks + most_access_ticks
message_ticks_lem entered reached line cache table e r =
    omega (
      arith,
      access_ticks false kernel_entry_line cache,
      answered_ticks true line reached table r,
    )

-- the other domain of a send or a receive has a number below 8
pub send_below : (recipient word : ℕ) → OpWithinLimits (Send recipient word) → recipient < most_domains
unfolding OpWithinLimits
send_below recipient word within = omega arith

pub receive_below : (sender : ℕ) → OpWithinLimits (Receive sender) → sender < most_domains
unfolding OpWithinLimits
receive_below sender within = omega arith
