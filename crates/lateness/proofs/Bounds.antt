-- How large a domain's figures can be, and that of the run's first window beside that of the others. Assumes nothing.
use Prim.Native.Nat.{ℕ, ◌+◌, ◌-◌, ◌%◌, ◌≤◌, min}
use mathlib.Core.Bool.{Bool, true, false, cond}
use mathlib.Core.Path.{◌≡◌, refl}
use native.Mathlib.Omega.{arith}
use lib.Dec.{ltb}
use borrow.Author.Tests.{lt-ltb}
use Rattle.plan.specs.declared.Plan.{Plan}
use Rattle.plan.specs.Colours.{holding_of}
use Rattle.script.specs.Limits.{most_ticks}
use Rattle.cache.specs.Lines.{kernel_colour, l1_length, ways_per_set}
use Rattle.latest.specs.Latest.{box_indices, late_by, latest_alone, latest_apart, latest_first, latest_later, latest_meeting, latest_ticks}
use Rattle.latest.specs.Reach.{box_count, has_box, l1_colours, lowest_colour, meets_kernel, own_indices, starts_run}
use Rattle.latest.proofs.Boxes.{none_counted}
use Rattle.latest.proofs.Ranges.{dirty_most, indices_most}
use Rattle.lateness.specs.Theorems.{LatestBounded, most_latest, most_later}

-- ---- within every pad

meeting : (own : ℕ) → own ≤ l1_length → latest_meeting own ≤ most_latest
unfolding latest_meeting late_by
meeting own few = omega arith

apart : (own : ℕ) → own ≤ l1_length → latest_apart own ≤ most_latest
unfolding latest_apart late_by
apart own few = omega arith

alone : (own : ℕ) → own ≤ l1_length → latest_alone own ≤ most_latest
unfolding latest_alone late_by
alone own few = omega arith

first_most : (plan : Plan) (domain : ℕ) → latest_first plan domain ≤ most_latest
unfolding latest_first
first_most plan domain = go (has_box plan domain) (meets_kernel plan domain) (own_indices plan domain) (indices_most plan domain)
  where
    go : (box meets : Bool) (own : ℕ) → own ≤ l1_length
        → cond box (cond meets (latest_meeting own) (latest_apart own)) (latest_alone own) ≤ most_latest
    go true true own few = meeting own few
    go true false own few = apart own few
    go false meets own few = alone own few

pub later_most : (plan : Plan) (domain : ℕ) → latest_later plan domain ≤ most_later
unfolding latest_later late_by
later_most plan domain = omega (arith, dirty_most plan domain)

-- ---- either figure beside the other

-- a domain's windows behind the run's first can be no later than that one can, if that is its own
later_under : (plan : Plan) (domain : ℕ) → latest_later plan domain ≤ latest_first plan domain
unfolding latest_later latest_first latest_meeting latest_apart latest_alone late_by box_indices
later_under plan domain = go (has_box plan domain) refl (meets_kernel plan domain)
  where
    go : (box : Bool) → has_box plan domain ≡ box → (meets : Bool)
        → late_by (most_ticks - 1) (1 + min ways_per_set (box_count plan domain)) (own_indices plan domain + cond box (cond meets 0 1) 0)
        ≤ cond box (cond meets (latest_meeting (own_indices plan domain)) (latest_apart (own_indices plan domain))) (latest_alone (own_indices plan domain))
    go true test true = omega arith
    go true test false = omega arith
    go false test meets = omega (arith, none_counted plan domain test)

pub later_no_more : (plan : Plan) (domain : ℕ) → latest_later plan domain ≤ latest_ticks plan domain
unfolding latest_ticks
later_no_more plan domain = go (starts_run plan domain)
  where
    go : (first : Bool) → latest_later plan domain ≤ cond first (latest_first plan domain) (latest_later plan domain)
    go true = later_under plan domain
    go false = omega arith

-- what is told, by whether the run begins with a window of the domain's
pub first_told : (plan : Plan) (domain : ℕ) → starts_run plan domain ≡ true → latest_ticks plan domain ≡ latest_first plan domain
unfolding latest_ticks
first_told plan domain first = rw first refl

pub later_told : (plan : Plan) (domain : ℕ) → starts_run plan domain ≡ false → latest_ticks plan domain ≡ latest_later plan domain
unfolding latest_ticks
later_told plan domain later = rw later refl

pub latest_most : (plan : Plan) (domain : ℕ) → latest_ticks plan domain ≤ most_latest
unfolding latest_ticks
latest_most plan domain = go (starts_run plan domain)
  where
    go : (first : Bool) → cond first (latest_first plan domain) (latest_later plan domain) ≤ most_latest
    go true = first_most plan domain
    go false = omega (arith, later_most plan domain)

-- ---- the largest there are

pub latest_bounded : LatestBounded
unfolding latest_ticks latest_first latest_later own_indices meets_kernel box_indices latest_meeting late_by
latest_bounded =
    record {
      most = latest_most;
      reached = λ plan domain lowest held box first. rw (first, box, lowest, held) refl;
      later_at_most = later_most;
      reached_later = λ plan domain many full.
          let all : min (holding_of plan domain) l1_colours ≡ l1_colours = omega arith in
          let met : ltb (kernel_colour % l1_colours) (lowest_colour plan domain % l1_colours + holding_of plan domain) ≡ true =
          lt-ltb (kernel_colour % l1_colours) (lowest_colour plan domain % l1_colours + holding_of plan domain) (omega arith) in
          rw (all, met) (filled (has_box plan domain) (box_count plan domain) full);
    }
  where
    filled : (box : Bool) (boxes : ℕ) → ways_per_set ≤ boxes
        → late_by (most_ticks - 1) (1 + min ways_per_set boxes) (l1_length + cond box 0 0) ≡ most_later
    filled true boxes full = omega arith
    filled false boxes full = omega arith
