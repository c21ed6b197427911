-- What is known where there is a latest finish to be told: how large each number can be that it and its
-- script are made of. Assumes nothing.
use Prim.Native.Nat.{ℕ, ◌+◌, ◌*◌, ◌-◌, ◌%◌, ◌≤◌, ◌<◌}
use mathlib.Core.Bool.{Bool, true, false, cond}
use mathlib.Core.Path.{◌≡◌, refl}
use native.Mathlib.Omega.{arith}
use lib.ListN.{get_or}
use borrow.Author.Tests.{ltb-false, ltb-true}
use Rattle.lists.proofs.Tests.{both}
use Rattle.plan.specs.declared.Plan.{Plan}
use Rattle.plan.specs.Colours.{holding_of, owns_colour}
use Rattle.plan.specs.Limits.{domain_colours, most_domains, most_windows}
use Rattle.plan.specs.Sums.{all_below}
use Rattle.plan.proofs.Masks.{holding_is_colours}
use Rattle.plan.proofs.Shares.{colours_most}
use Rattle.plan.proofs.Sums.{all_below_lem}
use Rattle.plan.proofs.ValidPlans.{counts, declared, limits}
use Rattle.cache.specs.Access.{dirty_ticks, hit1_ticks, miss_ticks}
use Rattle.cache.specs.Lines.{kernel_colour, l1_length, sets_per_colour}
use Rattle.ops.specs.Ops.{message_ticks}
use Rattle.latest.specs.Answer.{domain_fits, window_fits}
use Rattle.latest.specs.Bounds.{Fitting, PartsBounded}
use Rattle.latest.specs.Latest.{box_indices}
use Rattle.latest.specs.Limits.{least_latest_length, most_latest_length}
use Rattle.latest.specs.Reach.{box_count, first_window, has_box, l1_colours, lowest_colour, meets_kernel, own_indices, owns_window, starts_run}
use Rattle.latest.specs.Script.{all_messages, late_script_of, opening_ops, opening_ticks, replacing_ticks, waiting_ticks, written_ticks}
use Rattle.latest.proofs.Boxes.{boxes_most, count_most, most_boxes}
use Rattle.latest.proofs.Lowest.{lowest_most, lowest_passes}

-- ---- its windows

-- the parts of the test
record FitParts (plan : Plan) (domain : ℕ) : Type 0 where
  declared : domain < plan.domains
  windowed : first_window plan domain < plan.windows
  lengths : all_below (window_fits plan domain) plan.windows ≡ true

fit_parts : (plan : Plan) (domain : ℕ) → domain_fits plan domain ≡ true → FitParts plan domain
unfolding domain_fits
fit_parts plan domain fits =
    let second = both _ _ fits in
    let first = both _ _ second.0 in
    record { declared = ltb-true _ _ first.0; windowed = ltb-true _ _ first.1; lengths = second.1 }

pub domain_declared : (plan : Plan) (domain : ℕ) → Fitting plan domain → domain < plan.domains
domain_declared plan domain fitting = (fit_parts plan domain fitting.1).declared

pub domain_below : (plan : Plan) (domain : ℕ) → Fitting plan domain → domain < most_domains
domain_below plan domain fitting = omega (arith, domain_declared plan domain fitting, (counts plan fitting.0).domains_most)

pub record FirstWindow (plan : Plan) (domain : ℕ) : Type 0 where
  pub some : first_window plan domain < plan.windows
  pub below : first_window plan domain < most_windows
  pub length_least : least_latest_length ≤ get_or plan.lengths (first_window plan domain) 0
  pub length_most : get_or plan.lengths (first_window plan domain) 0 ≤ most_latest_length

-- a domain's first window is its own, and so within the limits
pub first_window_lem : (plan : Plan) (domain : ℕ) → Fitting plan domain → FirstWindow plan domain
unfolding window_fits first_window
first_window_lem plan domain fitting =
    let parts = fit_parts plan domain fitting.1 in
    let slot = first_window plan domain in
    let owned : owns_window plan domain slot ≡ true = lowest_passes (owns_window plan domain) plan.windows parts.windowed in
    let fits : window_fits plan domain slot ≡ true = all_below_lem (window_fits plan domain) plan.windows slot parts.lengths parts.windowed in
    let length = limits least_latest_length most_latest_length (get_or plan.lengths slot 0) (rw owned at fits) in
    record {
      some = parts.windowed;
      below = omega (arith, (counts plan fitting.0).windows_most);
      length_least = length.0;
      length_most = length.1;
    }

-- ---- its own lines

pub indices_most : (plan : Plan) (domain : ℕ) → own_indices plan domain ≤ l1_length
unfolding own_indices
indices_most plan domain = omega arith

pub record OwnLines (plan : Plan) (domain : ℕ) : Type 0 where
  pub holding_least : 1 ≤ holding_of plan domain
  pub holding_most : holding_of plan domain ≤ domain_colours
  pub indices_least : sets_per_colour ≤ own_indices plan domain
  pub indices_most : own_indices plan domain ≤ l1_length

pub own_lines : (plan : Plan) (domain : ℕ) → Fitting plan domain → OwnLines plan domain
unfolding own_indices
own_lines plan domain fitting =
    let known = declared plan domain fitting.0 (domain_declared plan domain fitting) in
    let held = holding_is_colours plan domain fitting.0 (domain_declared plan domain fitting) in
    let most = colours_most _ known.share_most in
    let least = known.colour in
    record {
      holding_least = omega arith;
      holding_most = omega arith;
      indices_least = omega arith;
      indices_most = omega arith;
    }

pub colour_most : (plan : Plan) (domain : ℕ) → lowest_colour plan domain ≤ domain_colours
unfolding lowest_colour
colour_most plan domain = lowest_most (owns_colour plan domain) domain_colours

-- ---- its boxes and the lines that they add

pub box_count_most : (plan : Plan) (domain : ℕ) → Fitting plan domain → box_count plan domain ≤ most_boxes
box_count_most plan domain fitting = boxes_most plan domain fitting.0 (domain_declared plan domain fitting)

-- where the kernel's indices are not among its own, its own are not all of L1's
pub apart_most : (plan : Plan) (domain : ℕ) → meets_kernel plan domain ≡ false → own_indices plan domain + 1 ≤ l1_length
unfolding meets_kernel own_indices
apart_most plan domain apart =
    let past : lowest_colour plan domain % l1_colours + holding_of plan domain ≤ kernel_colour % l1_colours = ltb-false _ _ apart in
    omega arith

-- own lines and the boxes' are within L1
pub dirty_most : (plan : Plan) (domain : ℕ) → own_indices plan domain + box_indices plan domain ≤ l1_length
unfolding box_indices
dirty_most plan domain = go (has_box plan domain) (meets_kernel plan domain) refl
  where
    go :
        (box meets : Bool)
        → meets_kernel plan domain ≡ meets
        → own_indices plan domain + cond box (cond meets 0 1) 0 ≤ l1_length
    go false meets is = omega (arith, indices_most plan domain)
    go true true is = omega (arith, indices_most plan domain)
    go true false is = apart_most plan domain is

-- ---- its script

pub opening_most : (plan : Plan) (domain : ℕ) → opening_ops plan domain ≤ all_messages
unfolding opening_ops
opening_most plan domain = go (starts_run plan domain) (has_box plan domain)
  where
    go : (first box : Bool) → cond first (cond box 0 1) all_messages ≤ all_messages
    go true true = omega arith
    go true false = omega arith
    go false box = omega arith

-- the most that the messages before the writes can take: each finds the entry line and has a box
abbrev pub most_opening_ticks : ℕ
most_opening_ticks = (message_ticks + hit1_ticks + miss_ticks + dirty_ticks) * all_messages

pub opening_ticks_most : (plan : Plan) (domain : ℕ) → opening_ticks plan domain ≤ most_opening_ticks
unfolding opening_ticks
opening_ticks_most plan domain =
    go (starts_run plan domain) (opening_ops plan domain) (box_count plan domain) (opening_most plan domain)
    (count_most plan domain)
  where
    go :
        (first : Bool) (opening boxes : ℕ)
        → opening ≤ all_messages
        → boxes ≤ all_messages
        → cond first ((message_ticks + miss_ticks) * opening)
        ((message_ticks + hit1_ticks) * all_messages + ((miss_ticks + dirty_ticks) * boxes - dirty_ticks))
        ≤ most_opening_ticks
    go true opening boxes few few-boxes = omega arith
    go false opening boxes few few-boxes = omega arith

pub replacing_most : (plan : Plan) (domain : ℕ) → replacing_ticks plan domain ≤ dirty_ticks
unfolding replacing_ticks
replacing_most plan domain = go (starts_run plan domain) (has_box plan domain) (meets_kernel plan domain)
  where
    go : (first box meets : Bool) → cond first 0 (cond box (cond meets dirty_ticks 0) 0) ≤ dirty_ticks
    go true box meets = omega arith
    go false true true = omega arith
    go false true false = omega arith
    go false false meets = omega arith

-- the writes are done well before the shortest window's last tick
pub written_most : (plan : Plan) (domain : ℕ) → Fitting plan domain → written_ticks plan domain + 2 ≤ least_latest_length
unfolding written_ticks
written_most plan domain fitting =
    omega (arith, (own_lines plan domain fitting).indices_most, opening_ticks_most plan domain, replacing_most plan domain)

-- a tick is left to wait for, and no more than the longest window has
pub record Waiting (plan : Plan) (domain : ℕ) : Type 0 where
  pub least : 1 ≤ waiting_ticks plan domain
  pub most : waiting_ticks plan domain ≤ most_latest_length

pub waiting : (plan : Plan) (domain : ℕ) → Fitting plan domain → Waiting plan domain
unfolding waiting_ticks
waiting plan domain fitting =
    let window = first_window_lem plan domain fitting in
    let written = written_most plan domain fitting in
    record { least = omega arith; most = omega arith }

-- its lines are those of the lowest colours, and its ticks those of computes
pub parts_bounded : (plan : Plan) (domain : ℕ) → Fitting plan domain → PartsBounded (late_script_of plan domain)
unfolding late_script_of
parts_bounded plan domain fitting =
    let ticks = waiting plan domain fitting in
    record {
      opening_most = opening_most plan domain;
      lines_most = omega (arith, colour_most plan domain, (own_lines plan domain fitting).indices_most);
      waits_most = omega arith;
      rest_most = omega arith;
    }
