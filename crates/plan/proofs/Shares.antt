-- The rule from shares to colours: the nearest number, an exact half going up; and how many colours shares of at most 1,000
-- together can give. Assumes nothing.
use Prim.Native.Nat.{ℕ, zero, suc, ◌+◌, ◌*◌, ◌/◌, ◌≤◌, ◌<◌}
use mathlib.Core.Path.{◌≡◌, refl}
use mathlib.Core.Bool.{Bool, true, false}
use lib.Dec.{ltb}
use borrow.Author.Tests.{ltb-false, ltb-true}
use native.Mathlib.Omega.{arith}
use Rattle.plan.specs.declared.Plan.{Plan}
use Rattle.plan.specs.Colours.{colours_at, colours_of, first_colour, share_of, shares_total}
use Rattle.plan.specs.Sums.{sum_to}
use Rattle.plan.specs.Limits.{domain_colours, most_share, most_shares}
use Rattle.plan.proofs.Sums.{last-or-earlier}
use Rattle.plan.specs.Theorems.{NearestColours, NearestCount, TotalsBounded, distance}

-- at most half a colour too many, and less than half a colour too few
within_half : (share : ℕ)
    → (most_shares * colours_of share ≤ domain_colours * share + most_shares / 2)
    × (domain_colours * share < most_shares * colours_of share + most_shares / 2)
unfolding colours_of
within_half share = (omega arith, omega arith)

-- a greater number is further off, and a smaller one no nearer
module _ (share other : ℕ) where
  greater : colours_of share < other → distance share (colours_of share) < distance share other
  greater more = omega (arith, within_half share)

  smaller : other < colours_of share → distance share (colours_of share) ≤ distance share other
  smaller less = omega (arith, within_half share)

pub nearest : (share : ℕ) → NearestCount share (colours_of share)
nearest share =
    record {
      none_nearer = λ other. go other (ltb (colours_of share) other) refl;
      half_up = λ other same. up other same (ltb (colours_of share) other) refl;
    }
  where
    go : (other : ℕ) (b : Bool) → ltb (colours_of share) other ≡ b → distance share (colours_of share) ≤ distance share other
    go other true e = omega (arith, greater share other (ltb-true (colours_of share) other e))
    go other false e =
        last-or-earlier (λ n. distance share (colours_of share) ≤ distance share n) (colours_of share) other (omega arith) (smaller share other)
        (omega (arith, ltb-false (colours_of share) other e))

    up : (other : ℕ) → distance share (colours_of share) ≡ distance share other → (b : Bool) → ltb (colours_of share) other ≡ b → other ≤ colours_of share
    up other same true e = absurd (omega (arith, greater share other (ltb-true (colours_of share) other e)))
    up other same false e = ltb-false (colours_of share) other e

-- two numbers that are both the nearest are equal: neither is greater than the other
one_nearest : (share count other : ℕ) → NearestCount share count → NearestCount share other → count ≡ other
one_nearest share count other here there =
    let same : distance share count ≡ distance share other = omega (arith, here.none_nearer other, there.none_nearer count) in
    omega (arith, here.half_up other same, there.half_up count (omega arith))

pub nearest_colours : NearestColours
nearest_colours =
    record {
      is_nearest = nearest;
      no_other = λ share count here. one_nearest share count (colours_of share) here (nearest share);
    }

-- no share gives more colours than there are
pub colours_most : (share : ℕ) → share ≤ most_share → colours_of share ≤ domain_colours
unfolding colours_of
colours_most share most = omega arith

-- each share gives at most half a colour more than it is due
in_proportion : (plan : Plan) (count : ℕ)
    → most_shares * first_colour plan count ≤ domain_colours * shares_total plan count + most_shares / 2 * count
unfolding colours_of first_colour shares_total sum_to
in_proportion plan zero = omega arith
in_proportion plan (suc count) =
    let before : most_shares * sum_to (colours_at plan) count ≤ domain_colours * sum_to (share_of plan) count + most_shares / 2 * count = in_proportion plan count in
    omega arith

pub totals_bounded : TotalsBounded
totals_bounded plan few total = omega (arith, in_proportion plan plan.domains)
