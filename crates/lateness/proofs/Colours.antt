-- A domain's colours follow each other: from the lowest on, as many as it holds. Assumes nothing.
use Prim.Native.Nat.{ℕ, suc, ◌+◌, ◌≤◌, ◌<◌}
use mathlib.Core.Bool.{Bool, true, cond, ◌&&◌}
use mathlib.Core.Path.{◌≡◌, refl, ap, ◌∙◌}
use native.Mathlib.Omega.{arith}
use lib.Dec.{eqb, leb, ltb}
use borrow.Author.Tests.{eqb-true, le-leb, lt-ltb}
use Rattle.lists.proofs.Tests.{both}
use Rattle.plan.specs.declared.Plan.{Plan}
use Rattle.plan.specs.Colours.{colours_at, first_colour, has_bit, holding_of, mask_at, mask_from, mask_of, owns_colour}
use Rattle.plan.specs.Limits.{domain_colours}
use Rattle.plan.specs.Sums.{all_below, sum_to}
use Rattle.plan.specs.Validity.{plan_valid}
use Rattle.plan.proofs.Masks.{holding_is_colours, owned_range}
use Rattle.plan.proofs.Sums.{all_below_lem, sum_mono}
use Rattle.plan.proofs.ValidPlans.{declared, parts}
use Rattle.latest.specs.Lowest.{lowest_below, lowest_from}
use Rattle.latest.specs.Reach.{lowest_colour}

-- ---- masks of adjacent colours, all of them computed

-- of the mask of `count` colours from a first one on: the first is its lowest, and it has each of them
abbrev mask_passes : ℕ → ℕ → Bool
mask_passes first count =
    eqb (lowest_below (has_bit (mask_from first count)) domain_colours) first
    && all_below (λ more. cond (ltb more count) (has_bit (mask_from first count) (first + more)) true) domain_colours

abbrev mask_test : ℕ → ℕ → Bool
mask_test first count = cond (ltb 0 count && leb (first + count) domain_colours) (mask_passes first count) true

masks_pass : all_below (λ first. all_below (mask_test first) (suc domain_colours)) (suc domain_colours) ≡ true
unfolding all_below lowest_from has_bit mask_from
masks_pass = refl

mask_passes_lem : (first count : ℕ) → 1 ≤ count → first + count ≤ domain_colours → mask_passes first count ≡ true
mask_passes_lem first count some within =
    let row = all_below_lem (λ first. all_below (mask_test first) (suc domain_colours)) (suc domain_colours) first masks_pass (omega arith) in
    let entry = all_below_lem (mask_test first) (suc domain_colours) count row (omega arith) in
    rw (lt-ltb 0 count some, le-leb (first + count) domain_colours within) at entry

-- ---- a domain's

pub record Row (plan : Plan) (domain : ℕ) : Type 0 where
  pub some : 1 ≤ holding_of plan domain
  pub within : lowest_colour plan domain + holding_of plan domain ≤ domain_colours
  pub from : (colour : ℕ) → owns_colour plan domain colour ≡ true → lowest_colour plan domain ≤ colour
  pub below :
      (colour : ℕ)
      → owns_colour plan domain colour ≡ true
      → colour < lowest_colour plan domain + holding_of plan domain
  pub owned :
      (more : ℕ)
      → more < holding_of plan domain
      → owns_colour plan domain (lowest_colour plan domain + more) ≡ true

module _ (plan : Plan) (domain : ℕ) (valid : plan_valid plan ≡ true) (below : domain < plan.domains) where
  abbrev first : ℕ
  first = first_colour plan domain

  abbrev count : ℕ
  count = colours_at plan domain

  fits : first + count ≤ domain_colours
  unfolding first_colour sum_to
  fits = omega (arith, sum_mono (colours_at plan) (suc domain) plan.domains below, (parts plan valid).colours)

  mask_is : mask_at plan domain ≡ mask_from first count
  unfolding mask_of
  mask_is = (declared plan domain valid below).mask

  passes : (eqb (lowest_below (has_bit (mask_from first count)) domain_colours) first ≡ true)
      × (all_below (λ more. cond (ltb more count) (has_bit (mask_from first count) (first + more)) true) domain_colours ≡ true)
  passes = both _ _ (mask_passes_lem first count (declared plan domain valid below).colour fits)

  lowest_is : lowest_colour plan domain ≡ first
  unfolding lowest_colour
  lowest_is = ap (λ mask. lowest_below (has_bit mask) domain_colours) mask_is ∙ eqb-true _ _ passes.0

  held_is : holding_of plan domain ≡ count
  held_is = holding_is_colours plan domain valid below

  range : (colour : ℕ) → owns_colour plan domain colour ≡ true → (first ≤ colour) × (colour < first + count)
  unfolding first_colour sum_to
  range colour owns = owned_range plan domain colour valid below owns

  has_each : (more : ℕ) → more < count → owns_colour plan domain (first + more) ≡ true
  has_each more less =
      let each = all_below_lem (λ more. cond (ltb more count) (has_bit (mask_from first count) (first + more)) true)
      domain_colours more passes.1 (omega (arith, fits)) in
      rw mask_is (rw (lt-ltb more count less) at each)

  pub row : Row plan domain
  row =
      record {
        some = rw held_is (declared plan domain valid below).colour;
        within = rw (lowest_is, held_is) fits;
        from = λ colour owns. rw lowest_is (range colour owns).0;
        below = λ colour owns. rw (lowest_is, held_is) (range colour owns).1;
        owned = λ more less. rw lowest_is (has_each more (rw held_is at less));
      }
