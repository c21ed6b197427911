-- The masks of a valid plan: disjoint, within colours 0 to 14, laid from colour 0 upwards, with as many ones as the share gives colours.
-- Everything above cites these laws and never the rule from shares to colours. Assumes nothing.
use mathlib.Core.Path.{◌≡◌, refl, ap, ◌∙◌}
use mathlib.Core.Bool.{Bool, true, false}
use Prim.Native.Nat.{ℕ, suc, ◌+◌, ◌≤◌, ◌<◌}
use native.Mathlib.Numerals.{add-one}
use native.Mathlib.Omega.{arith}
use lib.Count.{ones}
use lib.Dec.{ltb}
use borrow.Author.Tests.{lt-ltb, ltb-true, ltb-false}
use Rattle.plan.specs.declared.Plan.{Plan}
use Rattle.plan.specs.Colours.{colours_at, first_colour, holding_of, mask_at, mask_of, owns_colour, share_of}
use Rattle.plan.specs.Validity.{plan_valid}
use Rattle.plan.specs.Theorems.{MasksOfValidPlans, TooManyColours}
use Rattle.plan.specs.Rights.{may_send, rights_at}
use Rattle.plan.specs.Sums.{sum_to}
use Rattle.plan.specs.Limits.{domain_colours, most_domains}
use Rattle.plan.proofs.Bits.{mask_bits, mask_fits, mask_ones, no_high_bit, zero_no_bit}
use Rattle.plan.proofs.ValidPlans.{counts, declared, parts, undeclared}
use Rattle.plan.proofs.Shares.{nearest}
use Rattle.plan.proofs.Sums.{sum_mono, sum_same}

-- the colours of a domain lie between its first and the next domain's first
pub owned_range :
    (plan : Plan) (domain colour : ℕ)
    → plan_valid plan ≡ true
    → domain < plan.domains
    → owns_colour plan domain colour ≡ true
    → (first_colour plan domain ≤ colour) × (colour < first_colour plan (suc domain))
unfolding mask_of first_colour sum_to
owned_range plan domain colour valid below owns =
    let mask : mask_at plan domain ≡ mask_of plan domain = (declared plan domain valid below).mask in
    let bits = mask_bits (first_colour plan domain) (colours_at plan domain) colour (rw mask at owns) in
    (bits.0, bits.1)

-- the first colours rise with the domains
first_mono : (plan : Plan) (one other : ℕ) → one ≤ other → first_colour plan one ≤ first_colour plan other
unfolding first_colour
first_mono plan one other within = sum_mono (colours_at plan) one other within

-- no colour is given past 14
pub owned_below :
    (plan : Plan) (domain colour : ℕ) → plan_valid plan ≡ true → domain < plan.domains → owns_colour plan domain colour ≡ true → colour < domain_colours
owned_below plan domain colour valid below owns =
    let range = owned_range plan domain colour valid below owns in
    let rising : first_colour plan (suc domain) ≤ first_colour plan plan.domains = first_mono plan (suc domain) plan.domains below in
    let total : first_colour plan plan.domains ≤ domain_colours = (parts plan valid).colours in
    omega arith

-- a lower domain's colours end before a higher one's begin
apart :
    (plan : Plan) (one other colour : ℕ)
    → plan_valid plan ≡ true
    → one < other
    → other < plan.domains
    → owns_colour plan one colour ≡ true
    → owns_colour plan other colour ≡ true
    → ⊥
apart plan one other colour valid less below owns owns' =
    let range = owned_range plan one colour valid (omega arith) owns in
    let range' = owned_range plan other colour valid below owns' in
    let rising : first_colour plan (suc one) ≤ first_colour plan other = first_mono plan (suc one) other less in
    omega arith

-- two domains have no colour in common
pub masks_disjoint :
    (plan : Plan) (one other colour : ℕ)
    → plan_valid plan ≡ true
    → one < plan.domains
    → other < plan.domains
    → (one ≡ other → ⊥)
    → owns_colour plan one colour ≡ true
    → owns_colour plan other colour ≡ true
    → ⊥
masks_disjoint plan one other colour valid below below' differ owns owns' = go (ltb one other) refl
  where
    go : (b : Bool) → ltb one other ≡ b → ⊥
    go true e = apart plan one other colour valid (ltb-true one other e) below' owns owns'
    go false e =
        let past : other ≤ one = ltb-false one other e in
        apart plan other one colour valid (omega arith) below owns' owns

-- a valid plan's masks have at most 16 bits
pub mask_most : (plan : Plan) (domain : ℕ) → plan_valid plan ≡ true → domain < most_domains → mask_at plan domain ≤ 65_535
unfolding mask_of first_colour sum_to
mask_most plan domain valid below = go (ltb domain plan.domains) refl
  where
    go : (b : Bool) → ltb domain plan.domains ≡ b → mask_at plan domain ≤ 65_535
    go true e =
        let within = ltb-true domain plan.domains e in
        let rising : first_colour plan (suc domain) ≤ first_colour plan plan.domains = first_mono plan (suc domain) plan.domains within in
        let total : first_colour plan plan.domains ≤ domain_colours = (parts plan valid).colours in
        let fits = mask_fits (first_colour plan domain) (colours_at plan domain) (omega arith) in
        omega (arith, (declared plan domain valid within).mask)
    go false e = omega (arith, (undeclared plan domain valid (ltb-false domain plan.domains e) below).mask)

-- a domain's holding is what its share gives
pub holding_is_colours :
    (plan : Plan) (domain : ℕ) → plan_valid plan ≡ true → domain < plan.domains → holding_of plan domain ≡ colours_at plan domain
unfolding holding_of mask_of
holding_is_colours plan domain valid below =
    let small : domain < most_domains = omega (arith, (counts plan valid).domains_most) in
    rw (lt-ltb domain most_domains small)
    (ap ones (declared plan domain valid below).mask ∙ mask_ones (first_colour plan domain) (colours_at plan domain))

-- as many colours are given out before a domain as the domains before it hold
first_is_held : (plan : Plan) (domain : ℕ) → plan_valid plan ≡ true → domain ≤ plan.domains → sum_to (holding_of plan) domain ≡ first_colour plan domain
unfolding first_colour
first_is_held plan domain valid within =
    sum_same (holding_of plan) (colours_at plan) domain (λ index below. holding_is_colours plan index valid (omega arith))

pub masks_of_valid_plans : MasksOfValidPlans
masks_of_valid_plans plan valid =
    record {
      not_twice = λ one other colour below below'. masks_disjoint plan one other colour valid below below';
      none_above = λ domain colour below. owned_below plan domain colour valid below;
      nearest = λ domain below. rw (holding_is_colours plan domain valid below) (nearest (share_of plan domain));
      upwards =
          λ domain colour below owns.
          rw (first_is_held plan domain valid (omega arith), first_is_held plan (domain + 1) valid (omega arith), add-one domain)
          (owned_range plan domain colour valid below owns);
      no_others = λ domain past below. (undeclared plan domain valid past below).mask;
    }

-- more colours than there are: the part of validity that looks at their total fails
pub too_many_colours : TooManyColours
too_many_colours plan over = go (plan_valid plan) refl
  where
    go : (b : Bool) → plan_valid plan ≡ b → b ≡ false
    go true valid = absurd (omega (arith, (parts plan valid).colours))
    go false _ = refl

-- a right to send is a declared domain's, to a declared domain
pub right_declared :
    (plan : Plan) (sender recipient : ℕ)
    → plan_valid plan ≡ true
    → may_send plan sender recipient ≡ true
    → sender < most_domains
    → (sender < plan.domains) × (recipient < plan.domains)
right_declared plan sender recipient valid may below = (is_declared, to_declared (ltb recipient plan.domains) refl)
  where
    from : (b : Bool) → ltb sender plan.domains ≡ b → sender < plan.domains
    from true e = ltb-true sender plan.domains e
    from false e =
        let none : rights_at plan sender ≡ 0 = (undeclared plan sender valid (ltb-false sender plan.domains e) below).rights in
        absurd (zero_no_bit recipient (rw none at may))

    is_declared : sender < plan.domains
    is_declared = from (ltb sender plan.domains) refl

    to_declared : (b : Bool) → ltb recipient plan.domains ≡ b → recipient < plan.domains
    to_declared true e = ltb-true recipient plan.domains e
    to_declared false e =
        absurd
        (no_high_bit (rights_at plan sender) plan.domains recipient (declared plan sender valid is_declared).rights_most
        (ltb-false recipient plan.domains e) may)
