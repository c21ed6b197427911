-- Document 02, E2: what the rule from shares to colours promises, said without its formula, and what
-- the masks of a valid plan promise. Assumes nothing.
use Rattle.std.specs.Prelude.{ℕ, ◌+◌, ◌*◌, ◌-◌, ◌<◌, ◌≤◌, true, false, ◌≡◌}
use Rattle.plan.specs.declared.Plan.{Plan}
use Rattle.plan.specs.Colours.{colours_of, colours_total, holding_of, mask_at}
use Rattle.plan.specs.Colours.{owns_colour, share_of, shares_total}
use Rattle.plan.specs.Limits.{domain_colours, most_domains, most_shares}
use Rattle.plan.specs.Sums.{sum_to}
use Rattle.plan.specs.Validity.{plan_valid}

-- ---- from shares to colours

-- how far a number of colours is from what a share is due, in thousandths of a colour
abbrev pub distance : ℕ → ℕ → ℕ
distance share count =
    let due = domain_colours * share in
    let given = most_shares * count in
    (given - due) + (due - given)

-- a number of colours is the nearest to what a share is due, an exact half going up: none is nearer,
-- and any that is as near is no greater
pub record NearestCount (share count : ℕ) : Type 0 where
  pub none_nearer : (other : ℕ) → distance share count ≤ distance share other
  pub half_up : (other : ℕ) → distance share count ≡ distance share other → other ≤ count

-- each share gives the nearest number of colours, and no other number is that
pub record NearestColours : Type 0 where
  pub is_nearest : (share : ℕ) → NearestCount share (colours_of share)
  pub no_other : (share count : ℕ) → NearestCount share count → count ≡ colours_of share

-- the greatest total of colours that shares within their limits can give, and so the greatest companion
-- of 16
abbrev pub most_colours_total : ℕ
most_colours_total = 19

abbrev pub TotalsBounded : Type 0
TotalsBounded =
    (plan : Plan)
    → plan.domains ≤ most_domains
    → shares_total plan plan.domains ≤ most_shares
    → colours_total plan ≤ most_colours_total

-- ---- masks

-- a plan value whose shares give more colours than there are is invalid, however its masks are laid
abbrev pub TooManyColours : Type 0
TooManyColours = (plan : Plan) → domain_colours < colours_total plan → plan_valid plan ≡ false

-- no colour is let twice; none above 14 is let, so that 15 is the kernel's alone; a domain holds the
-- nearest number to what its share is due; the colours are laid from 0 upwards in the order of the
-- domains, none left out; and where no domain is declared none is let
pub record ColoursLetOnce (plan : Plan) : Type 0 where
  pub not_twice :
      (one other colour : ℕ)
      → one < plan.domains
      → other < plan.domains
      → (one ≡ other → ⊥)
      → owns_colour plan one colour ≡ true
      → owns_colour plan other colour ≡ true
      → ⊥
  pub none_above :
      (domain colour : ℕ)
      → domain < plan.domains
      → owns_colour plan domain colour ≡ true
      → colour < domain_colours
  pub nearest :
      (domain : ℕ)
      → domain < plan.domains
      → NearestCount (share_of plan domain) (holding_of plan domain)
  pub upwards :
      (domain colour : ℕ)
      → domain < plan.domains
      → owns_colour plan domain colour ≡ true
      → (sum_to (holding_of plan) domain ≤ colour) × (colour < sum_to (holding_of plan) (domain + 1))
  pub no_others :
      (domain : ℕ) → plan.domains ≤ domain → domain < most_domains → mask_at plan domain ≡ 0

abbrev pub MasksOfValidPlans : Type 0
MasksOfValidPlans = (plan : Plan) → plan_valid plan ≡ true → ColoursLetOnce plan
