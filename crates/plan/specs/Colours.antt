-- Document 01, "The core and its tables": a domain's share, its colours, its mask and its holding.
-- Document 02, E2: how many colours a share gives.
-- Assumes nothing.
use Rattle.std.specs.Prelude.{ℕ, zero, suc, ◌+◌, ◌*◌, ◌-◌, ◌/◌, ◌%◌, ◌^◌, Bool, cond, List, [], ◌∷◌, eqb, ltb, get_or}
use Rattle.std.specs.Int.Count.{ones}
use Rattle.plan.specs.declared.Plan.{Plan}
use Rattle.plan.specs.Sums.{sum_to}
use Rattle.plan.specs.Limits.{domain_colours, most_domains, most_shares}

-- a share, in thousandths of the domains' colours, gives the nearest number of colours, an exact half
-- going up: half a colour is added, and what is then over a whole number is dropped
unfoldable pub colours_of : ℕ → ℕ
colours_of share = (share * domain_colours + most_shares / 2) / most_shares

-- a domain's share
abbrev pub share_of : Plan → ℕ → ℕ
share_of plan domain = get_or plan.shares domain 0

-- the number of colours that it gives
abbrev pub colours_at : Plan → ℕ → ℕ
colours_at plan domain = colours_of (share_of plan domain)

-- the shares' total over the first domains
unfoldable pub shares_total : Plan → ℕ → ℕ
shares_total plan count = sum_to (share_of plan) count

-- the colours are given out in the order of the domains, the lowest first: a domain's first is the
-- number given out before it
unfoldable pub first_colour : Plan → ℕ → ℕ
first_colour plan domain = sum_to (colours_at plan) domain

-- the colours' total: as many as are given out once the last domain has its own
abbrev pub colours_total : Plan → ℕ
colours_total plan = first_colour plan plan.domains

-- the 16-bit mask of `count` adjacent colours from a first one on
unfoldable pub mask_from : ℕ → ℕ → ℕ
mask_from first count = (2 ^ count - 1) * 2 ^ first

-- the mask that a domain's share gives it
unfoldable pub mask_of : Plan → ℕ → ℕ
mask_of plan domain = mask_from (first_colour plan domain) (colours_at plan domain)

-- the mask due at a domain's index: a declared domain's own, and 0 where none is declared
abbrev pub mask_for : Plan → ℕ → ℕ
mask_for plan domain = cond (ltb domain plan.domains) (mask_of plan domain) 0

-- the masks due at the `left` indices from `domain` on
unfoldable pub masks_from : Plan → ℕ → ℕ → List ℕ
masks_from plan zero domain = []
masks_from plan (suc left) domain = mask_for plan domain ∷ masks_from plan left (domain + 1)

-- the mask that a plan keeps for a domain
abbrev pub mask_at : Plan → ℕ → ℕ
mask_at plan domain = get_or plan.masks domain 0

-- a domain's holding: how many ones its mask has. A number that no domain can have holds none.
unfoldable pub holding_of : Plan → ℕ → ℕ
holding_of plan domain = cond (ltb domain most_domains) (ones (mask_at plan domain)) 0

-- a bit of a mask is set
unfoldable pub has_bit : ℕ → ℕ → Bool
has_bit mask bit = eqb (mask / 2 ^ bit % 2) 1

-- a colour is a domain's
abbrev pub owns_colour : Plan → ℕ → ℕ → Bool
owns_colour plan domain colour = has_bit (mask_at plan domain) colour
