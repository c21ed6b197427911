-- Document 01, "The plan text" and "Two lists of calls": plan validity (12), the plan values that the reader
-- could give and none besides; the one of zeros alone is no such value. Assumes nothing.
use Rattle.std.specs.Prelude.{ℕ, ◌^◌, Bool, cond, not, ◌&&◌, eqb, leb, ltb, get_or}
use Rattle.plan.specs.declared.Plan.{Plan}
use Rattle.plan.specs.Sums.{all_below}
use Rattle.plan.specs.Colours.{colours_at, colours_total, mask_at, mask_for}
use Rattle.plan.specs.Colours.{share_of, shares_total}
use Rattle.plan.specs.Limits.{domain_colours, least_domains, least_length, least_pad}
use Rattle.plan.specs.Limits.{least_run, least_share, least_windows}
use Rattle.plan.specs.Limits.{most_domains, most_length, most_pad, most_run}
use Rattle.plan.specs.Limits.{most_run_ticks, most_share, most_shares, most_windows}
use Rattle.plan.specs.Rights.{may_send, rights_at}
use Rattle.plan.specs.Windows.{ticks_total}

-- a number is within limits, both included
abbrev pub within : ℕ → ℕ → ℕ → Bool
within low high number = leb low number && leb number high

-- pad, run and the numbers of domains and windows are within their limits
unfoldable pub counts_valid : Plan → Bool
counts_valid plan =
    within least_pad most_pad plan.pad
    && within least_run most_run plan.run
    && within least_domains most_domains plan.domains
    && within least_windows most_windows plan.windows

-- a declared domain: a share within its limits that gives a colour; a list of declared recipients
-- without its own number
unfoldable pub declared_valid : Plan → ℕ → Bool
declared_valid plan domain =
    within least_share most_share (share_of plan domain)
    && leb 1 (colours_at plan domain)
    && ltb (rights_at plan domain) (2 ^ plan.domains)
    && not (may_send plan domain domain)

-- an entry that no domain is declared for holds zeros
unfoldable pub undeclared_valid : Plan → ℕ → Bool
undeclared_valid plan domain = eqb (share_of plan domain) 0 && eqb (rights_at plan domain) 0

-- an entry for a domain, declared or not
unfoldable pub domain_valid : Plan → ℕ → Bool
domain_valid plan domain =
    cond (ltb domain plan.domains) (declared_valid plan domain) (undeclared_valid plan domain)

-- the mask that is kept is the one due
unfoldable pub mask_valid : Plan → ℕ → Bool
mask_valid plan domain = eqb (mask_at plan domain) (mask_for plan domain)

-- a declared window is a declared domain's, its length within the limits; an entry that no window is
-- declared for holds zeros
unfoldable pub window_valid : Plan → ℕ → Bool
window_valid plan slot =
    let owner = get_or plan.owners slot 0 in
    let length = get_or plan.lengths slot 0 in
    cond (ltb slot plan.windows)
    (ltb owner plan.domains && within least_length most_length length)
    (eqb owner 0 && eqb length 0)

-- plan validity: the parts above at every entry; and neither the shares together, nor the colours that
-- they give, nor the run's ticks over their limits
unfoldable pub plan_valid : Plan → Bool
plan_valid plan =
    counts_valid plan
    && all_below (domain_valid plan) most_domains
    && leb (shares_total plan plan.domains) most_shares
    && leb (colours_total plan) domain_colours
    && all_below (mask_valid plan) most_domains
    && all_below (window_valid plan) most_windows
    && leb (ticks_total plan) most_run_ticks
