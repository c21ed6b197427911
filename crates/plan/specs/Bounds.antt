-- What contracts ask of a plan before its numbers are added up, beside document 01: each number within
-- its limit, so that no sum wraps. Assumes nothing.
use Rattle.std.specs.Prelude.{ℕ, ◌≤◌, ◌<◌, get_or}
use Rattle.plan.specs.declared.Plan.{Plan}
use Rattle.plan.specs.Colours.{colours_total, share_of}
use Rattle.plan.specs.Limits.{domain_colours, most_domains, most_length, most_pad}
use Rattle.plan.specs.Limits.{most_run, most_share, most_windows}

-- as many domains as there may be, each with a share that there may be
abbrev pub SharesBounded : Plan → Type 0
SharesBounded plan =
    (plan.domains ≤ most_domains)
    × ((domain : ℕ) → domain < most_domains → share_of plan domain ≤ most_share)

-- and their shares together give no more colours than domains have
abbrev pub ColoursBounded : Plan → Type 0
ColoursBounded plan = SharesBounded plan × (colours_total plan ≤ domain_colours)

-- run, windows, pad and lengths
abbrev pub TicksBounded : Plan → Type 0
TicksBounded plan =
    (plan.run ≤ most_run)
    × (plan.windows ≤ most_windows)
    × (plan.pad ≤ most_pad)
    × ((slot : ℕ) → slot < most_windows → get_or plan.lengths slot 0 ≤ most_length)
