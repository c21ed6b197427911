-- Document 02, E6 and E9: what can make a window of a domain finish late: its own lines in L1, of
-- which any may be dirty, and the boxes that it may use, whose lines are the kernel's. Assumes
-- nothing.
use Rattle.std.specs.Prelude.{ℕ, ◌+◌, ◌*◌, ◌/◌, ◌%◌, min, Bool, cond, ◌||◌, eqb, ltb, get_or}
use Rattle.plan.specs.declared.Plan.{Plan}
use Rattle.plan.specs.Colours.{holding_of, owns_colour}
use Rattle.plan.specs.Limits.{domain_colours, most_domains}
use Rattle.plan.specs.Rights.{may_send}
use Rattle.plan.specs.Sums.{sum_to}
use Rattle.cache.specs.Lines.{kernel_colour, l1_length, sets_per_colour}
use Rattle.latest.specs.Lowest.{lowest_below}

-- ---- its windows

-- a declared window is a domain's
abbrev pub owns_window : Plan → ℕ → ℕ → Bool
owns_window plan domain slot = eqb (get_or plan.owners slot 0) domain

-- the first that is; the number of windows where none is
unfoldable pub first_window : Plan → ℕ → ℕ
first_window plan domain = lowest_below (owns_window plan domain) plan.windows

-- the run begins with a window of its own: the one window before which no switch has touched the
-- kernel's entry line
unfoldable pub starts_run : Plan → ℕ → Bool
starts_run plan domain = owns_window plan domain 0

-- ---- its own lines

-- the lowest of its colours
unfoldable pub lowest_colour : Plan → ℕ → ℕ
lowest_colour plan domain = lowest_below (owns_colour plan domain) domain_colours

-- so many colours in a row have all indices of L1 among their lines, and the next has those of the
-- first again
abbrev pub l1_colours : ℕ
l1_colours = l1_length / sets_per_colour

-- how many L1 indices its own lines have: its colours follow each other
unfoldable pub own_indices : Plan → ℕ → ℕ
own_indices plan domain = sets_per_colour * min (holding_of plan domain) l1_colours

-- those of the kernel's lines are among them: one of its colours is, as the kernel's, 3 modulo 4.
-- Its colours follow each other, so that is so exactly where the lowest, modulo 4, and the holding
-- come to more than 3.
unfoldable pub meets_kernel : Plan → ℕ → Bool
meets_kernel plan domain =
    ltb (kernel_colour % l1_colours) (lowest_colour plan domain % l1_colours + holding_of plan domain)

-- ---- the boxes that it may use

-- the lowest domain that it may send to; `most_domains` where there is none
unfoldable pub lowest_recipient : Plan → ℕ → ℕ
lowest_recipient plan domain = lowest_below (may_send plan domain) most_domains

-- the lowest domain that may send to it; `most_domains` where there is none
unfoldable pub lowest_sender : Plan → ℕ → ℕ
lowest_sender plan domain = lowest_below (λ sender. may_send plan sender domain) most_domains

-- there is a box that it may fill or empty
unfoldable pub has_box : Plan → ℕ → Bool
has_box plan domain =
    ltb (lowest_recipient plan domain) most_domains || ltb (lowest_sender plan domain) most_domains

-- how many such boxes there are: its rights to send, and others' rights to send to it
unfoldable pub box_count : Plan → ℕ → ℕ
box_count plan domain =
    sum_to (λ other. cond (may_send plan domain other) 1 0 + cond (may_send plan other domain) 1 0)
    most_domains
