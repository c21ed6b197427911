-- A plan (document 01, "The plan text") and a state ("Window, switch, run") as the numbers that a
-- host lends. Assumes nothing.
use Rattle.std.specs.Prelude.{ℕ, zero, suc, ◌+◌, Bool, cond, List, [], ◌∷◌, ◌++◌, leb, get_or}
use Rattle.plan.specs.declared.Plan.{Plan}
use Rattle.plan.specs.Limits.{most_domains, most_windows}
use Rattle.plan.specs.Sums.{all_below}
use Rattle.state.specs.declared.State.{State}
use Rattle.plan.specs.Zeros.{no_plan}

-- the `count` numbers of a list from the index `first` on; past the list's end they are 0
unfoldable pub numbers_from : List ℕ → ℕ → ℕ → List ℕ
numbers_from list first zero = []
numbers_from list first (suc count) = get_or list first 0 ∷ numbers_from list (first + 1) count

-- ---- a plan

-- how many numbers a plan is
abbrev pub plan_length : ℕ
plan_length = 92

-- where each of them stands, or a list of them begins
abbrev pub pad_offset : ℕ
pad_offset = 0

abbrev pub run_offset : ℕ
run_offset = 1

abbrev pub domains_offset : ℕ
domains_offset = 2

abbrev pub windows_offset : ℕ
windows_offset = 3

-- a share for each domain
abbrev pub shares_offset : ℕ
shares_offset = 4

-- a mask of recipients for each domain
abbrev pub rights_offset : ℕ
rights_offset = 12

-- a domain for each window
abbrev pub owners_offset : ℕ
owners_offset = 20

-- a length for each window
abbrev pub lengths_offset : ℕ
lengths_offset = 52

-- a colour mask for each domain
abbrev pub masks_offset : ℕ
masks_offset = 84

-- the widest colour mask: 16 colours
abbrev pub most_mask : ℕ
most_mask = 65_535

-- a plan's numbers, in that order
unfoldable pub plan_numbers : Plan → List ℕ
plan_numbers plan =
    plan.pad
    ∷ plan.run
    ∷ plan.domains
    ∷ plan.windows
    ∷ numbers_from plan.shares 0 most_domains
    ++ numbers_from plan.rights 0 most_domains
    ++ numbers_from plan.owners 0 most_windows
    ++ numbers_from plan.lengths 0 most_windows
    ++ numbers_from plan.masks 0 most_domains

-- the plan that lent numbers stand for, each number as it is
unfoldable pub plan_of : List ℕ → Plan
plan_of numbers =
    record {
      pad = get_or numbers pad_offset 0;
      run = get_or numbers run_offset 0;
      domains = get_or numbers domains_offset 0;
      windows = get_or numbers windows_offset 0;
      shares = numbers_from numbers shares_offset most_domains;
      rights = numbers_from numbers rights_offset most_domains;
      owners = numbers_from numbers owners_offset most_windows;
      lengths = numbers_from numbers lengths_offset most_windows;
      masks = numbers_from numbers masks_offset most_domains;
    }

-- a plan keeps colour masks of 16 bits, and the lent numbers are wider: whether the lent masks fit
unfoldable pub masks_fit : List ℕ → Bool
masks_fit numbers =
    all_below (λ domain. leb (get_or numbers (masks_offset + domain) 0) most_mask) most_domains

-- the plan that is handed on: no valid plan has a mask that does not fit, so all zeros, which is no
-- valid plan either, stands for such a plan
unfoldable pub handed_plan : List ℕ → Plan
handed_plan numbers = cond (masks_fit numbers) (plan_of numbers) no_plan

-- ---- a state

-- how many numbers a state is
abbrev pub state_length : ℕ
state_length = 18

-- windows completed
abbrev pub completed_offset : ℕ
completed_offset = 0

abbrev pub state_clock_offset : ℕ
state_clock_offset = 1

-- a script position for each domain
abbrev pub positions_offset : ℕ
positions_offset = 2

-- a record count for each domain
abbrev pub records_offset : ℕ
records_offset = 10

-- a state's numbers, in that order
unfoldable pub state_numbers : State → List ℕ
state_numbers state =
    state.windows
    ∷ state.clock
    ∷ numbers_from state.positions 0 most_domains
    ++ numbers_from state.records 0 most_domains

-- the state that lent numbers stand for
unfoldable pub state_of : List ℕ → State
state_of numbers =
    record {
      windows = get_or numbers completed_offset 0;
      clock = get_or numbers state_clock_offset 0;
      positions = numbers_from numbers positions_offset most_domains;
      records = numbers_from numbers records_offset most_domains;
    }
