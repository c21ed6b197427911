-- Document 01, "The plan text": a plan put together from what its lines declare. Every definition that
-- makes a plan or changes one is built from `plan_from`, so that a plan's fields are spelled out here
-- alone. Assumes nothing.
use Rattle.std.specs.Prelude.{ℕ, ◌+◌, List, set}
use Rattle.plan.specs.declared.Plan.{Plan}

-- what domain lines declare: how many domains, each one's share and its recipients
pub record DomainTable : Type 0 where
  pub count : ℕ
  pub shares : List ℕ
  pub rights : List ℕ

-- what window lines declare: how many windows, each one's domain and its length
pub record WindowTable : Type 0 where
  pub count : ℕ
  pub owners : List ℕ
  pub lengths : List ℕ

-- a plan of a pad, a run, domains, windows and masks
abbrev pub plan_from : ℕ → ℕ → DomainTable → WindowTable → List ℕ → Plan
plan_from pad run domains windows masks =
    record {
      pad = pad;
      run = run;
      domains = domains.count;
      windows = windows.count;
      shares = domains.shares;
      rights = domains.rights;
      owners = windows.owners;
      lengths = windows.lengths;
      masks = masks;
    }

-- a plan's domains
abbrev pub domains_of : Plan → DomainTable
domains_of plan = record { count = plan.domains; shares = plan.shares; rights = plan.rights }

-- a plan's windows
abbrev pub windows_of : Plan → WindowTable
windows_of plan = record { count = plan.windows; owners = plan.owners; lengths = plan.lengths }

-- ---- a plan with one thing more

-- a pad
abbrev pub with_pad : Plan → ℕ → Plan
with_pad plan ticks = plan_from ticks plan.run (domains_of plan) (windows_of plan) plan.masks

-- a run
abbrev pub with_run : Plan → ℕ → Plan
with_run plan times = plan_from plan.pad times (domains_of plan) (windows_of plan) plan.masks

-- a domain, at the next index
abbrev pub with_domain : Plan → ℕ → ℕ → Plan
with_domain plan share rights =
    let next = plan.domains in
    let shares = set plan.shares next share in
    let domains : DomainTable =
    record { count = next + 1; shares = shares; rights = set plan.rights next rights } in
    plan_from plan.pad plan.run domains (windows_of plan) plan.masks

-- a window, at the next index
abbrev pub with_window : Plan → ℕ → ℕ → Plan
with_window plan owner length =
    let next = plan.windows in
    let owners = set plan.owners next owner in
    let windows : WindowTable =
    record { count = next + 1; owners = owners; lengths = set plan.lengths next length } in
    plan_from plan.pad plan.run (domains_of plan) windows plan.masks

-- its colour masks
unfoldable pub with_masks : Plan → List ℕ → Plan
with_masks plan masks = plan_from plan.pad plan.run (domains_of plan) (windows_of plan) masks
