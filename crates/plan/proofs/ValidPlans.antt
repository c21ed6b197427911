-- What a valid plan (12) is known to satisfy, fact by fact. Assumes nothing.
use mathlib.Core.Path.{◌≡◌}
use mathlib.Core.Bool.{Bool, true, false, cond, ◌&&◌}
use Prim.Native.Nat.{ℕ, ◌^◌, ◌≤◌, ◌<◌}
use native.Mathlib.Omega.{arith}
use lib.Dec.{eqb, leb, ltb}
use lib.ListN.{get_or}
use borrow.Author.Tests.{eqb-true, leb-true, ltb-true, lt-ltb, le-ltb, not-true}
use Rattle.lists.proofs.Tests.{both}
use Rattle.plan.specs.declared.Plan.{Plan}
use Rattle.plan.specs.Colours.{colours_at, colours_total, mask_at, mask_for, mask_of, share_of, shares_total}
use Rattle.plan.specs.Validity.{counts_valid, declared_valid, domain_valid, mask_valid, plan_valid, undeclared_valid, window_valid, within}
use Rattle.plan.specs.Rights.{may_send, rights_at}
use Rattle.plan.specs.Sums.{all_below}
use Rattle.plan.specs.Windows.{ticks_total}
use Rattle.plan.specs.Limits.{domain_colours, least_length, least_pad, most_domains, most_length, most_pad}
use Rattle.plan.specs.Limits.{most_run, most_run_ticks, most_share, most_shares, most_windows}
use Rattle.plan.proofs.Sums.{all_below_lem}

-- a number that passes a test of limits is within them
pub limits : (low high number : ℕ) → within low high number ≡ true → (low ≤ number) × (number ≤ high)
limits low high number h = let parts = both (leb low number) (leb number high) h in (leb-true _ _ parts.0, leb-true _ _ parts.1)

-- the seven parts of the check
pub record ValidParts (plan : Plan) : Type 0 where
  pub counts : counts_valid plan ≡ true
  pub domains : all_below (domain_valid plan) most_domains ≡ true
  pub shares : shares_total plan plan.domains ≤ most_shares
  pub colours : colours_total plan ≤ domain_colours
  pub masks : all_below (mask_valid plan) most_domains ≡ true
  pub windows : all_below (window_valid plan) most_windows ≡ true
  pub ticks : ticks_total plan ≤ most_run_ticks

pub parts : (plan : Plan) → plan_valid plan ≡ true → ValidParts plan
unfolding plan_valid
parts plan valid =
    let seventh = both _ _ valid in
    let sixth = both _ _ seventh.0 in
    let fifth = both _ _ sixth.0 in
    let fourth = both _ _ fifth.0 in
    let third = both _ _ fourth.0 in
    let second = both _ _ third.0 in
    record {
      counts = second.0;
      domains = second.1;
      shares = leb-true _ _ third.1;
      colours = leb-true _ _ fourth.1;
      masks = fifth.1;
      windows = sixth.1;
      ticks = leb-true _ _ seventh.1;
    }

-- the four counts
pub record Counts (plan : Plan) : Type 0 where
  pub pad_least : least_pad ≤ plan.pad
  pub pad_most : plan.pad ≤ most_pad
  pub run_least : 1 ≤ plan.run
  pub run_most : plan.run ≤ most_run
  pub domains_least : 1 ≤ plan.domains
  pub domains_most : plan.domains ≤ most_domains
  pub windows_least : 1 ≤ plan.windows
  pub windows_most : plan.windows ≤ most_windows

pub counts_of : (plan : Plan) → counts_valid plan ≡ true → Counts plan
unfolding counts_valid
counts_of plan valid =
    let third = both _ _ valid in
    let second = both _ _ third.0 in
    let first = both _ _ second.0 in
    let pad = limits _ _ _ first.0 in
    let run = limits _ _ _ first.1 in
    let domains = limits _ _ _ second.1 in
    let windows = limits _ _ _ third.1 in
    record {
      pad_least = pad.0;
      pad_most = pad.1;
      run_least = run.0;
      run_most = run.1;
      domains_least = domains.0;
      domains_most = domains.1;
      windows_least = windows.0;
      windows_most = windows.1;
    }

pub counts : (plan : Plan) → plan_valid plan ≡ true → Counts plan
counts plan valid = counts_of plan (parts plan valid).counts

-- a declared domain
pub record Declared (plan : Plan) (domain : ℕ) : Type 0 where
  pub share_least : 1 ≤ share_of plan domain
  pub share_most : share_of plan domain ≤ most_share
  pub colour : 1 ≤ colours_at plan domain
  pub rights_most : rights_at plan domain < 2 ^ plan.domains
  pub not_own : may_send plan domain domain ≡ false
  pub mask : mask_at plan domain ≡ mask_of plan domain

-- the mask at an index
mask_at_lem :
    (plan : Plan) (domain : ℕ) → plan_valid plan ≡ true → domain < most_domains → mask_at plan domain ≡ mask_for plan domain
unfolding mask_valid
mask_at_lem plan domain valid below = eqb-true _ _ (all_below_lem (mask_valid plan) most_domains domain (parts plan valid).masks below)

pub declared : (plan : Plan) (domain : ℕ) → plan_valid plan ≡ true → domain < plan.domains → Declared plan domain
unfolding domain_valid declared_valid
declared plan domain valid below =
    let most : plan.domains ≤ most_domains = (counts plan valid).domains_most in
    let whole : domain_valid plan domain ≡ true = all_below_lem (domain_valid plan) most_domains domain (parts plan valid).domains (omega arith) in
    let own : declared_valid plan domain ≡ true = rw (lt-ltb domain plan.domains below) at whole in
    let fourth = both _ _ own in
    let third = both _ _ fourth.0 in
    let second = both _ _ third.0 in
    let share = limits _ _ _ second.0 in
    record {
      share_least = share.0;
      share_most = share.1;
      colour = leb-true _ _ second.1;
      rights_most = ltb-true _ _ third.1;
      not_own = not-true _ fourth.1;
      mask = rw (lt-ltb domain plan.domains below) at (mask_at_lem plan domain valid (omega arith));
    }

-- an entry that no domain is declared for
pub record Undeclared (plan : Plan) (domain : ℕ) : Type 0 where
  pub share : share_of plan domain ≡ 0
  pub rights : rights_at plan domain ≡ 0
  pub mask : mask_at plan domain ≡ 0

pub undeclared : (plan : Plan) (domain : ℕ) → plan_valid plan ≡ true → plan.domains ≤ domain → domain < most_domains → Undeclared plan domain
unfolding domain_valid undeclared_valid
undeclared plan domain valid past below =
    let whole : domain_valid plan domain ≡ true = all_below_lem (domain_valid plan) most_domains domain (parts plan valid).domains below in
    let none : undeclared_valid plan domain ≡ true = rw (le-ltb domain plan.domains past) at whole in
    let second = both _ _ none in
    record {
      share = eqb-true _ _ second.0;
      rights = eqb-true _ _ second.1;
      mask = rw (le-ltb domain plan.domains past) at (mask_at_lem plan domain valid below);
    }

-- a declared window
pub record DeclaredWindow (plan : Plan) (slot : ℕ) : Type 0 where
  pub owner : get_or plan.owners slot 0 < plan.domains
  pub length_least : 1 ≤ get_or plan.lengths slot 0
  pub length_most : get_or plan.lengths slot 0 ≤ most_length

pub declared_window : (plan : Plan) (slot : ℕ) → plan_valid plan ≡ true → slot < plan.windows → DeclaredWindow plan slot
unfolding window_valid
declared_window plan slot valid below =
    let most : plan.windows ≤ most_windows = (counts plan valid).windows_most in
    let whole : window_valid plan slot ≡ true = all_below_lem (window_valid plan) most_windows slot (parts plan valid).windows (omega arith) in
    let own = rw (lt-ltb slot plan.windows below) at whole in
    let second = both _ _ own in
    let length = limits _ _ _ second.1 in
    record { owner = ltb-true _ _ second.0; length_least = length.0; length_most = length.1 }

-- where every entry for a domain is valid, no share is over its limit
pub shares_most :
    (plan : Plan) → all_below (domain_valid plan) most_domains ≡ true → (domain : ℕ) → domain < most_domains → get_or plan.shares domain 0 ≤ most_share
unfolding domain_valid declared_valid undeclared_valid
shares_most plan all domain below = go (ltb domain plan.domains) (all_below_lem (domain_valid plan) most_domains domain all below)
  where
    go : (b : Bool) → cond b (declared_valid plan domain) (undeclared_valid plan domain) ≡ true → share_of plan domain ≤ most_share
    go true own = (limits _ _ _ (both _ _ (both _ _ (both _ _ own).0).0).0).1
    go false none = let zero : share_of plan domain ≡ 0 = eqb-true _ _ (both _ _ none).0 in omega arith

-- where every entry for a window is valid, no length is over its limit
pub lengths_most :
    (plan : Plan) → all_below (window_valid plan) most_windows ≡ true → (slot : ℕ) → slot < most_windows → get_or plan.lengths slot 0 ≤ most_length
unfolding window_valid
lengths_most plan all slot below = go (ltb slot plan.windows) (all_below_lem (window_valid plan) most_windows slot all below)
  where
    go :
        (b : Bool)
        → cond b (ltb (get_or plan.owners slot 0) plan.domains && within least_length most_length (get_or plan.lengths slot 0))
        (eqb (get_or plan.owners slot 0) 0 && eqb (get_or plan.lengths slot 0) 0)
        ≡ true
        → get_or plan.lengths slot 0 ≤ most_length
    go true own =
        (limits least_length most_length _
        (both (ltb (get_or plan.owners slot 0) plan.domains) (within least_length most_length (get_or plan.lengths slot 0)) own).1).1
    go false none =
        let zero : get_or plan.lengths slot 0 ≡ 0 =
        eqb-true _ _ (both (eqb (get_or plan.owners slot 0) 0) (eqb (get_or plan.lengths slot 0) 0) none).1 in
        omega arith
