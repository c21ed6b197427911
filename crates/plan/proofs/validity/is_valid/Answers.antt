-- `plan::validity::is_valid` meets its contract. Assumes nothing.
use mathlib.Core.Bool.{true}
use mathlib.Core.Path.{◌∙◌, ◌≡◌, refl, sym}
use Prim.Native.Nat.{◌≤◌}
use borrow.Author.Tests.{le-leb, lt-leb}
use Rattle.plan.specs.Bounds.{SharesBounded}
use Rattle.plan.specs.Colours.{colours_total, shares_total}
use Rattle.plan.specs.Validity.{counts_valid, domain_valid, mask_valid, plan_valid, window_valid}
use Rattle.plan.specs.Sums.{all_below}
use Rattle.plan.specs.Limits.{domain_colours, most_domains, most_shares, most_windows}
use Rattle.plan.proofs.ValidPlans.{counts_of, lengths_most, shares_most}
use Rattle.plan.proofs.validity.is_valid.Goals as goal

pub returns-then-not-counts_valid : goal.returns-then-not-counts_valid
unfolding plan_valid
returns-then-not-counts_valid c = rw (sym c.counts_valid.ensures ∙ c.if-not-counts_valid.true) refl

pub domains_valid-requires : goal.domains_valid-requires
domains_valid-requires c = (counts_of _ (let it : counts_valid c.args.plan ≡ true = sym c.counts_valid.ensures ∙ c.if-not-counts_valid.false in it)).domains_most

pub returns-then-not-domains_valid : goal.returns-then-not-domains_valid
unfolding plan_valid
returns-then-not-domains_valid c =
    rw (
      (let it : counts_valid c.args.plan ≡ true = sym c.counts_valid.ensures
          ∙ c.if-not-counts_valid.false in it),
      sym c.domains_valid.ensures ∙ c.if-not-domains_valid.true,
    ) refl

pub returns-then-shares_total-gt-MOST_SHARES : goal.returns-then-shares_total-gt-MOST_SHARES
unfolding plan_valid
returns-then-shares_total-gt-MOST_SHARES c =
    let over = lt-leb _ _ (rw c.shares_total.ensures at c.if-shares_total-gt-MOST_SHARES.true) in
    rw (
      (let it : counts_valid c.args.plan ≡ true = sym c.counts_valid.ensures
          ∙ c.if-not-counts_valid.false in it),
      (let it : all_below
          (domain_valid c.args.plan) most_domains ≡ true = sym c.domains_valid.ensures
          ∙ c.if-not-domains_valid.false in it),
      over,
    ) refl

pub returns-then-colours_total-gt-DOMAIN_COLOURS : goal.returns-then-colours_total-gt-DOMAIN_COLOURS
unfolding plan_valid
returns-then-colours_total-gt-DOMAIN_COLOURS c =
    let over = lt-leb _ _ (rw c.colours_total.ensures at c.if-colours_total-gt-DOMAIN_COLOURS.true) in
    rw (
      (let it : counts_valid c.args.plan ≡ true = sym c.counts_valid.ensures ∙ c.if-not-counts_valid.false in it),
      (let it : all_below (domain_valid c.args.plan) most_domains ≡ true = sym c.domains_valid.ensures ∙ c.if-not-domains_valid.false in it),
      le-leb _ _ (let it : shares_total c.args.plan c.args.plan.domains ≤ most_shares = rw c.shares_total.ensures at c.if-shares_total-gt-MOST_SHARES.false in it),
      over,
    )
    refl

pub returns-then-not-masks_valid : goal.returns-then-not-masks_valid
unfolding plan_valid
returns-then-not-masks_valid c =
    rw (
      (let it : counts_valid c.args.plan ≡ true = sym c.counts_valid.ensures ∙ c.if-not-counts_valid.false in it),
      (let it : all_below (domain_valid c.args.plan) most_domains ≡ true = sym c.domains_valid.ensures ∙ c.if-not-domains_valid.false in it),
      le-leb _ _ (let it : shares_total c.args.plan c.args.plan.domains ≤ most_shares = rw c.shares_total.ensures at c.if-shares_total-gt-MOST_SHARES.false in it),
      le-leb _ _ (let it : colours_total c.args.plan ≤ domain_colours = rw c.colours_total.ensures at c.if-colours_total-gt-DOMAIN_COLOURS.false in it),
      sym c.masks_valid.ensures ∙ c.if-not-masks_valid.true,
    )
    refl

pub returns-then-not-windows_valid : goal.returns-then-not-windows_valid
unfolding plan_valid
returns-then-not-windows_valid c =
    rw (
      (let it : counts_valid c.args.plan ≡ true = sym c.counts_valid.ensures ∙ c.if-not-counts_valid.false in it),
      (let it : all_below (domain_valid c.args.plan) most_domains ≡ true = sym c.domains_valid.ensures ∙ c.if-not-domains_valid.false in it),
      le-leb _ _ (let it : shares_total c.args.plan c.args.plan.domains ≤ most_shares = rw c.shares_total.ensures at c.if-shares_total-gt-MOST_SHARES.false in it),
      le-leb _ _ (let it : colours_total c.args.plan ≤ domain_colours = rw c.colours_total.ensures at c.if-colours_total-gt-DOMAIN_COLOURS.false in it),
      (let it : all_below (mask_valid c.args.plan) most_domains ≡ true = sym c.masks_valid.ensures ∙ c.if-not-masks_valid.false in it),
      sym c.windows_valid.ensures ∙ c.if-not-windows_valid.true,
    )
    refl

pub ticks_total-requires : goal.ticks_total-requires
ticks_total-requires c =
    let count = counts_of _ (let it : counts_valid c.args.plan ≡ true = sym c.counts_valid.ensures ∙ c.if-not-counts_valid.false in it) in (
      count.run_most,
      count.windows_most,
      count.pad_most,
      lengths_most _ (let it : all_below
          (window_valid c.args.plan) most_windows ≡ true = sym c.windows_valid.ensures
          ∙ c.if-not-windows_valid.false in it),
    )

pub returns : goal.returns
unfolding plan_valid
returns c =
    rw (
      (let it : counts_valid c.args.plan ≡ true = sym c.counts_valid.ensures ∙ c.if-not-counts_valid.false in it),
      (let it : all_below (domain_valid c.args.plan) most_domains ≡ true = sym c.domains_valid.ensures ∙ c.if-not-domains_valid.false in it),
      le-leb _ _ (let it : shares_total c.args.plan c.args.plan.domains ≤ most_shares = rw c.shares_total.ensures at c.if-shares_total-gt-MOST_SHARES.false in it),
      le-leb _ _ (let it : colours_total c.args.plan ≤ domain_colours = rw c.colours_total.ensures at c.if-colours_total-gt-DOMAIN_COLOURS.false in it),
      (let it : all_below (mask_valid c.args.plan) most_domains ≡ true = sym c.masks_valid.ensures ∙ c.if-not-masks_valid.false in it),
      (let it : all_below (window_valid c.args.plan) most_windows ≡ true = sym c.windows_valid.ensures ∙ c.if-not-windows_valid.false in it),
      c.ticks_total.ensures,
    )
    refl

pub shares_total-requires : goal.shares_total-requires
shares_total-requires c =
    (let it : SharesBounded c.args.plan = (
      (counts_of _
          (let it : counts_valid c.args.plan ≡ true = sym c.counts_valid.ensures
          ∙ c.if-not-counts_valid.false in it)).domains_most,
      shares_most _ (let it : all_below
          (domain_valid c.args.plan) most_domains ≡ true = sym c.domains_valid.ensures
          ∙ c.if-not-domains_valid.false in it),
    ) in it)

pub colours_total-requires : goal.colours_total-requires
colours_total-requires c =
    (let it : SharesBounded c.args.plan = (
      (counts_of _
          (let it : counts_valid c.args.plan ≡ true = sym c.counts_valid.ensures
          ∙ c.if-not-counts_valid.false in it)).domains_most,
      shares_most _ (let it : all_below
          (domain_valid c.args.plan) most_domains ≡ true = sym c.domains_valid.ensures
          ∙ c.if-not-domains_valid.false in it),
    ) in it)

pub masks_valid-requires : goal.masks_valid-requires
masks_valid-requires c = (
  (let it : SharesBounded c.args.plan = (
    (counts_of _
        (let it : counts_valid c.args.plan ≡ true = sym c.counts_valid.ensures
        ∙ c.if-not-counts_valid.false in it)).domains_most,
    shares_most _ (let it : all_below
        (domain_valid c.args.plan) most_domains ≡ true = sym c.domains_valid.ensures
        ∙ c.if-not-domains_valid.false in it),
  ) in it),
  (let it : colours_total c.args.plan ≤ domain_colours = rw c.colours_total.ensures at c.if-colours_total-gt-DOMAIN_COLOURS.false in it),
)
