-- The checks after the last line pass for a valid plan, and the masks that its shares give are those that it keeps. Assumes nothing.
use Rattle.std.specs.Prelude.{Ok}
use Prim.Native.Nat.{ℕ, zero, suc, ◌+◌, ◌-◌, ◌≤◌, ◌<◌}
use native.Mathlib.Numerals.{add-one}
use native.Mathlib.Omega.{arith}
use mathlib.Core.Bool.{Bool, true, false, cond}
use mathlib.Core.List.{List, [], ◌∷◌}
use mathlib.Core.Path.{◌≡◌, refl, sym, ap, ap₂, ◌∙◌}
use lib.Dec.{ltb}
use lib.ListN.{drop, get_or, length, replicate, drop_of_length-le}
use lib.Seq.{drop-cons}
use borrow.Author.Tests.{eqb-true, le-ltb, ltb-false, ltb-true, ne_eqb}
use Rattle.plan.specs.declared.Plan.{Plan}
use Rattle.plan.specs.Colours.{colours_at, colours_total, first_colour, mask_at, mask_of, masks_from, shares_total}
use Rattle.plan.specs.Validity.{plan_valid, window_valid}
use Rattle.plan.specs.Windows.{ticks_total}
use Rattle.plan.proofs.MaskLists.{mask_alike}
use Rattle.lists.proofs.Tests.{both}
use Rattle.plan.proofs.ValidPlans.{counts, declared, parts, undeclared}
use Rattle.plan.proofs.Sums.{all_below_lem}
use Rattle.plan.specs.Zeros.{no_plan}
use Rattle.reader.specs.DraftParts.{draft_with}
use Rattle.reader.specs.Final.{final_verdict, first_colourless, lacking, mentions_from, plan_with_masks, shares_verdict}
use Rattle.plan.specs.Parts.{domains_of, plan_from, windows_of, with_masks}
use Rattle.plan.specs.Limits.{domain_colours, most_domains, most_run_ticks, most_shares, most_windows}
use Rattle.roundtrip.specs.Accepted.{Shaped}
use Rattle.roundtrip.proofs.Filled.{filled_all, filled_none}
use Rattle.roundtrip.proofs.Progress.{so_far}
use Rattle.roundtrip.proofs.Recipients.{Quiet}

-- a plan before its masks are worked out
abbrev pub unmasked : Plan → Plan
unmasked plan =
    plan_from plan.pad plan.run (domains_of plan) (windows_of plan) (replicate most_domains 0)

-- ---- the plan so far, before the first line and after the last

pub read_none : (plan : Plan) → Shaped plan → so_far plan 0 0 0 0 ≡ no_plan
unfolding no_plan
read_none plan shaped =
    rw (
      filled_none plan.shares,
      filled_none plan.rights,
      filled_none plan.owners,
      filled_none plan.lengths,
      shaped.shares,
      shaped.rights,
      shaped.owners,
      shaped.lengths,
    )

-- an entry that no window is declared for holds zeros
undeclared_window :
    (plan : Plan) (slot : ℕ) → plan_valid plan ≡ true → plan.windows ≤ slot → slot < most_windows → (get_or plan.owners slot 0 ≡ 0) × (get_or plan.lengths slot 0 ≡ 0)
unfolding window_valid
undeclared_window plan slot valid past below =
    let whole : window_valid plan slot ≡ true = all_below_lem (window_valid plan) most_windows slot (parts plan valid).windows below in
    let zeros = both _ _ (rw (le-ltb slot plan.windows past) at whole) in
    (eqb-true _ _ zeros.0, eqb-true _ _ zeros.1)

pub read_all :
    (plan : Plan) → Shaped plan → plan_valid plan ≡ true → so_far plan plan.pad plan.run plan.domains plan.windows ≡ unmasked plan
read_all plan shaped valid =
    rw (
      filled_all plan.domains plan.shares (λ index past within. (undeclared plan index valid past (omega (arith, shaped.shares))).share),
      filled_all plan.domains plan.rights (λ index past within. (undeclared plan index valid past (omega (arith, shaped.rights))).rights),
      filled_all plan.windows plan.owners (λ index past within. (undeclared_window plan index valid past (omega (arith, shaped.owners))).0),
      filled_all plan.windows plan.lengths (λ index past within. (undeclared_window plan index valid past (omega (arith, shaped.lengths))).1),
    )

-- ---- the masks

masks_left :
    (plan : Plan) → plan_valid plan ≡ true → length plan.masks ≡ most_domains → (left domain : ℕ) → domain + left ≡ most_domains
    → masks_from (unmasked plan) left domain ≡ drop domain plan.masks
unfolding masks_from
masks_left plan valid long zero domain all = sym (drop_of_length-le plan.masks {i = domain} (omega arith))
masks_left plan valid long (suc left) domain all =
    ap₂ (λ (mask : ℕ) (rest : List ℕ). mask ∷ rest) (go (ltb domain plan.domains) refl) (masks_left plan valid long left (domain + 1) (omega arith))
    ∙ ap (λ (next : ℕ). mask_at plan domain ∷ drop next plan.masks) (add-one domain)
    ∙ sym (drop-cons plan.masks domain 0 (omega arith))
  where
    go : (b : Bool) → ltb domain plan.domains ≡ b → cond b (mask_of (unmasked plan) domain) 0 ≡ mask_at plan domain
    go true e = mask_alike (unmasked plan) plan domain refl ∙ sym (declared plan domain valid (ltb-true domain plan.domains e)).mask
    go false e = sym (undeclared plan domain valid (ltb-false domain plan.domains e) (omega arith)).mask

pub masks_kept : (plan : Plan) → Shaped plan → plan_valid plan ≡ true → plan_with_masks (unmasked plan) ≡ plan
unfolding plan_with_masks with_masks
masks_kept plan shaped valid = ap (with_masks plan) (masks_left plan valid shaped.masks most_domains 0 (omega arith))

-- ---- the checks

-- no undeclared domain is named as a recipient
none_undeclared : (named : List ℕ) (total : ℕ) → Quiet total named → (left domain : ℕ) → total ≤ domain → mentions_from named left domain ≡ []
unfolding mentions_from
none_undeclared named total quiet zero domain past = refl
none_undeclared named total quiet (suc left) domain past =
    rw (quiet domain past, mentions_from) (none_undeclared named total quiet left (domain + 1) (omega arith))

-- every declared domain's share gives a colour
none_colourless :
    (plan : Plan) → plan_valid plan ≡ true → (left domain : ℕ) → domain + left ≡ plan.domains → first_colourless (unmasked plan) left domain ≡ plan.domains
unfolding first_colourless
none_colourless plan valid zero domain all = omega arith
none_colourless plan valid (suc left) domain all =
    let some : 1 ≤ colours_at plan domain = (declared plan domain valid (omega arith)).colour in
    rw (ne_eqb (colours_at plan domain) 0 (λ none. omega arith), first_colourless) (none_colourless plan valid left (domain + 1) (omega arith))

-- nothing is lacking
none_lacking : (plan : Plan) → plan_valid plan ≡ true → lacking (unmasked plan) ≡ false
none_lacking plan valid =
    let count = counts plan valid in
    rw (
      ne_eqb plan.pad 0 (λ none. omega arith),
      ne_eqb plan.domains 0 (λ none. omega arith),
      ne_eqb plan.windows 0 (λ none. omega arith),
      ne_eqb plan.run 0 (λ none. omega arith),
    )

pub accepted :
    (plan : Plan) (counts named : List ℕ) (text_length : ℕ)
    → plan_valid plan ≡ true
    → Quiet plan.domains named
    → final_verdict text_length (draft_with (unmasked plan) counts named) ≡ Ok tt
unfolding final_verdict shares_verdict shares_total first_colour ticks_total
accepted plan counts named text_length valid quiet =
    let sound = parts plan valid in
    rw (
      none_lacking plan valid,
      none_undeclared named plan.domains quiet (most_domains - plan.domains) plan.domains (omega arith),
      le-ltb most_shares (shares_total plan plan.domains) sound.shares,
      le-ltb domain_colours (colours_total plan) sound.colours,
      none_colourless plan valid plan.domains 0 (omega arith),
      le-ltb plan.domains plan.domains (omega arith),
      le-ltb most_run_ticks (ticks_total plan) sound.ticks,
    )
