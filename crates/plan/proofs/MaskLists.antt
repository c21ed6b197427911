-- The masks due, index by index and as one list. Assumes nothing.
use Prim.Native.Nat.{ℕ, zero, suc, ◌+◌, ◌<◌}
use native.Mathlib.Nat.{add-zero, zero-add}
use native.Mathlib.Omega.{arith}
use mathlib.Core.List.{List}
use mathlib.Core.Path.{◌≡◌, refl, sym, ap, ◌∙◌}
use lib.ListN.{length, get_or}
use lib.Seq.{ext_get_or}
use Rattle.plan.specs.declared.Plan.{Plan}
use Rattle.plan.specs.Colours.{colours_of, first_colour, mask_for, mask_from, mask_of, masks_from}
use Rattle.plan.specs.Sums.{sum_to}
use Rattle.plan.specs.Limits.{most_domains}

pub masks_length : (plan : Plan) (left domain : ℕ) → length (masks_from plan left domain) ≡ left
unfolding masks_from
masks_length plan zero domain = refl
masks_length plan (suc left) domain = ap suc (masks_length plan left (domain + 1))

-- the mask at an index of a part of the list
mask_past : (plan : Plan) (left domain index : ℕ) → index < left → get_or (masks_from plan left domain) index 0 ≡ mask_for plan (domain + index)
unfolding masks_from
mask_past plan zero domain index below = absurd (omega arith)
mask_past plan (suc left) domain zero below = ap (λ (n : ℕ). mask_for plan n) (sym (add-zero domain))
mask_past plan (suc left) domain (suc index) below =
    mask_past plan left (domain + 1) index (omega arith)
    ∙ ap (λ (n : ℕ). mask_for plan n) (let e : domain + 1 + index ≡ domain + suc index = omega arith in e)

pub mask_due : (plan : Plan) (domain : ℕ) → domain < most_domains → get_or (masks_from plan most_domains 0) domain 0 ≡ mask_for plan domain
mask_due plan domain below = mask_past plan most_domains 0 domain below ∙ ap (λ (n : ℕ). mask_for plan n) (zero-add domain)

-- eight numbers, each the mask due at its index, are the list
pub masks_are :
    (plan : Plan) (masks : List ℕ)
    → length masks ≡ most_domains
    → ((index : ℕ) → index < most_domains → get_or masks index 0 ≡ mask_for plan index)
    → masks ≡ masks_from plan most_domains 0
masks_are plan masks eight each =
    ext_get_or 0 masks (masks_from plan most_domains 0) (eight ∙ sym (masks_length plan most_domains 0)) (λ index below.
    let small : index < most_domains = omega arith in
    each index small ∙ sym (mask_due plan index small))

-- the mask that a share gives hangs on the shares alone
pub mask_alike : (one other : Plan) (domain : ℕ) → one.shares ≡ other.shares → mask_of one domain ≡ mask_of other domain
unfolding mask_of first_colour
mask_alike one other domain same =
    ap (λ (shares : List ℕ). mask_from (sum_to (λ (index : ℕ). colours_of (get_or shares index 0)) domain) (colours_of (get_or shares domain 0))) same
