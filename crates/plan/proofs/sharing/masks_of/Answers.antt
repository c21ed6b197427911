-- `plan::sharing::masks_of` meets its contract. Assumes nothing.
use mathlib.Core.Bool.{cond}
use mathlib.Core.List.{List}
use mathlib.Core.Path.{◌∙◌, ◌≡◌, ap, ap₂, refl}
use Prim.Native.Nat.{◌+◌, ◌<◌, ◌≤◌, ℕ}
use native.Mathlib.Omega.{arith}
use lib.Dec.{ltb}
use lib.ListN.{length-set}
use Rattle.plan.specs.Colours.{first_colour, mask_from, mask_of}
use Rattle.plan.specs.Sums.{sum_to}
use Rattle.plan.specs.Limits.{domain_colours}
use Rattle.plan.proofs.MaskLists.{masks_are}
use Rattle.plan.proofs.Sums.{filled_more, filled_none, sum_mono, sum_more}
use Rattle.plan.proofs.sharing.masks_of.Invariants.{colours_by, mask_by}
use Rattle.plan.proofs.sharing.masks_of.Goals as goal

-- the colours up to a declared domain, its own among them, are no more than there are
within_colours :
    (shares : List ℕ) (domains domain first count : ℕ)
    → sum_to (colours_by shares) domains ≤ domain_colours
    → domain < domains
    → first ≡ sum_to (colours_by shares) domain
    → count ≡ colours_by shares domain
    → first + count ≤ domain_colours
within_colours shares domains domain first count total below so_far own =
    let next = sum_more (colours_by shares) first domain so_far in
    let more = sum_mono (colours_by shares) (domain + 1) domains (omega arith) in
    omega arith

pub loop-i-init : goal.loop-i-init
unfolding sum_to
loop-i-init c = (refl, refl, filled_none _)

pub mask_from-requires : goal.mask_from-requires
unfolding first_colour
mask_from-requires c =
    within_colours c.args.plan.shares c.args.plan.domains _ _ _ c.requires.1 (omega arith) c.loop-i.invariant.0 c.colours_of-count.ensures

pub overflow_add-first : goal.overflow_add-first
unfolding first_colour
overflow_add-first c =
    let fits = within_colours c.args.plan.shares c.args.plan.domains _ _ _ c.requires.1 (omega arith) c.loop-i.invariant.0 c.colours_of-count.ensures in
    omega arith

pub loop-i-preserved : goal.loop-i-preserved
loop-i-preserved c =
    let loop = c.loop-i in
    let rule = mask_by c.args.plan.shares in
    let mask : c.mask_from.result ≡ rule loop.i =
    c.mask_from.ensures ∙ ap₂ mask_from loop.invariant.0 c.colours_of-count.ensures in (
      ap (λ (n : ℕ). loop.first + n) c.colours_of-count.ensures ∙ sum_more _ _ loop.i loop.invariant.0,
      simp length-set loop.invariant.1,
      rw mask (filled_more rule loop.masks loop.i loop.invariant.1 (omega arith) loop.invariant.2),
    )

pub returns : goal.returns
unfolding mask_of first_colour
returns c =
    let loop = c.loop-i in
    let plan = c.args.plan in
    let ended : loop.i ≡ plan.domains = omega arith in
    masks_are plan loop.masks loop.invariant.1
    (λ index below. loop.invariant.2 index below ∙ ap (λ (n : ℕ). cond (ltb index n) (mask_by plan.shares index) 0) ended)
