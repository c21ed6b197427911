-- `latest::witness::written_ticks` meets its contract. Assumes nothing.
use mathlib.Core.Path.{◌≡◌, refl}
use Prim.Native.Nat.{ℕ, ◌+◌, ◌*◌, ◌≤◌}
use native.Mathlib.Omega.{arith}
use Rattle.cache.specs.Access.{miss_ticks}
use Rattle.latest.specs.Limits.{least_latest_length}
use Rattle.plan.specs.declared.Plan.{Plan}
use Rattle.latest.specs.Bounds.{Fitting}
use Rattle.latest.specs.Reach.{own_indices}
use Rattle.latest.specs.Script.{opening_ticks, replacing_ticks, written_ticks}
use Rattle.latest.proofs.Ranges.{domain_below, written_most}
use Rattle.latest.proofs.witness.written_ticks.Goals as goal

-- the sum is less than the shortest window, and so is each of its parts
fits :
    (plan : Plan) (domain opening own replacing : ℕ)
    → Fitting plan domain
    → opening ≡ opening_ticks plan domain
    → own ≡ own_indices plan domain
    → replacing ≡ replacing_ticks plan domain
    → opening + (miss_ticks * own + replacing) ≤ least_latest_length
unfolding written_ticks
fits plan domain opening own replacing fitting opens owns replaces =
    let is : opening + (miss_ticks * own + replacing) ≡ written_ticks plan domain = rw (opens, owns, replaces) refl in
    omega (arith, is, written_most plan domain fitting)

pub opening_ticks-opening-requires : goal.opening_ticks-opening-requires
opening_ticks-opening-requires c = domain_below _ _ c.requires

pub returns : goal.returns
unfolding written_ticks
returns c =
    rw (c.opening_ticks-opening.ensures, c.own_indices-own.ensures, c.replacing_ticks-replacing.ensures) refl

pub overflow_mul-result : goal.overflow_mul-result
overflow_mul-result c =
    let most = fits _ _ _ _ _ c.requires c.opening_ticks-opening.ensures c.own_indices-own.ensures c.replacing_ticks-replacing.ensures in
    omega arith

pub overflow_add-result : goal.overflow_add-result
overflow_add-result c =
    let most = fits _ _ _ _ _ c.requires c.opening_ticks-opening.ensures c.own_indices-own.ensures c.replacing_ticks-replacing.ensures in
    omega arith

pub overflow_add-result-2 : goal.overflow_add-result-2
overflow_add-result-2 c =
    let most = fits _ _ _ _ _ c.requires c.opening_ticks-opening.ensures c.own_indices-own.ensures c.replacing_ticks-replacing.ensures in
    omega arith
