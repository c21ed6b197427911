-- `state::table_validity::tables_valid` meets its contract. Assumes nothing.
use mathlib.Core.Path.{ap, refl, sym}
use Prim.Native.Nat.{ℕ}
use native.Mathlib.Omega.{arith}
use lib.Dec.{leb}
use Rattle.state.specs.TableValidity.{tables_valid}
use Rattle.state.specs.World.{ended_of}
use Rattle.plan.proofs.ValidPlans.{counts}
use Rattle.plan.proofs.Windows.{domains_most, owner_declared}
use Rattle.plan.specs.Colours.{mask_at}
use Rattle.state.proofs.table_validity.tables_valid.Goals as goal

pub windows_total-total-requires : goal.windows_total-total-requires
windows_total-total-requires c = let count = counts _ c.requires.0 in (count.run_most, count.windows_most)

pub bounds-masks-owner : goal.bounds-masks-owner
bounds-masks-owner c =
    let start = c in
    let plan = start.args.plan in
    omega (arith, owner_declared plan start.args.state.windows start.requires.0, domains_most plan start.requires.0)

pub returns : goal.returns
unfolding tables_valid ended_of
returns c =
    let calls = c in
    let start = calls in
    let plan = start.args.plan in
    let state = start.args.state in
    let ended = ap (λ (total : ℕ). leb total state.windows) (sym calls.windows_total-total.ensures) in
    let mask = ap (mask_at plan) (sym calls.window_owner-owner.ensures) in
    let l1 = c.l1_valid-l1.ensures plan state ended mask in
    rw (l1, c.sets_valid-l2.ensures, c.boxes_valid-full.ensures plan refl) refl
