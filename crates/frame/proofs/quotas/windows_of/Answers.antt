-- `frame::quotas::windows_of` meets its contract. The loop's invariant: the array is filled for the domains passed.
-- Assumes nothing.
use mathlib.Core.Bool.{cond}
use mathlib.Core.Path.{◌∙◌, ◌≡◌, ap, refl}
use Prim.Native.Nat.{ℕ}
use native.Mathlib.Omega.{arith}
use lib.Dec.{ltb}
use lib.ListN.{length-set}
use Rattle.plan.specs.Limits.{most_domains}
use Rattle.plan.proofs.Sums.{filled_more, filled_none, number_of}
use Rattle.frame.specs.Quotas.{entry_of, ahead_of}
use Rattle.frame.proofs.Counting.{filled_all}
use Rattle.frame.proofs.Shares.{worked_fit, worked_most, worked_windows}
use Rattle.frame.proofs.Taken.{taken}
use Rattle.frame.proofs.quotas.windows_of.Goals as goal

pub leftover_of-left-requires : goal.leftover_of-left-requires
leftover_of-left-requires c =
    let start = c in
    worked_fit start.args.count start.args.weights _ _ c.quotas_of-quotas.ensures (taken _ _ start.requires).total

pub loop-domain-init : goal.loop-domain-init
loop-domain-init c = (refl, filled_none _)

pub overflow_add-windows : goal.overflow_add-windows
overflow_add-windows c =
    let start = c in
    let facts = taken _ _ start.requires in
    let most = worked_most start.args.count start.args.weights _ _
    c.quotas_of-quotas.ensures _ c.loop-domain.domain _ _
    facts.total c.leftover_of-left.ensures (omega arith)
    c.ahead_of-ahead.ensures (c.from.ensures ∙ number_of _) in
    omega (arith, facts.most)

pub loop-domain-preserved : goal.loop-domain-preserved
loop-domain-preserved c =
    let loop = c.loop-domain in
    let left = c.leftover_of-left.result in
    let remainders = c.quotas_of-quotas.result.remainders in
    let more : c.from.result ≡ cond (ltb (ahead_of (entry_of remainders) loop.domain) left) 1 0 =
    c.from.ensures ∙ number_of _ ∙ ap (λ (ahead : ℕ). cond (ltb ahead left) 1 0) c.ahead_of-ahead.ensures in (
      simp length-set loop.invariant.0,
      rw more (filled_more _ loop.windows loop.domain loop.invariant.0 (omega arith) loop.invariant.1),
    )

pub returns : goal.returns
returns c domain below =
    let loop = c.loop-domain in
    let start = c in
    let ended : loop.domain ≡ most_domains = omega arith in
    filled_all _ loop.windows loop.domain loop.invariant.1 ended domain below
    ∙ worked_windows start.args.count start.args.weights _ _ c.quotas_of-quotas.ensures _ domain
    c.leftover_of-left.ensures below

pub quotas_of-quotas-requires : goal.quotas_of-quotas-requires
quotas_of-quotas-requires c = c.requires
