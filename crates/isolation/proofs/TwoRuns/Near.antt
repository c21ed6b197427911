-- Two worlds, for every domain that a predicate names: the same outside its windows, and in a window of one of them
-- also the same inside. What one step leaves of that. Assumes nothing.
use Prim.Native.Nat.{ℕ, ◌<◌}
use mathlib.Core.Bool.{true}
use mathlib.Core.List.{List}
use mathlib.Core.Path.{◌≡◌, sym, ap, subst, ◌∙◌}
use native.Mathlib.Decide.{ℕ_discrete}
use Rattle.plan.specs.declared.Plan.{Plan}
use Rattle.plan.specs.Limits.{most_domains}
use Rattle.plan.specs.Validity.{plan_valid}
use Rattle.plan.specs.Windows.{window_owner}
use Rattle.ops.specs.Ops.{box_index}
use Rattle.state.specs.World.{World, running_of}
use Rattle.machine.specs.Steps.{step_of}
use Rattle.machine.specs.Switch.{switch_of}
use Rattle.isolation.specs.Statement.{ScriptsAgree}
use Rattle.isolation.proofs.TwoRuns.OpStep.{Ready, Whole, switch_away}
use Rattle.isolation.proofs.TwoRuns.Relations.{Alike, Close, alike_refl, alike_sym, alike_trans}
use Rattle.isolation.proofs.TwoRuns.Step.{Together, both, step_alike, step_away, still}

module _ (plan : Plan) (quota : ℕ) (Named : ℕ → Type 0) where
  -- the same for every named domain, outside its windows
  abbrev pub Near : World → World → Type 0
  Near one other = (domain : ℕ) → Named domain → Alike plan quota domain one other

  -- and inside the window of one of them
  pub record Locked (Kept : ℕ → Type 0) (running : ℕ) (one other : World) : Type 0 where
    pub near : Near one other
    pub close : Close plan quota running Kept one other

  -- both did an op, or both switched
  pub data Paired (Kept : ℕ → Type 0) (running : ℕ) (one other next next' : World) : Type 0 where
    worked : Locked Kept running next next' → Paired Kept running one other next next'
    switched : next ≡ switch_of plan one → next' ≡ switch_of plan other → Paired Kept running one other next next'

  pub near_refl : (world : World) → Near world world
  near_refl world domain named = alike_refl plan quota domain world

  pub near_trans : (one two three : World) → Near one two → Near two three → Near one three
  near_trans one two three a b domain named = alike_trans plan quota domain (a domain named) (b domain named)

  -- worlds that came from near ones, each staying near where it came from
  pub near_both : (one other next next' : World) → Near one other → Near one next → Near other next' → Near next next'
  near_both one other next next' a b c domain named =
      alike_trans plan quota domain (alike_sym plan quota domain (b domain named))
      (alike_trans plan quota domain (a domain named) (c domain named))

  module _ (possible : plan_valid plan ≡ true) (declared : (domain : ℕ) → Named domain → domain < plan.domains) where
    -- a step in the window of a domain that is not named
    pub near_step : (scripts : List ℕ) (world : World) → Ready plan world → (Named (running_of plan world.state) → ⊥)
        → Near world (step_of plan scripts quota world)
    near_step scripts world ready unnamed domain named =
        step_away plan scripts quota domain world possible (declared domain named)
        (λ e. unnamed (subst Named e named)) ready

    pub near_switch : (world : World) → Whole world → Near world (switch_of plan world)
    near_switch world whole domain named = switch_away plan quota domain possible (declared domain named) world whole

    -- a step in the window of a named domain
    module _ (scripts scripts' : List ℕ) (same : ScriptsAgree Named scripts scripts') {Kept : ℕ → Type 0}
        (to : (domain : ℕ) → Named domain → (sender : ℕ) → sender < most_domains → Kept (box_index sender domain)) where
      pub locked_step : (running : ℕ) (one other : World) → Named running → running_of plan one.state ≡ running
          → Ready plan one → Ready plan other
          → Locked Kept running one other
          → Paired Kept running one other (step_of plan scripts quota one) (step_of plan scripts' quota other)
      locked_step running one other named runs ready ready' lock =
          go (step_alike plan quota running (to running named) lock.close runs scripts scripts' (same running named) ready)
        where
          runs' : running_of plan other.state ≡ running
          runs' = ap (window_owner plan) (sym lock.close.windows) ∙ runs

          -- the running domain by the step itself, every other one by keeping away
          all : Close plan quota running Kept (step_of plan scripts quota one) (step_of plan scripts' quota other)
              → (domain : ℕ) → Named domain → Dec (domain ≡ running)
              → Alike plan quota domain (step_of plan scripts quota one) (step_of plan scripts' quota other)
          all close domain n (yes e) = rw e close.outside
          all close domain n (no ne) =
              let away =
              step_away plan scripts quota domain one possible (declared domain n)
              (λ e. ne (e ∙ runs)) ready
              in
              let away' =
              step_away plan scripts' quota domain other possible (declared domain n)
              (λ e. ne (e ∙ runs')) ready'
              in
              alike_trans plan quota domain (alike_sym plan quota domain away)
              (alike_trans plan quota domain (lock.near domain n) away')

          go : Together plan quota running Kept one other (step_of plan scripts quota one) (step_of plan scripts' quota other)
              → Paired Kept running one other (step_of plan scripts quota one) (step_of plan scripts' quota other)
          go (still close) = worked (record { near = λ domain n. all close domain n (ℕ_discrete domain running); close = close })
          go (both e e') = switched e e'
