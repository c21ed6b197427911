-- Running with only one domain's log answers and leaves what running does, with that domain's part for the log. Assumes
-- nothing.
use Rattle.std.specs.Prelude.{Ok, Err}
use Prim.Native.Nat.{ℕ, ◌*◌, ◌≤◌, ◌<◌}
use mathlib.Core.List.{List}
use mathlib.Core.Path.{◌≡◌, refl, ap, ◌∙◌}
use native.Mathlib.Omega.{arith}
use lib.ListN.{length}
use borrow.Author.Tests.{eq-eqb, lt-ltb}
use Rattle.lists.proofs.Parts.{part_length}
use Rattle.plan.specs.declared.Plan.{Plan}
use Rattle.records.specs.Records.{log_part, part_records, record_index, record_size}
use Rattle.records.proofs.Parts.{parts_fit}
use Rattle.records.proofs.Places.{part_ends}
use Rattle.state.specs.World.{World}
use Rattle.machine.specs.Keeping.{kept_effect, kept_world}
use Rattle.machine.specs.Steps.{RunEffect, run_of}
use Rattle.machine.proofs.Keeping.{kept_runs_alike}
use Rattle.engine.specs.Checks.{kept_verdict, run_verdict}
use Rattle.engine.specs.Keeping.{KeptCallsAlike, kept_call_of, kept_outcome}
use Rattle.engine.specs.Running.{outcome_from, ran_from, run_call_of}
use Rattle.refusal.specs.Verdict.{Verdict}

-- a declared domain's part is as long as its records
pub whole_part_lem : (plan : Plan) (quota domain : ℕ) (log : List ℕ) → domain < plan.domains → quota ≡ part_records plan (length log)
    → length (log_part quota domain quota log) ≡ record_size * quota
unfolding log_part
whole_part_lem plan quota domain log declared parts =
    let fits : record_size * (quota * plan.domains) ≤ length log = rw parts (parts_fit plan (length log)) in
    part_length (record_index quota domain 0) (record_size * quota) log
    (omega (arith, part_ends quota plan.domains domain (length log) declared fits))

module _ (plan : Plan) (scripts : List ℕ) (world : World) (limit domain quota : ℕ)
    (declared : domain < plan.domains) (parts : quota ≡ part_records plan (length world.log)) where
  -- the verdict is the same
  same_verdict : kept_verdict plan scripts domain quota (kept_world quota domain world) ≡ run_verdict plan scripts world
  unfolding kept_verdict run_verdict
  same_verdict =
      rw (
        eq-eqb _ _ (whole_part_lem plan quota domain world.log declared parts),
        lt-ltb domain plan.domains declared,
        parts,
        kept_verdict,
      )
      refl

  by_verdict : (verdict : Verdict)
      → outcome_from verdict plan (kept_effect quota domain (run_of plan scripts quota limit world)) (kept_world quota domain world)
      ≡ kept_outcome quota domain (outcome_from verdict plan (run_of plan scripts quota limit world) world)
  unfolding ran_from
  by_verdict (Ok tt) = refl
  by_verdict (Err refusal) = refl

  call_alike : kept_call_of plan scripts domain quota (kept_world quota domain world) limit
      ≡ kept_outcome quota domain (run_call_of plan scripts world limit)
  unfolding kept_call_of run_call_of
  call_alike =
      ap (λ (ran : RunEffect). outcome_from (kept_verdict plan scripts domain quota (kept_world quota domain world)) plan ran (kept_world quota domain world))
      (kept_runs_alike.alike plan scripts quota domain limit world)
      ∙ ap
      (λ (verdict : Verdict).
      outcome_from verdict plan (kept_effect quota domain (run_of plan scripts quota limit world)) (kept_world quota domain world))
      same_verdict
      ∙ by_verdict (run_verdict plan scripts world)
      ∙ ap
      (λ (n : ℕ). kept_outcome quota domain (outcome_from (run_verdict plan scripts world) plan (run_of plan scripts n limit world) world))
      parts

pub kept_calls_alike : KeptCallsAlike
kept_calls_alike plan scripts world limit domain quota declared parts =
    call_alike plan scripts world limit domain quota declared parts
