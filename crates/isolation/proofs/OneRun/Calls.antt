-- One call on a list's own world: a refused call leaves it, and any other leaves as many steps as it asks for. Assumes
-- nothing.
use Prim.Native.Nat.{ℕ}
use mathlib.Core.Bool.{Bool, true, false, cond, false≢true}
use mathlib.Core.List.{List}
use mathlib.Core.Logic.{◌⊎◌, inl, inr}
use mathlib.Core.Path.{◌≡◌, refl, sym, ap, subst, ◌∙◌}
use lib.ListN.{length}
use Rattle.plan.specs.declared.Plan.{Plan}
use Rattle.records.specs.Records.{part_records}
use Rattle.state.specs.World.{World}
use Rattle.machine.specs.Steps.{run_by, steps}
use Rattle.engine.specs.Running.{step_call_of}
use Rattle.isolation.specs.Calls.{AllOwn, Call, Handed, IsOwn, LogThings, OwnQuery, OwnRun, RunThings, foreign, own}
use Rattle.isolation.specs.Calls.{handed, handed_world, left_in, left_world, log_call, log_status, run_call, step_call}
use Rattle.isolation.specs.Calls.{after_call, is_refused, run_answer, step_answer, steps_asked, steps_counted, verdict_of}
use Rattle.isolation.proofs.OneRun.Verdicts.{run_accepted, run_refused}

-- a thing that a call left as it was handed leaves the list's own as it was
pub left_same : {A : Type 0} (thing : Handed A) (value : A) → left_in thing value (handed thing value) ≡ value
left_same own value = refl
left_same (foreign other) value = refl

pub is_own : {A : Type 0} (thing : Handed A) → IsOwn thing → thing ≡ own
is_own own owned = refl
is_own (foreign other) owned = absurd owned

-- everything that a step or a run takes is the list's own
abbrev pub own_things : RunThings
own_things = record { plan = own; scripts = own; state = own; cache = own; boxes = own; log = own }

pub all_own : (things : RunThings) → OwnRun things → things ≡ own_things
all_own things owned =
    let plan = is_own things.plan owned.0 in
    let scripts = is_own things.scripts owned.1 in
    let state = is_own things.state owned.2 in
    let cache = is_own things.cache owned.3 in
    let boxes = is_own things.boxes owned.4 in
    let log = is_own things.log owned.5 in
    λ i. record { plan = plan i; scripts = scripts i; state = state i; cache = cache i; boxes = boxes i; log = log i }

-- things that a call left as they were handed leave the list's own world
pub left_handed : (things : RunThings) (world left : World) → left ≡ handed_world things world
    → left_world things world left ≡ world
left_handed things world left same =
    ap (left_world things world) same
    ∙ (λ i.
    record {
      state = left_same things.state world.state i;
      cache = left_same things.cache world.cache i;
      boxes = left_same things.boxes world.boxes i;
      log = left_same things.log world.log i;
    })

-- everything that a log query takes is the list's own
abbrev pub own_log_things : LogThings
own_log_things = record { plan = own; state = own; log = own }

pub all_own_log : (things : LogThings) → OwnQuery things → things ≡ own_log_things
all_own_log things owned =
    let plan = is_own things.plan owned.0 in
    let state = is_own things.state owned.1 in
    let log = is_own things.log owned.2 in
    λ i. record { plan = plan i; state = state i; log = log i }

module _ (plan : Plan) (scripts : List ℕ) where
  -- ---- a refused call leaves the list's own world

  pub refused_stays : (call : Call) (world : World) → is_refused (verdict_of plan scripts call world) ≡ true
      → after_call plan scripts call world ≡ world
  unfolding after_call verdict_of step_answer run_answer step_call_of
  refused_stays (step_call things) world refused = left_handed things world _ (run_refused _ _ _ 1 refused)
  refused_stays (run_call things limit) world refused = left_handed things world _ (run_refused _ _ _ limit refused)
  refused_stays (log_call things domain) world refused = refl
  refused_stays (log_status things domain) world refused = refl

  -- ---- any other call leaves as many steps as it asks for

  -- the number of records that a part of the world's log holds
  abbrev quota_of : World → ℕ
  quota_of world = part_records plan (length world.log)

  own_step : (world : World) → is_refused (verdict_of plan scripts (step_call own_things) world) ≡ false
      → after_call plan scripts (step_call own_things) world ≡ steps plan scripts (quota_of world) 1 world
  unfolding after_call verdict_of step_answer step_call_of
  own_step world accepted = run_accepted plan scripts world 1 accepted

  own_run : (limit : ℕ) (world : World) → is_refused (verdict_of plan scripts (run_call own_things limit) world) ≡ false
      → after_call plan scripts (run_call own_things limit) world ≡ steps plan scripts (quota_of world) limit world
  unfolding after_call verdict_of run_answer
  own_run limit world accepted = run_accepted plan scripts world limit accepted

  -- a call that was not refused was handed the list's own things
  accepted_steps : (call : Call) (world : World) → is_refused (verdict_of plan scripts call world) ≡ false → AllOwn call
      → after_call plan scripts call world ≡ steps plan scripts (quota_of world) (steps_asked call) world
  unfolding after_call run_by
  accepted_steps (step_call things) world accepted owned =
      subst (λ handed-things. is_refused (verdict_of plan scripts (step_call handed-things) world) ≡ false
      → after_call plan scripts (step_call handed-things) world ≡ steps plan scripts (quota_of world) 1 world)
      (sym (all_own things owned)) (own_step world) accepted
  accepted_steps (run_call things limit) world accepted owned =
      subst (λ handed-things. is_refused (verdict_of plan scripts (run_call handed-things limit) world) ≡ false
      → after_call plan scripts (run_call handed-things limit) world ≡ steps plan scripts (quota_of world) limit world)
      (sym (all_own things owned)) (own_run limit world) accepted
  accepted_steps (log_call things domain) world accepted owned = refl
  accepted_steps (log_status things domain) world accepted owned = refl

  -- a call leaves as many steps as it counts
  pub call_steps : (call : Call) (world : World)
      → (is_refused (verdict_of plan scripts call world) ≡ true) ⊎ AllOwn call
      → after_call plan scripts call world ≡ steps plan scripts (quota_of world) (steps_counted plan scripts call world) world
  unfolding steps_counted run_by
  call_steps call world proper = go (is_refused (verdict_of plan scripts call world)) refl proper
    where
      go : (refused : Bool) → is_refused (verdict_of plan scripts call world) ≡ refused
          → (is_refused (verdict_of plan scripts call world) ≡ true) ⊎ AllOwn call
          → after_call plan scripts call world ≡ steps plan scripts (quota_of world) (cond refused 0 (steps_asked call)) world
      go true test proper' = refused_stays call world test
      go false test (inl refused) = absurd (false≢true (sym test ∙ refused))
      go false test (inr owned) = accepted_steps call world test owned
