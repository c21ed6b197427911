-- Which calls on a list's own things are refused after it: a step or a run where the script store has not
-- `scripts_length` numbers, a log query where the domain is not declared, and no other. Assumes nothing.
use Rattle.std.specs.Prelude.{Ok, Err}
use Prim.Native.Nat.{ℕ, ◌<◌}
use mathlib.Core.Bool.{true}
use mathlib.Core.List.{List}
use mathlib.Core.Path.{◌≡◌, sym, ap, subst, ◌∙◌}
use lib.ListN.{length}
use Rattle.plan.specs.declared.Plan.{Plan}
use Rattle.plan.specs.Validity.{plan_valid}
use Rattle.script.specs.Limits.{scripts_length}
use Rattle.records.specs.Records.{part_records}
use Rattle.state.specs.StateValidity.{state_valid}
use Rattle.state.specs.World.{World}
use Rattle.reachable.proofs.Reached.{log_length_lem, state_is_valid}
use Rattle.refusal.specs.Code.{code_of}
use Rattle.refusal.specs.declared.Refusal.TheVariants.{WrongDomain}
use Rattle.engine.specs.LogQuery.{log_status_of}
use Rattle.engine.specs.Checks.{run_verdict}
use Rattle.machine.specs.Fresh.{fresh_world}
use Rattle.engine.specs.Running.{step_call_of}
use Rattle.engine.proofs.FreshRuns.{reached_accepted}
use Rattle.engine.proofs.Passing.{log_query_passes}
use Rattle.isolation.specs.Calls.{Admissible, AllOwn, Call, CallList, IsList, LogThings, RunThings}
use Rattle.isolation.specs.Calls.{leaves_of, point_of, refused_code, verdict_after, verdict_of}
use Rattle.isolation.specs.Calls.{log_answer, log_call, log_status, run_answer, run_call, step_answer, step_call}
use Rattle.isolation.specs.Points.{FreshRun, world_after}
use Rattle.isolation.specs.Statement.{run_of_list}
use Rattle.isolation.proofs.OneRun.Calls.{all_own, all_own_log}
use Rattle.isolation.proofs.OneRun.Leaves.{leaves, list_valid}
use Rattle.isolation.proofs.OneRun.Verdicts.{run_verdict_lem, wrong_domain, wrong_store}

-- ---- a world of a run passes the checks

module _ (run : FreshRun) (count : ℕ) (possible : plan_valid run.plan ≡ true) where
  state_passes : state_valid run.plan (part_records run.plan (length (world_after run count).log)) (world_after run count).state ≡ true
  unfolding world_after fresh_world
  state_passes =
      subst (λ long. state_valid run.plan (part_records run.plan long) (world_after run count).state ≡ true)
      (sym (log_length_lem run.plan run.scripts run.log count possible))
      (state_is_valid run.plan run.scripts run.log count possible)

  pub run_verdict_accepted : length run.scripts ≡ scripts_length
      → run_verdict run.plan run.scripts (world_after run count) ≡ Ok tt
  unfolding world_after
  run_verdict_accepted store = reached_accepted run.plan run.scripts run.log count possible store

  pub log_query_accepted : (domain : ℕ) → domain < run.plan.domains
      → log_status_of run.plan (world_after run count).state (world_after run count).log domain ≡ Ok tt
  log_query_accepted domain declared = log_query_passes run.plan _ _ domain possible state_passes declared

  log_query_refused : (domain : ℕ) → (domain < run.plan.domains → ⊥)
      → log_status_of run.plan (world_after run count).state (world_after run count).log domain ≡ Err (WrongDomain 0)
  log_query_refused domain undeclared = wrong_domain run.plan _ _ domain possible state_passes undeclared

-- ---- a call that is handed the list's own things

-- its verdict on a world is that of the checks on that world
module _ (plan : Plan) (scripts : List ℕ) (world : World) where
  own_step : (things : RunThings) → AllOwn (step_call things)
      → verdict_of plan scripts (step_call things) world ≡ run_verdict plan scripts world
  unfolding verdict_of step_answer step_call_of
  own_step things owned =
      ap (λ handed-things. verdict_of plan scripts (step_call handed-things) world) (all_own things owned) ∙ run_verdict_lem plan scripts world 1

  own_run : (things : RunThings) (limit : ℕ) → AllOwn (run_call things limit)
      → verdict_of plan scripts (run_call things limit) world ≡ run_verdict plan scripts world
  unfolding verdict_of run_answer
  own_run things limit owned =
      ap (λ handed-things. verdict_of plan scripts (run_call handed-things limit) world) (all_own things owned) ∙ run_verdict_lem plan scripts world limit

  own_log_query : (things : LogThings) (domain : ℕ) → AllOwn (log_call things domain)
      → log_answer plan scripts things domain world ≡ log_status_of plan world.state world.log domain
  unfolding log_answer
  own_log_query things domain owned = ap (λ handed-things. log_answer plan scripts handed-things domain world) (all_own_log things owned)

-- ---- a call after a list

module _ (list : CallList) (is : IsList list) where
  -- a query for a declared domain's log is not refused after any list
  pub queried : (domain : ℕ) → domain < list.plan.domains
      → log_status_of list.plan (leaves_of list).state (leaves_of list).log domain ≡ Ok tt
  queried domain declared =
      subst (λ world. log_status_of list.plan world.state world.log domain ≡ Ok tt) (sym (leaves list is))
      (log_query_accepted (run_of_list list) (point_of list) (list_valid list is) domain declared)

  own_verdict : length list.scripts ≡ scripts_length
      → run_verdict list.plan list.scripts (leaves_of list) ≡ Ok tt
  own_verdict store =
      subst (λ world. run_verdict list.plan list.scripts world ≡ Ok tt) (sym (leaves list is))
      (run_verdict_accepted (run_of_list list) (point_of list) (list_valid list is) store)

  -- and for an undeclared one's it is
  not_queried : (domain : ℕ) → (domain < list.plan.domains → ⊥)
      → log_status_of list.plan (leaves_of list).state (leaves_of list).log domain ≡ Err (WrongDomain 0)
  not_queried domain undeclared =
      subst (λ world. log_status_of list.plan world.state world.log domain ≡ Err (WrongDomain 0)) (sym (leaves list is))
      (log_query_refused (run_of_list list) (point_of list) (list_valid list is) domain undeclared)

  -- an admissible call on the list's own things is not refused
  pub own_accepted : (call : Call) → AllOwn call → Admissible list.plan list.scripts call
      → verdict_after list call ≡ Ok tt
  unfolding verdict_of
  own_accepted (step_call things) owned store = own_step list.plan list.scripts (leaves_of list) things owned ∙ own_verdict store
  own_accepted (run_call things limit) owned store = own_run list.plan list.scripts (leaves_of list) things limit owned ∙ own_verdict store
  own_accepted (log_call things domain) owned declared =
      own_log_query list.plan list.scripts (leaves_of list) things domain owned ∙ queried domain declared
  own_accepted (log_status things domain) owned declared =
      own_log_query list.plan list.scripts (leaves_of list) things domain owned ∙ queried domain declared

  -- and any other is, with 11, 0 or with 4, 0
  pub own_refused : (call : Call) → AllOwn call → (Admissible list.plan list.scripts call → ⊥)
      → code_of (verdict_after list call) ≡ refused_code call
  unfolding verdict_of
  own_refused (step_call things) owned differs =
      ap code_of
      (own_step list.plan list.scripts (leaves_of list) things owned
      ∙ wrong_store list.plan list.scripts (leaves_of list) differs)
  own_refused (run_call things limit) owned differs =
      ap code_of
      (own_run list.plan list.scripts (leaves_of list) things limit owned
      ∙ wrong_store list.plan list.scripts (leaves_of list) differs)
  own_refused (log_call things domain) owned undeclared =
      ap code_of (own_log_query list.plan list.scripts (leaves_of list) things domain owned ∙ not_queried domain undeclared)
  own_refused (log_status things domain) owned undeclared =
      ap code_of (own_log_query list.plan list.scripts (leaves_of list) things domain owned ∙ not_queried domain undeclared)
