-- `report::program::run_lines` meets its contract. Assumes nothing.
use mathlib.Core.Bool.{true}
use mathlib.Core.List.{List}
use mathlib.Core.Path.{◌∙◌, ◌≡◌, ap, refl, subst, sym}
use Prim.Native.Nat.{ℕ}
use native.Mathlib.Omega.{arith}
use lib.ListN.{length-replicate}
use Rattle.plan.specs.declared.Plan.{Plan}
use Rattle.plan.specs.Validity.{plan_valid}
use Rattle.engine.proofs.FreshRuns.{Left, run_left, started_fresh}
use Rattle.engine.specs.Running.{RunOutcome, run_call_of}
use Rattle.records.specs.Records.{part_records}
use Rattle.state.specs.StateValidity.{state_valid}
use Rattle.state.specs.World.{World}
use Rattle.machine.specs.View.{world_with}
use Rattle.report.specs.Limits.{largest_limit}
use Rattle.report.specs.Planrun.{lent_log, planrun_run, ran_lines}
use Rattle.lists.proofs.Stores.{wrote_as}
use Rattle.cache.specs.Lines.{empty_table}
use Rattle.ops.specs.Ops.{empty_boxes}
use Rattle.state.specs.declared.State.{State}
use Rattle.engine.specs.Answers.{fresh_with}
use Rattle.engine.specs.Checks.{fresh_verdict}
use Rattle.engine.specs.FreshStart.{FreshOutcome, fresh_from, fresh_start_of}
use Rattle.refusal.proofs.Passed.{not_refused}
use Rattle.state.specs.World.{fresh_state}
use Rattle.std.specs.Prelude.{Err, IsOk, Ok, Result}
use borrow.Author.Rules.{rules}
use Rattle.engine.specs.Answers.{run_with}
use Rattle.engine.specs.declared.Answer.{Answer}
use Rattle.report.proofs.program.run_lines.Goals as goal
use Rattle.refusal.specs.Verdict.{Verdict}
use Rattle.refusal.specs.declared.Refusal.{Refusal}

-- a fresh start under a possible plan, on tables of the right lengths, is not refused
taken :
    (plan : Plan) (started : Result State Refusal) (cache boxes : List ℕ)
    → plan_valid plan ≡ true
    → ((old : State) → fresh_with started old cache boxes ≡ fresh_start_of plan old empty_table empty_boxes)
    → IsOk started
unfolding fresh_start_of fresh_verdict
taken plan (Ok fresh) cache boxes possible did = search rules
taken plan (Err refusal) cache boxes possible did =
    let accepted : fresh_verdict plan empty_table empty_boxes ≡ Ok tt = rw possible in
    let started = did fresh_state ∙ ap (λ (v : Verdict). fresh_from v fresh_state empty_table empty_boxes) accepted in
    absurd (not_refused refusal (ap (λ (f : FreshOutcome). f.verdict) started))

-- a run's answer lays out the state and the tables that are left, refused or not
left_is :
    (ran : Result Answer Refusal) (state : State) (cache boxes log : List ℕ)
    → (run_with ran state cache boxes log).world ≡ world_with state cache boxes log
left_is (Ok answer) state cache boxes log = refl
left_is (Err refusal) state cache boxes log = refl

-- the run starts from a fresh start, so it leaves what the definition says
world_is :
    (plan : Plan) (scripts : List ℕ) (fresh : State) (cache boxes : List ℕ) (ran : Result Answer Refusal)
    (last : State) (lastCache lastBoxes log : List ℕ)
    → plan_valid plan ≡ true
    → ((old : State) → fresh_with (Ok fresh) old cache boxes ≡ fresh_start_of plan old empty_table empty_boxes)
    → run_with ran last lastCache lastBoxes log ≡ run_call_of plan scripts (world_with fresh cache boxes lent_log) largest_limit
    → world_with last lastCache lastBoxes log ≡ (planrun_run plan scripts).world
world_is plan scripts fresh cache boxes ran last lastCache lastBoxes log possible started did =
    sym (left_is ran last lastCache lastBoxes log)
    ∙ ap (λ (r : RunOutcome). r.world) did
    ∙ ap (λ (w : World). (run_call_of plan scripts w largest_limit).world)
    (started_fresh plan fresh fresh (Ok tt) cache boxes lent_log possible (started fresh))

-- and its state is valid
left_by :
    (plan : Plan) (scripts : List ℕ) (world : World)
    → plan_valid plan ≡ true
    → world ≡ (planrun_run plan scripts).world
    → Left plan lent_log world
left_by plan scripts world possible is =
    subst (Left plan lent_log) (sym is) (run_left plan scripts lent_log largest_limit possible)

pub unwrap-state-requires : goal.unwrap-state-requires
unwrap-state-requires c = taken c.args.plan _ _ _ c.requires c.fresh_start.ensures

pub write_run-requires : goal.write_run-requires
write_run-requires c =
    let plan = c.args.plan in
    let ran = c.run in
    let fresh = c.unwrap-state.result in
    let started = λ (old : State).
    ap (λ (s : Result State Refusal). fresh_with s old c.fresh_start.new.cache c.fresh_start.new.boxes) (sym c.unwrap-state.ensures)
    ∙ c.fresh_start.ensures old in
    let is =
    world_is plan c.args.scripts.now fresh _ _ ran.result ran.new.state ran.new.cache ran.new.boxes ran.new.log c.requires started ran.ensures in
    let left = left_by plan c.args.scripts.now _ c.requires is in (
      c.requires,
      ap (λ (n : ℕ). state_valid plan (part_records plan n) ran.new.state) left.long
          ∙ left.possible,
      rw left.long (rw length-replicate (omega arith)),
    )

pub returns : goal.returns
unfolding ran_lines
returns c =
    let plan = c.args.plan in
    let ran = c.run in
    let fresh = c.unwrap-state.result in
    let started = λ (old : State).
    ap (λ (s : Result State Refusal). fresh_with s old c.fresh_start.new.cache c.fresh_start.new.boxes) (sym c.unwrap-state.ensures)
    ∙ c.fresh_start.ensures old in
    let is =
    world_is plan c.args.scripts.now fresh _ _ ran.result ran.new.state ran.new.cache ran.new.boxes ran.new.log c.requires started ran.ensures in
    wrote_as _ 0 (ap (λ (w : World). ran_lines plan w) is) c.write_run.ensures
