-- Document 01, "Two lists of calls": a list of calls after a fresh start, what each call was
-- handed, and what it answers and leaves, read off the definitions that the entry points' contracts
-- cite. Assumes nothing.
use Rattle.std.specs.Prelude.{ℕ, ◌+◌, ◌<◌, Bool, true, false, cond, not, List, [], ◌∷◌, ◌⊎◌, ◌≡◌, eqb, length}
use Rattle.plan.specs.declared.Plan.{Plan}
use Rattle.script.specs.Limits.{scripts_length}
use Rattle.state.specs.declared.State.{State}
use Rattle.state.specs.World.{World}
use Rattle.refusal.specs.declared.Code.{Code}
use Rattle.refusal.specs.Code.{code_of, code_with}
use Rattle.engine.specs.LogQuery.{log_status_of}
use Rattle.engine.specs.FreshStart.{FreshOutcome, fresh_start_of}
use Rattle.engine.specs.Running.{RunOutcome, run_call_of, step_call_of}
use Rattle.refusal.specs.Verdict.{Verdict}

-- a call was handed the list's own thing, as the last call left it, or any other
pub data Handed (A : Type 0) : Type 0 where
  own : Handed A
  foreign : A → Handed A

-- the value that a call was handed
abbrev pub handed : {A : Type 0} → Handed A → A → A
handed own value = value
handed (foreign other) value = other

-- the list's own thing after a call that left a value in what it was handed
abbrev pub left_in : {A : Type 0} → Handed A → A → A → A
left_in own value left = left
left_in (foreign other) value left = value

-- it was the list's own thing
abbrev pub IsOwn : {A : Type 0} → Handed A → Type 0
IsOwn own = Unit {0}
IsOwn (foreign other) = ⊥

-- what a step or a run takes, thing by thing
pub record RunThings : Type 0 where
  pub plan : Handed Plan
  pub scripts : Handed (List ℕ)
  pub state : Handed State
  pub cache : Handed (List ℕ)
  pub boxes : Handed (List ℕ)
  pub log : Handed (List ℕ)

-- what a log query and its status query take, besides a domain's number
pub record LogThings : Type 0 where
  pub plan : Handed Plan
  pub state : Handed State
  pub log : Handed (List ℕ)

-- the four calls that may follow: a single step; a running, with its limit; a query for a domain's
-- log; the status query beside it, which answers whether and why it is refused
pub data Call : Type 0 where
  step_call : RunThings → Call
  run_call : RunThings → ℕ → Call
  log_call : LogThings → ℕ → Call
  log_status : LogThings → ℕ → Call

-- a list: the plan, the script store and the log; what the fresh start overwrote; and the calls
-- after it
pub record CallList : Type 0 where
  pub plan : Plan
  pub scripts : List ℕ
  pub log : List ℕ
  pub old_state : State
  pub old_cache : List ℕ
  pub old_boxes : List ℕ
  pub calls : List Call

-- a call is refused exactly when its answer's number is not 0
abbrev pub is_refused : Verdict → Bool
is_refused verdict = not (eqb (code_of verdict).number 0)

-- the world that a step or a run was handed, beside the list's own
abbrev pub handed_world : RunThings → World → World
handed_world things world =
    record {
      state = handed things.state world.state;
      cache = handed things.cache world.cache;
      boxes = handed things.boxes world.boxes;
      log = handed things.log world.log;
    }

-- the list's own world after a step or a run: what it was handed of its own is as that call left it
abbrev pub left_world : RunThings → World → World → World
left_world things world left =
    record {
      state = left_in things.state world.state left.state;
      cache = left_in things.cache world.cache left.cache;
      boxes = left_in things.boxes world.boxes left.boxes;
      log = left_in things.log world.log left.log;
    }

-- how many steps a call asks for: a single step one, a running as many as its limit, the queries
-- none
abbrev pub steps_asked : Call → ℕ
steps_asked (step_call things) = 1
steps_asked (run_call things limit) = limit
steps_asked (log_call things domain) = 0
steps_asked (log_status things domain) = 0

-- everything that a step or a run was handed is the list's own
abbrev pub OwnRun : RunThings → Type 0
OwnRun things =
    IsOwn things.plan
    × IsOwn things.scripts
    × IsOwn things.state
    × IsOwn things.cache
    × IsOwn things.boxes
    × IsOwn things.log

-- everything that a log query or its status query was handed
abbrev pub OwnQuery : LogThings → Type 0
OwnQuery things = IsOwn things.plan × IsOwn things.state × IsOwn things.log

-- everything that a call was handed
abbrev pub AllOwn : Call → Type 0
AllOwn (step_call things) = OwnRun things
AllOwn (run_call things limit) = OwnRun things
AllOwn (log_call things domain) = OwnQuery things
AllOwn (log_status things domain) = OwnQuery things

-- what a call on the list's own things must still bring, not to be refused: a single step and a
-- running want a script store of `scripts_length` numbers, a log query and its status query the
-- number of a declared domain
abbrev pub Admissible : Plan → List ℕ → Call → Type 0
Admissible plan scripts (step_call things) = length scripts ≡ scripts_length
Admissible plan scripts (run_call things limit) = length scripts ≡ scripts_length
Admissible plan scripts (log_call things domain) = domain < plan.domains
Admissible plan scripts (log_status things domain) = domain < plan.domains

-- how a call on the list's own things is refused that is not admissible: the store's length is
-- wrong, or the domain is not declared
abbrev pub refused_code : Call → Code
refused_code (step_call things) = code_with 11 0
refused_code (run_call things limit) = code_with 11 0
refused_code (log_call things domain) = code_with 4 0
refused_code (log_status things domain) = code_with 4 0

module _ (plan : Plan) (scripts : List ℕ) where
  -- what the entry points answer, by their contracts' definitions: running, the single step, and
  -- the status query beside a log query
  unfoldable pub run_answer : RunThings → ℕ → World → RunOutcome
  run_answer things limit world =
      run_call_of (handed things.plan plan) (handed things.scripts scripts)
      (handed_world things world) limit

  unfoldable pub step_answer : RunThings → World → RunOutcome
  step_answer things world =
      step_call_of (handed things.plan plan) (handed things.scripts scripts)
      (handed_world things world)

  unfoldable pub log_answer : LogThings → ℕ → World → Verdict
  log_answer things domain world =
      log_status_of (handed things.plan plan) (handed things.state world.state)
      (handed things.log world.log) domain

  -- the list's own world after a call; the two queries are lent nothing that they could write to
  unfoldable pub after_call : Call → World → World
  after_call (step_call things) world = left_world things world (step_answer things world).world
  after_call (run_call things limit) world =
      left_world things world (run_answer things limit world).world
  after_call (log_call things domain) world = world
  after_call (log_status things domain) world = world

  -- a call's verdict, on the list's own world. A log query answers bytes and no number: its number
  -- is what its status query answers. So the two share one verdict, and a status query counts as
  -- refused where the log query would be.
  unfoldable pub verdict_of : Call → World → Verdict
  verdict_of (step_call things) world = (step_answer things world).verdict
  verdict_of (run_call things limit) world = (run_answer things limit world).verdict
  verdict_of (log_call things domain) world = log_answer things domain world
  verdict_of (log_status things domain) world = log_answer things domain world

  -- the steps that a call adds to its list's run: those it asks for, and none where it is refused
  unfoldable pub steps_counted : Call → World → ℕ
  steps_counted call world = cond (is_refused (verdict_of call world)) 0 (steps_asked call)

  -- the list's own world after some calls, and the steps that they counted together
  unfoldable pub after_calls : List Call → World → World
  after_calls [] world = world
  after_calls (call ∷ calls) world = after_calls calls (after_call call world)

  unfoldable pub steps_of_calls : List Call → World → ℕ
  steps_of_calls [] world = 0
  steps_of_calls (call ∷ calls) world =
      steps_counted call world + steps_of_calls calls (after_call call world)

  -- every call was refused, and then whatever it was handed will do, or it was handed the list's
  -- own things, as the calls before it left them
  unfoldable pub Proper : List Call → World → Type 0
  Proper [] world = Unit {0}
  Proper (call ∷ calls) world =
      ((is_refused (verdict_of call world) ≡ true) ⊎ AllOwn call)
      × Proper calls (after_call call world)

-- what the fresh start of a list answered and left
abbrev pub fresh_of : CallList → FreshOutcome
fresh_of list = fresh_start_of list.plan list.old_state list.old_cache list.old_boxes

-- the world from which the calls of a list start: what the fresh start left, and the log, which it
-- does not take
unfoldable pub start_world : CallList → World
start_world list =
    let fresh = fresh_of list in
    record { state = fresh.state; cache = fresh.cache; boxes = fresh.boxes; log = list.log }

-- a list begins with a fresh start that was not refused, and its calls are as above
pub record IsList (list : CallList) : Type 0 where
  pub started : is_refused (fresh_of list).verdict ≡ false
  pub proper : Proper list.plan list.scripts list.calls (start_world list)

-- what a list leaves
abbrev pub leaves_of : CallList → World
leaves_of list = after_calls list.plan list.scripts list.calls (start_world list)

-- a list's point: how many steps its run is, which is what its calls counted together. That may be
-- more than there are up to the last switch: a step past it changes nothing.
abbrev pub point_of : CallList → ℕ
point_of list = steps_of_calls list.plan list.scripts list.calls (start_world list)

-- the verdict on one more call after a list
abbrev pub verdict_after : CallList → Call → Verdict
verdict_after list call = verdict_of list.plan list.scripts call (leaves_of list)

-- two runnings, one after the other, as one answer: the steps that both did, and for the rest what
-- the second answered and left
unfoldable pub run_twice : Plan → List ℕ → World → ℕ → ℕ → RunOutcome
run_twice plan scripts world first second =
    let one = run_call_of plan scripts world first in
    let two = run_call_of plan scripts one.world second in
    record {
      verdict = two.verdict;
      steps = one.steps + two.steps;
      ending = two.ending;
      world = two.world;
    }
