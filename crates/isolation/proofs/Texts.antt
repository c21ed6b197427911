-- Demand 3 of accepted plans, from demand 3 of plans that pass the check: a plan that some text gives passes it, so its
-- fresh start is not refused. Assumes nothing.
use Rattle.std.specs.Prelude.{Ok}
use mathlib.Core.Path.{◌≡◌, refl, ap}
use mathlib.Core.Bool.{true}
use borrow.Author.Tests.{eq-eqb}
use Rattle.plan.specs.Validity.{plan_valid}
use Rattle.cache.specs.Lines.{table_length}
use Rattle.ops.specs.Ops.{boxes_length}
use Rattle.engine.specs.Checks.{fresh_verdict}
use Rattle.engine.specs.FreshStart.{fresh_from, fresh_start_of}
use Rattle.roundtrip.proofs.Meaning.{given_valid}
use Rattle.isolation.specs.Calls.{CallList, IsList, is_refused}
use Rattle.isolation.specs.Statement.{IsolationOf}
use Rattle.isolation.specs.Texts.{AcceptedIsolation, AcceptedList}
use Rattle.isolation.proofs.Isolation.{isolation}
use Rattle.refusal.specs.Verdict.{Verdict}

pub accepted_list : (list : CallList) → AcceptedList list → IsList list
unfolding fresh_start_of fresh_verdict
accepted_list list is =
    let possible : plan_valid list.plan ≡ true = given_valid list.plan is.accepted in
    let verdict : fresh_verdict list.plan list.old_cache list.old_boxes ≡ Ok tt =
    rw (eq-eqb _ table_length is.cache_fits, eq-eqb _ boxes_length is.boxes_fit, possible) refl in
    record {
      started = ap (λ (v : Verdict). is_refused (fresh_from v list.old_state list.old_cache list.old_boxes).verdict) verdict;
      proper = is.proper;
    }

-- demand 3 of one kind of lists is demand 3 of any narrower kind
narrower : {Narrow Kind : CallList → Type 0} → ((list : CallList) → Narrow list → Kind list) → IsolationOf Kind
    → IsolationOf Narrow
narrower is i =
    record {
      on_time = λ list n. i.on_time list (is list n);
      isolated = λ observer one other n n'. i.isolated observer one other (is one n) (is other n');
      together = λ Named is_named one other n n'. i.together Named is_named one other (is one n) (is other n');
      corresponding = λ Named is_named one other n n'. i.corresponding Named is_named one other (is one n) (is other n');
      lists = λ list n. i.lists list (is list n);
    }

pub accepted_isolation : AcceptedIsolation
accepted_isolation = narrower accepted_list isolation
