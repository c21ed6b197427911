-- What a call for a latest finish tells a host is the maximum. Assumes nothing.
use Rattle.std.specs.Prelude.{Ok}
use Prim.Native.Nat.{ℕ, ◌≤◌}
use mathlib.Core.Bool.{true}
use mathlib.Core.List.{List}
use mathlib.Core.Path.{◌≡◌, refl, sym, ap, subst, ◌∙◌}
use lib.ListN.{length}
use borrow.Author.Tests.{eq-eqb}
use Rattle.plan.specs.Windows.{window_owner}
use Rattle.script.specs.Limits.{most_ops}
use Rattle.state.specs.World.{World}
use Rattle.latest.specs.Answer.{LatestOutcome, latest_from, latest_of, latest_verdict}
use Rattle.latest.specs.Bounds.{Fitting}
use Rattle.latest.specs.Latest.{latest_ticks}
use Rattle.latest.proofs.Answers.{accepted, accepted_told, told_is}
use Rattle.lateness.specs.Lateness.{lateness_of}
use Rattle.lateness.specs.Theorems.{IsLatest, IsScript}
use Rattle.lateness.proofs.Latest.{latest_finish}
use Rattle.lateness.proofs.NoneLater.{late_anywhere}
use Rattle.isolation.proofs.OneRun.Leaves.{leaves, list_valid}
use Rattle.pirkvezo.specs.Answers.{answer_length, answer_of, plan_fits, third_of, verdict_number, wrong_length}
use Rattle.pirkvezo.specs.Finishing.{LatestCall, host_latest, host_latest_with, latest_done}
use Rattle.pirkvezo.specs.Numbers.{plan_length, plan_of}
use Rattle.pirkvezo.proofs.Calls.{read_lengths}
use Rattle.host.specs.Calls.{HostList, IsHostList, is_refusal}
use Rattle.host.specs.Latest.{HostLatest, ticks_told, world_left}
use Rattle.host.proofs.Calls.{fitting}
use Rattle.host.proofs.Lists.{engine_is, engine_leaves, engine_list}
use Rattle.host.proofs.StepBounds.{third_is}
use Rattle.host.proofs.Texts.{not_refused}
use Rattle.refusal.specs.Verdict.{Verdict}

module _ (plan : List ℕ) (domain : ℕ) (script answer : List ℕ) where
  abbrev call : LatestCall
  call = host_latest plan domain script answer

  abbrev found : LatestOutcome
  found = latest_of (plan_of plan) domain script

  fit_call : plan_fits plan answer ≡ true → call ≡ latest_done found answer
  unfolding host_latest
  fit_call fit = rw (fit, host_latest) refl

  -- a call that returned 0 was handed arrays of the right lengths, and tells what was found
  module _ (none : call.number ≡ 0) where
    did : (plan_fits plan answer ≡ true) × (call ≡ latest_done found answer)
    unfolding host_latest
    did =
        fitting (λ (c : LatestCall). c.number) (plan_fits plan answer)
        (host_latest_with (verdict_number wrong_length) script (answer_of wrong_length 0 0 answer))
        (latest_done found answer) refl (ap is_refusal none)

    found_accepted : found.verdict ≡ Ok tt
    unfolding latest_done
    found_accepted =
        not_refused found.verdict (ap is_refusal (sym (ap (λ (c : LatestCall). c.number) did.1) ∙ none))

    pub verdict_accepted : latest_verdict (plan_of plan) domain script ≡ Ok tt
    verdict_accepted = accepted_told (plan_of plan) domain script found_accepted

    script_is : call.script ≡ found.script
    unfolding latest_done
    script_is = ap (λ (c : LatestCall). c.script) did.1

    pub ticks_are : ticks_told call ≡ found.ticks
    unfolding latest_done
    ticks_are =
        ap (λ (c : LatestCall). third_of c.answer) did.1
        ∙ third_is found.verdict found.ticks 0 answer (read_lengths plan answer did.0).1

    told : IsLatest (plan_of plan) domain call.script (ticks_told call)
    told = rw (script_is, ticks_are) (latest_finish (plan_of plan) domain script found_accepted).is_latest

    left : IsScript call.script
    left = rw script_is (latest_finish (plan_of plan) domain script found_accepted).is_script

  answered : length plan ≡ plan_length → length answer ≡ answer_length → length script ≡ most_ops → Fitting (plan_of plan) domain → call.number ≡ 0
  unfolding latest_of latest_done
  answered planned four one fits =
      ap (λ (c : LatestCall). c.number) (fit_call (rw (eq-eqb (length plan) plan_length planned, eq-eqb (length answer) answer_length four) refl))
      ∙ ap (λ (verdict : Verdict). verdict_number (latest_from verdict (plan_of plan) domain script).verdict)
      (accepted (plan_of plan) domain script one fits)

-- what a list leaves is a world of its run
world_left_lem : (list : HostList) (is : IsHostList list)
    → lateness_of (plan_of list.plan) (world_left list) ≤ latest_ticks (plan_of list.plan) (window_owner (plan_of list.plan) (world_left list).state.windows)
world_left_lem list is =
    let engine = engine_list list in
    subst
    (λ (world : World). lateness_of (plan_of list.plan) world ≤ latest_ticks (plan_of list.plan) (window_owner (plan_of list.plan) world.state.windows))
    (sym (leaves engine (engine_is list is)) ∙ engine_leaves list is)
    (late_anywhere (plan_of list.plan) list.scripts list.log _ (list_valid engine (engine_is list is)))

pub host_latest_lem : HostLatest
host_latest_lem =
    record {
      answered = answered;
      told = told;
      left = left;
      none_later = λ list domain script answer is none owner.
          let ticks = ticks_are list.plan domain script answer none in
          let verdict = verdict_accepted list.plan domain script answer none in
          rw (ticks ∙ (told_is (plan_of list.plan) domain script verdict).1)
          (subst (λ running. lateness_of (plan_of list.plan) (world_left list) ≤ latest_ticks (plan_of list.plan) running) owner (world_left_lem list is));
    }
