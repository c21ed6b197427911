-- What a log query on arrays of the right lengths shows: the engine's answer in numbers, and the bytes of the log that
-- was queried. Assumes nothing.
use Prim.Native.Nat.{ℕ}
use mathlib.Core.Bool.{true}
use mathlib.Core.List.{List}
use mathlib.Core.Path.{◌≡◌, refl, ap, ◌∙◌}
use lib.ListN.{length}
use borrow.Author.Tests.{eq-eqb}
use Rattle.plan.specs.declared.Plan.{Plan}
use Rattle.refusal.specs.Code.{code_of}
use Rattle.engine.specs.LogQuery.{log_query_of, log_status_of}
use Rattle.pirkvezo.specs.Answers.{all_fit, answer_length, answer_numbers, answer_of, verdict_number}
use Rattle.pirkvezo.specs.LogQuery.{host_log_with, log_answer_of, log_done, log_offset}
use Rattle.pirkvezo.specs.Numbers.{plan_of, state_of}
use Rattle.pirkvezo.proofs.Calls.{lengths}
use Rattle.pirkvezo.proofs.LogQueries.{query_bytes}
use Rattle.host.specs.Calls.{Arrays}
use Rattle.host.specs.Statement.{LogShown, log_shown, shown_by}
use Rattle.host.proofs.Calls.{query_is}
use Rattle.refusal.specs.Verdict.{Verdict}

-- what is shown, by a verdict, a plan, the log's length and the bytes of the domain's log
abbrev pub shown_from : Verdict → Plan → ℕ → List ℕ → ℕ → LogShown
shown_from verdict plan log_length bytes domain =
    record {
      number = verdict_number verdict;
      answer = answer_numbers (code_of verdict) (log_offset verdict plan log_length domain) (length bytes);
      bytes = bytes;
    }

-- the engine's answers to a query on what arrays stand for
abbrev pub status_on : List ℕ → Arrays → ℕ → Verdict
status_on plan held domain = log_status_of (plan_of plan) (state_of held.state) held.log domain

abbrev pub bytes_on : List ℕ → Arrays → ℕ → List ℕ
bytes_on plan held domain = log_query_of (plan_of plan) (state_of held.state) held.log domain

module _ (plan : List ℕ) (held : Arrays) (domain : ℕ) (answer : List ℕ)
    (fit : all_fit plan held.state answer ≡ true) where
  abbrev shown : LogShown
  shown = shown_from (status_on plan held domain) (plan_of plan) (length held.log) (bytes_on plan held domain) domain

  written :
      log_done (log_answer_of (plan_of plan) (state_of held.state) held.log domain) answer
      ≡ host_log_with shown.number shown.answer
  unfolding log_done log_answer_of answer_of
  written =
      rw (eq-eqb (length answer) answer_length (lengths plan held.state answer fit).answer_is) refl

  pub shown_is : log_shown plan held.state held.log domain answer ≡ shown
  unfolding log_shown log_answer_of
  shown_is =
      let bytes = query_bytes (plan_of plan) (state_of held.state) held.log domain in
      ap (shown_by held.log) (query_is plan held domain answer fit ∙ written)
      ∙ (λ i. record { number = shown.number; answer = shown.answer; bytes = bytes i })
