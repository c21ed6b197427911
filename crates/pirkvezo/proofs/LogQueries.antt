-- What a log query answers, refused or not, and that the bytes it points at are the log. Assumes nothing.
use Rattle.std.specs.Prelude.{Ok, Err}
use mathlib.Core.Path.{◌≡◌, refl, ap}
use mathlib.Core.List.{List}
use Prim.Native.Nat.{ℕ, ◌+◌, ◌*◌, ◌≤◌}
use native.Mathlib.Nat.{add-zero}
use native.Mathlib.Omega.{arith}
use lib.ListN.{length}
use Rattle.lists.specs.Part.{part}
use Rattle.lists.proofs.Parts.{part_length}
use Rattle.plan.specs.declared.Plan.{Plan}
use Rattle.records.specs.Records.{log_part, part_records}
use Rattle.state.specs.declared.State.{State}
use Rattle.state.specs.World.{records_at}
use Rattle.refusal.specs.declared.Refusal.{Refusal}
use Rattle.engine.specs.LogQuery.{log_query_of, log_from, log_status_of}
use Rattle.engine.specs.Checks.{log_verdict}
use Rattle.engine.proofs.Verdicts.{log_accepted, log_within}
use Rattle.pirkvezo.specs.LogQuery.{LogAnswer}
use Rattle.pirkvezo.specs.LogQuery.{log_answer_of, log_offset}
use Rattle.pirkvezo.specs.Theorems.{QueryPointsAtLog}
use Rattle.refusal.specs.Verdict.{Verdict}

module _ (plan : Plan) (state : State) (log : List ℕ) (domain : ℕ) where
  abbrev answered : Verdict → LogAnswer
  answered verdict =
      record {
        verdict = verdict;
        offset = log_offset verdict plan (length log) domain;
        length = length (log_from verdict plan state log domain);
      }

  pub query_refused :
      (refusal : Refusal)
      → Err refusal ≡ log_verdict plan state log domain
      → answered (Err refusal) ≡ log_answer_of plan state log domain
  unfolding log_answer_of log_status_of log_query_of
  query_refused refusal refused = ap answered refused

  -- a query that is not refused: where the domain's part of the log begins, and the length of its records so far
  pub query_accepted :
      (quota : ℕ) (found : List ℕ)
      → (Ok tt) ≡ log_verdict plan state log domain
      → quota ≡ part_records plan (length log)
      → found ≡ log_query_of plan state log domain
      → record { verdict = Ok tt; offset = 8 * (quota * domain); length = length found } ≡ log_answer_of plan state log domain
  unfolding log_answer_of log_status_of log_query_of
  query_accepted quota found granted parts finds =
      rw (parts, finds, ← granted, add-zero (part_records plan (length log) * domain)) refl

  -- that offset lies within the log
  pub offset_within :
      log_verdict plan state log domain ≡ Ok tt
      → 8 * (part_records plan (length log) * domain) ≤ length log
  offset_within granted = omega (arith, log_within plan state log domain (log_accepted plan state log domain granted))

  -- the bytes that a query points at
  query_bytes_here : part (log_answer_of plan state log domain).offset (log_answer_of plan state log domain).length log ≡ log_query_of plan state log domain
  unfolding log_answer_of log_status_of log_query_of log_part part
  query_bytes_here = go (log_verdict plan state log domain) refl
    where
      go :
          (verdict : Verdict)
          → log_verdict plan state log domain ≡ verdict
          → part (log_offset (log_verdict plan state log domain) plan (length log) domain) (length (log_from (log_verdict plan state log domain) plan state log domain)) log
          ≡ log_from (log_verdict plan state log domain) plan state log domain
      go (Err refusal) e = rw e refl
      go (Ok tt) e =
          let within = log_within plan state log domain (log_accepted plan state log domain e) in
          let quota = part_records plan (length log) in
          rw (e, part_length (8 * (quota * domain + 0)) (8 * records_at state domain) log (omega arith)) refl

pub query_bytes : QueryPointsAtLog
query_bytes = query_bytes_here
