-- `pirkvezo_log`: document 01's log query and its status query ("What a domain sees", "The plan
-- text"), in numbers: what it returns and leaves, for every input. Assumes nothing.
use Rattle.std.specs.Prelude.{ℕ, true, false, List, length, Ok, Err, Result}
use Rattle.plan.specs.declared.Plan.{Plan}
use Rattle.records.specs.Records.{part_records, record_index}
use Rattle.state.specs.declared.State.{State}
use Rattle.engine.specs.LogQuery.{log_query_of, log_status_of}
use Rattle.pirkvezo.specs.declared.LogPart.{LogPart}
use Rattle.pirkvezo.specs.Answers.{all_fit, answer_of, verdict_number, wrong_length}
use Rattle.pirkvezo.specs.Numbers.{plan_of, state_of}
use Rattle.refusal.specs.Verdict.{Verdict}
use Rattle.refusal.specs.declared.Refusal.{Refusal}

-- the number returned, and the answer after the call
pub record LogCall : Type 0 where
  pub number : ℕ
  pub answer : List ℕ

-- the two as one
abbrev pub host_log_with : ℕ → List ℕ → LogCall
host_log_with number answer = record { number = number; answer = answer }

-- where a domain's log begins within the lent log; 0 where the query is refused
abbrev pub log_offset : Verdict → Plan → ℕ → ℕ → ℕ
log_offset (Ok tt) plan log_length domain = record_index (part_records plan log_length) domain 0
log_offset (Err refusal) plan log_length domain = 0

-- what a query answers: its verdict, the offset of the log's first byte, and how many bytes the log has
pub record LogAnswer : Type 0 where
  pub verdict : Verdict
  pub offset : ℕ
  pub length : ℕ

-- an answer that is either the log's part or the refusal, beside which both numbers are 0
abbrev pub log_answer : Result LogPart Refusal → LogAnswer
log_answer (Ok part) = record { verdict = Ok tt; offset = part.offset; length = part.length }
log_answer (Err refusal) = record { verdict = Err refusal; offset = 0; length = 0 }

-- a query: its verdict, the offset of the log's first byte, and how many bytes the log has
unfoldable pub log_answer_of : Plan → State → List ℕ → ℕ → LogAnswer
log_answer_of plan state log domain =
    record {
      verdict = log_status_of plan state log domain;
      offset = log_offset (log_status_of plan state log domain) plan (length log) domain;
      length = length (log_query_of plan state log domain);
    }

-- these two are an answer's third and fourth number
unfoldable pub log_done : LogAnswer → List ℕ → LogCall
log_done query answer =
    host_log_with (verdict_number query.verdict)
    (answer_of query.verdict query.offset query.length answer)

-- the call: lengths first, then what the entry point does
unfoldable pub host_log : List ℕ → List ℕ → List ℕ → ℕ → List ℕ → LogCall
host_log plan state log domain answer =
    elim (all_fit plan state answer) [
      | false ↦ host_log_with (verdict_number wrong_length) (answer_of wrong_length 0 0 answer)
      | true ↦ log_done (log_answer_of (plan_of plan) (state_of state) log domain) answer
    ]
