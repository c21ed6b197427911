-- Document 01, "What a domain sees": a query for a domain's log, and its status query. Assumes nothing.
use Rattle.std.specs.Prelude.{ℕ, List, [], length, Ok, Err}
use Rattle.plan.specs.declared.Plan.{Plan}
use Rattle.records.specs.Records.{log_part, part_records, record_index}
use Rattle.state.specs.declared.State.{State}
use Rattle.state.specs.World.{records_at}
use Rattle.engine.specs.Checks.{log_verdict}
use Rattle.refusal.specs.Verdict.{Verdict}

-- the bytes of the domain's log, none where the query is refused
abbrev pub log_from : Verdict → Plan → State → List ℕ → ℕ → List ℕ
log_from (Ok tt) plan state log domain = log_part (part_records plan (length log)) domain (records_at state domain) log
log_from (Err refusal) plan state log domain = []

-- a log query: the part of the lent log itself
unfoldable pub log_query_of : Plan → State → List ℕ → ℕ → List ℕ
log_query_of plan state log domain = log_from (log_verdict plan state log domain) plan state log domain

-- where that part begins in the lent log; a refused query hands back an empty part at its start
abbrev pub offset_from : Verdict → Plan → List ℕ → ℕ → ℕ
offset_from (Ok tt) plan log domain = record_index (part_records plan (length log)) domain 0
offset_from (Err refusal) plan log domain = 0

unfoldable pub log_offset_of : Plan → State → List ℕ → ℕ → ℕ
log_offset_of plan state log domain = offset_from (log_verdict plan state log domain) plan log domain

-- its status query, which takes the same things: why the log query is refused, if it is
unfoldable pub log_status_of : Plan → State → List ℕ → ℕ → Verdict
log_status_of plan state log domain = log_verdict plan state log domain
