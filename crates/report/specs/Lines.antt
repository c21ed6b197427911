-- Document 01, "Settled numbers": the lines that *planrun* prints, a LF after each. Assumes
-- nothing.
use Rattle.std.specs.Prelude.{ℕ, zero, suc, ◌+◌, ◌*◌, ◌/◌, cond, List, [], ◌++◌, eqb, get_or, length}
use Prim.Native.String.{String}
use Rattle.lists.specs.Ascii.{bytes_of}
use Rattle.plan.specs.declared.Plan.{Plan}
use Rattle.lexer.specs.Decimal.{decimal_of}
use Rattle.records.specs.Records.{record_size}
use Rattle.state.specs.declared.State.{State}
use Rattle.refusal.specs.declared.Code.{Code}
use Rattle.engine.specs.LogQuery.{log_query_of}

-- the words of the kinds 1 to 9; no record has another kind
abbrev pub kind_word : ℕ → String
kind_word kind =
    cond (eqb kind 1) "hit1"
    (cond (eqb kind 2) "hit2"
    (cond (eqb kind 3) "miss"
    (cond (eqb kind 4) "sent"
    (cond (eqb kind 5) "got"
    (cond (eqb kind 6) "empty"
    (cond (eqb kind 7) "denied"
    (cond (eqb kind 8) "ran" (cond (eqb kind 9) "barred" "none"))))))))

-- numbers of two and of four bytes, little end first
abbrev pub u16_at : List ℕ → ℕ → ℕ
u16_at bytes at = get_or bytes at 0 + 256 * get_or bytes (at + 1) 0

abbrev pub u32_at : List ℕ → ℕ → ℕ
u32_at bytes at = u16_at bytes at + 65_536 * u16_at bytes (at + 2)

-- where a record has its value and its clock; its kind comes first
abbrev pub value_offset : ℕ
value_offset = 2

abbrev pub record_clock_offset : ℕ
record_clock_offset = 4

-- what the record at an offset of a log holds
abbrev pub kind_at : List ℕ → ℕ → ℕ
kind_at log at = get_or log at 0

abbrev pub value_at : List ℕ → ℕ → ℕ
value_at log at = u16_at log (at + value_offset)

abbrev pub clock_at : List ℕ → ℕ → ℕ
clock_at log at = u32_at log (at + record_clock_offset)

-- from the kind on: (KIND VALUE))
unfoldable pub kind_and_value : ℕ → ℕ → List ℕ
kind_and_value kind value =
    bytes_of " (" ++ bytes_of (kind_word kind) ++ bytes_of " " ++ decimal_of value ++ bytes_of "))\n"

-- (seen DOMAIN CLOCK (KIND VALUE)), of the record at an offset of a log
unfoldable pub seen_line : ℕ → List ℕ → ℕ → List ℕ
seen_line domain log at =
    bytes_of "(seen "
    ++ decimal_of domain
    ++ bytes_of " "
    ++ decimal_of (clock_at log at)
    ++ kind_and_value (kind_at log at) (value_at log at)

-- the first records of a domain's log, in record order
unfoldable pub record_lines : ℕ → List ℕ → ℕ → List ℕ
record_lines domain log zero = []
record_lines domain log (suc count) =
    record_lines domain log count ++ seen_line domain log (record_size * count)

-- all its records
unfoldable pub domain_lines : ℕ → List ℕ → List ℕ
domain_lines domain log = record_lines domain log (length log / record_size)

-- the logs of the first domains, as a log query hands them back, in domain order
unfoldable pub seen_lines : Plan → State → List ℕ → ℕ → List ℕ
seen_lines plan state log zero = []
seen_lines plan state log (suc domain) =
    seen_lines plan state log domain ++ domain_lines domain (log_query_of plan state log domain)

-- (WORD FIRST SECOND)
unfoldable pub pair_line : List ℕ → ℕ → ℕ → List ℕ
pair_line word first second =
    word ++ decimal_of first ++ bytes_of " " ++ decimal_of second ++ bytes_of ")\n"

-- (end WINDOWS CLOCK)
unfoldable pub end_line : State → List ℕ
end_line state = pair_line (bytes_of "(end ") state.windows state.clock

-- a run's lines
unfoldable pub run_lines : Plan → State → List ℕ → List ℕ
run_lines plan state log = seen_lines plan state log plan.domains ++ end_line state

-- (refused NUMBER COMPANION)
unfoldable pub refusal_line : Code → List ℕ
refusal_line code = pair_line (bytes_of "(refused ") code.number code.companion
