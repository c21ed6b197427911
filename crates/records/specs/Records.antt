-- Document 01, "What a domain sees", and document 02, E8: the kinds and values of records, their
-- bytes, the parts of the log, and where a record goes. Assumes nothing.
use Rattle.std.specs.Prelude.{ℕ, ◌+◌, ◌*◌, ◌/◌, ◌%◌, cond, List, [], ◌∷◌, eqb, Option, Some, None}
use Rattle.std.proofs.lemmas.List.Edits.{sets}
use Rattle.lists.specs.Part.{part}
use Rattle.plan.specs.declared.Plan.{Plan}
use Rattle.records.specs.declared.Keep.{Keep}
use Rattle.records.specs.declared.Keep.TheVariants.{Every, One}
use Rattle.records.specs.declared.Observation.{Observation}
use Rattle.records.specs.declared.Observation.TheVariants.{Hit1, Hit2, Miss, Sent, Got}
use Rattle.records.specs.declared.Observation.TheVariants.{Empty, Denied, Ran, Barred}

-- each kind of record has a number, 1 to 9
abbrev pub record_kind : Observation → ℕ
record_kind (Hit1 line) = 1
record_kind (Hit2 line) = 2
record_kind (Miss line) = 3
record_kind (Sent recipient) = 4
record_kind (Got word) = 5
record_kind (Empty sender) = 6
record_kind (Denied other) = 7
record_kind (Ran ticks) = 8
record_kind (Barred line) = 9

-- a record's value: the line that was asked for, the recipient, the word, the other domain of an
-- empty box or of a denied op, or the ticks
abbrev pub record_value : Observation → ℕ
record_value (Hit1 line) = line
record_value (Hit2 line) = line
record_value (Miss line) = line
record_value (Sent recipient) = recipient
record_value (Got word) = word
record_value (Empty sender) = sender
record_value (Denied other) = other
record_value (Ran ticks) = ticks
record_value (Barred line) = line

-- the byte of a number that counts units: ones, 256s and so on
abbrev pub byte_of : ℕ → ℕ → ℕ
byte_of unit number = number / unit % 256

-- how many bytes a record has
abbrev pub record_size : ℕ
record_size = 8

-- those bytes: one for the kind, one that is 0, two for the value, four for the clock after the op;
-- low bytes come first
unfoldable pub record_bytes : Observation → ℕ → List ℕ
record_bytes seen clock =
    record_kind seen
    ∷ 0
    ∷ byte_of 1 (record_value seen)
    ∷ byte_of 256 (record_value seen)
    ∷ byte_of 1 clock
    ∷ byte_of 256 clock
    ∷ byte_of 65_536 clock
    ∷ byte_of 16_777_216 clock
    ∷ []

-- the log is divided evenly among the declared domains: the whole records that each part has room
-- for
unfoldable pub part_records : Plan → ℕ → ℕ
part_records plan log_length = log_length / (record_size * plan.domains)

-- the parts follow each other in domain order: where a domain's record begins, by its number
abbrev pub record_index : ℕ → ℕ → ℕ → ℕ
record_index quota domain number = record_size * (quota * domain + number)

-- where a domain's records go in a log that keeps every domain's: into its part
abbrev pub in_parts : ℕ → ℕ → Option ℕ
in_parts quota domain = Some (quota * domain)

-- where they go in a buffer that keeps those of one named domain: the named domain's from the
-- buffer's start on, another's nowhere
unfoldable pub only_of : ℕ → ℕ → Option ℕ
only_of named domain = cond (eqb domain named) (Some 0) None

-- either, by what is kept, where a part holds `quota` records
abbrev pub places_of : Keep → ℕ → ℕ → Option ℕ
places_of Every quota = in_parts quota
places_of (One named) quota = only_of named

-- how many bytes a log must have for the first records of a place: none where they go nowhere
abbrev pub place_end : Option ℕ → ℕ → ℕ
place_end (Some first) count = record_size * (first + count)
place_end None count = 0

-- a log with one record stored at a place, by its number there; as it was where the record goes
-- nowhere
unfoldable pub stored_at : Option ℕ → ℕ → Observation → ℕ → List ℕ → List ℕ
stored_at (Some first) number seen clock log =
    sets log (record_size * (first + number)) (record_bytes seen clock)
stored_at None number seen clock log = log

-- a domain's own log: the bytes of the records that it has so far, from the start of its part
unfoldable pub log_part : ℕ → ℕ → ℕ → List ℕ → List ℕ
log_part quota domain count log = part (record_index quota domain 0) (record_size * count) log
