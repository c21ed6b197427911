-- Document 02, E4: the lines of a plan in its single form, each in one spelling. No space stands before or after
-- a bracket, a single one anywhere else, and no number has a zero in front. Assumes nothing.
use Rattle.std.specs.Prelude.{ℕ, zero, suc, ◌+◌, true, false, List, [], ◌∷◌, ◌++◌, get_or}
use Rattle.lists.specs.Ascii.{bytes_of}
use Rattle.plan.specs.declared.Plan.{Plan}
use Rattle.plan.specs.Colours.{has_bit, share_of}
use Rattle.plan.specs.Limits.{most_domains}
use Rattle.plan.specs.Rights.{rights_at}
use Rattle.script.specs.declared.Op.{Op}
use Rattle.script.specs.declared.Op.TheVariants.{Read, Write, Send, Receive, Compute}
use Rattle.lexer.specs.Decimal.{decimal_of}

-- ---- a domain's recipients

-- those among the `left` domains from `domain` on, rising
unfoldable pub rising_from : ℕ → ℕ → ℕ → List ℕ
rising_from rights zero domain = []
rising_from rights (suc left) domain =
    elim (has_bit rights domain) [
      | true ↦ domain ∷ rising_from rights left (domain + 1)
      | false ↦ rising_from rights left (domain + 1)
    ]

-- all of them
unfoldable pub recipients_of : ℕ → List ℕ
recipients_of rights = rising_from rights most_domains 0

-- numbers, each after one space
unfoldable pub spaced : List ℕ → List ℕ
spaced [] = []
spaced (number ∷ more) = bytes_of " " ++ decimal_of number ++ spaced more

-- ---- the lines of a plan, by the numbers that they hold

-- the ticks of the pad
abbrev pub pad_text : ℕ → List ℕ
pad_text ticks = bytes_of "(pad " ++ decimal_of ticks ++ bytes_of ")"

-- a domain's number, its share and its recipients
abbrev pub domain_text : ℕ → ℕ → ℕ → List ℕ
domain_text domain share rights =
    bytes_of "(domain "
    ++ decimal_of domain
    ++ bytes_of "(share "
    ++ decimal_of share
    ++ bytes_of ")(may"
    ++ spaced (recipients_of rights)
    ++ bytes_of "))"

-- a window's domain and its ticks
abbrev pub window_text : ℕ → ℕ → List ℕ
window_text owner ticks =
    bytes_of "(window " ++ decimal_of owner ++ bytes_of "(length " ++ decimal_of ticks ++ bytes_of "))"

-- how many times the windows repeat
abbrev pub run_text : ℕ → List ℕ
run_text times = bytes_of "(run " ++ decimal_of times ++ bytes_of ")"

-- ---- the same lines of a plan

unfoldable pub pad_line : Plan → List ℕ
pad_line plan = pad_text plan.pad

-- the share in thousandths, as in the text that it came from
unfoldable pub domain_line : Plan → ℕ → List ℕ
domain_line plan domain = domain_text domain (share_of plan domain) (rights_at plan domain)

unfoldable pub window_line : Plan → ℕ → List ℕ
window_line plan slot = window_text (get_or plan.owners slot 0) (get_or plan.lengths slot 0)

unfoldable pub run_line : Plan → List ℕ
run_line plan = run_text plan.run

-- ---- the line of an op

-- an op's word and its numbers, with the bracket that opens them and without the one that closes them
unfoldable pub op_text : Op → List ℕ
op_text (Read line) = bytes_of "(read " ++ decimal_of line
op_text (Write line) = bytes_of "(write " ++ decimal_of line
op_text (Send recipient word) = bytes_of "(send " ++ decimal_of recipient ++ bytes_of " " ++ decimal_of word
op_text (Receive sender) = bytes_of "(receive " ++ decimal_of sender
op_text (Compute ticks) = bytes_of "(compute " ++ decimal_of ticks

-- an op with the domain whose script it belongs to
unfoldable pub op_line : ℕ → Op → List ℕ
op_line domain op = bytes_of "(op " ++ decimal_of domain ++ op_text op ++ bytes_of "))"
