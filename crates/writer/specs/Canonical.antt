-- Document 02, E4: the single form of a plan with its scripts, the canonical text. The lines of the plan come
-- first, then those of the ops, one domain after the other; LF separates lines and does not end the last.
-- Assumes nothing.
use Rattle.std.specs.Prelude.{ℕ, zero, suc, ◌+◌, List, [], ◌∷◌, ◌++◌, Option, Some, None}
use Rattle.lists.specs.Ascii.{bytes_of}
use Rattle.plan.specs.declared.Plan.{Plan}
use Rattle.script.specs.Fetch.{fetch_of}
use Rattle.script.specs.ScriptEnd.{stored_ops}
use Rattle.writer.specs.Lines.{domain_line, op_line, pad_line, run_line, window_line}
use Rattle.script.specs.declared.Op.{Op}

-- a line for each of the `left` indices from `index` on
unfoldable pub lines_from : (ℕ → List ℕ) → ℕ → ℕ → List (List ℕ)
lines_from line zero index = []
lines_from line (suc left) index = line index ∷ lines_from line left (index + 1)

-- the lines of a plan in their order: its pad, its domains, its windows, its run
unfoldable pub plan_lines : Plan → List (List ℕ)
plan_lines plan =
    pad_line plan ∷ (lines_from (domain_line plan) plan.domains 0 ++ lines_from (window_line plan) plan.windows 0 ++ (run_line plan ∷ []))

-- what stands at a position of a domain's script, as a line; the end, at which no line is asked for, has no byte
unfoldable pub item_line : ℕ → Option Op → List ℕ
item_line domain (Some op) = op_line domain op
item_line domain None = []

-- the line of a position of a domain's script
unfoldable pub script_line : List ℕ → ℕ → ℕ → List ℕ
script_line scripts domain position = item_line domain (fetch_of scripts domain position)

-- the lines of a domain's script: a line for each op before its end
unfoldable pub script_lines : List ℕ → ℕ → List (List ℕ)
script_lines scripts domain = lines_from (script_line scripts domain) (stored_ops scripts domain) 0

-- those of the `left` domains from `domain` on
unfoldable pub op_lines_from : List ℕ → ℕ → ℕ → List (List ℕ)
op_lines_from scripts zero domain = []
op_lines_from scripts (suc left) domain = script_lines scripts domain ++ op_lines_from scripts left (domain + 1)

-- all lines of a plan and its scripts
unfoldable pub canonical_lines : Plan → List ℕ → List (List ℕ)
canonical_lines plan scripts = plan_lines plan ++ op_lines_from scripts plan.domains 0

-- lines, each after a LF
unfoldable pub followed : List (List ℕ) → List ℕ
followed [] = []
followed (line ∷ more) = bytes_of "\n" ++ line ++ followed more

-- lines with one LF between two, and none after the last
unfoldable pub joined : List (List ℕ) → List ℕ
joined [] = []
joined (line ∷ more) = line ++ followed more

-- the canonical text
unfoldable pub canonical_text : Plan → List ℕ → List ℕ
canonical_text plan scripts = joined (canonical_lines plan scripts)
