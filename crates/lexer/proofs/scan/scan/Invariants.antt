-- `lexer::scan::scan` meets its contract: from the offset reached the walk goes on as it would from
-- the first. Assumes nothing.
use Rattle.std.proofs.Common.{◌-◌, length, ℕ, Bool, ◌≡◌, ◌<◌}
use Rattle.lexer.specs.Scan.{scan_of}
use Rattle.lexer.proofs.scan.scan.Given as goal

abbrev pub invariant-loop-here : goal.invariant-loop-here
invariant-loop-here g l =
    (stops : ℕ → Bool)
    → ((byte : ℕ) (ended : Bool) → byte < 256 → goal.F-post g l.ends byte ended → ended ≡ stops byte)
    → scan_of stops l.text l.here ≡ scan_of stops l.text l.at

abbrev pub decreases-loop-here : goal.decreases-loop-here
decreases-loop-here g l = length l.text - l.here
