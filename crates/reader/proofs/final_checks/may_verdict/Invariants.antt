-- `reader::final_checks::may_verdict` meets its contract. The loop's invariant: what was found so far, with what is left, gives the
-- whole answer. Assumes nothing.
use mathlib.Core.Path.{◌≡◌}
use Rattle.reader.specs.Final.{may_verdict, undeclared_mentions}
use Rattle.reader.proofs.LastChecks.{may_after}
use Rattle.reader.proofs.final_checks.may_verdict.Given as goal

abbrev pub invariant-loop-domain : goal.invariant-loop-domain
invariant-loop-domain l =
    may_after l.found (undeclared_mentions l.named l.domain) ≡ may_verdict (undeclared_mentions l.named l.declared)
