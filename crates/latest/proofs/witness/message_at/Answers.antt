-- `latest::witness::message_at` meets its contract. Assumes nothing.
use borrow.Author.Tests.{le-ltb, lt-ltb}
use Rattle.latest.specs.Script.{message_at}
use Rattle.latest.proofs.witness.message_at.Goals as goal

pub returns-then-index-lt-MOST_DOMAINS : goal.returns-then-index-lt-MOST_DOMAINS
unfolding message_at
returns-then-index-lt-MOST_DOMAINS c = simp (lt-ltb _ _ c.if-index-lt-MOST_DOMAINS.true)

pub returns : goal.returns
unfolding message_at
returns c = simp (le-ltb _ _ c.if-index-lt-MOST_DOMAINS.false)
