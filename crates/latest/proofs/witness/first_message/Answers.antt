-- `latest::witness::first_message` meets its contract. Assumes nothing.
use native.Mathlib.Omega.{arith}
use borrow.Author.Tests.{le-ltb, lt-ltb}
use Rattle.plan.specs.Limits.{most_domains}
use Rattle.latest.specs.Script.{first_message}
use Rattle.latest.proofs.witness.first_message.Goals as goal

pub returns-then-recipient-lt-MOST_DOMAINS : goal.returns-then-recipient-lt-MOST_DOMAINS
unfolding first_message
returns-then-recipient-lt-MOST_DOMAINS c = simp (← c.lowest_recipient-recipient.ensures, lt-ltb _ _ c.if-recipient-lt-MOST_DOMAINS.true)

pub returns-then-sender-lt-MOST_DOMAINS : goal.returns-then-sender-lt-MOST_DOMAINS
unfolding first_message
returns-then-sender-lt-MOST_DOMAINS c =
    simp (
      ← c.lowest_recipient-recipient.ensures,
      le-ltb _ _ c.if-recipient-lt-MOST_DOMAINS.false,
      ← c.lowest_sender-sender.ensures,
      lt-ltb c.lowest_sender-sender.result most_domains (omega arith),
    )

pub returns : goal.returns
unfolding first_message
returns c =
    simp (
      ← c.lowest_recipient-recipient.ensures,
      le-ltb _ _ c.if-recipient-lt-MOST_DOMAINS.false,
      ← c.lowest_sender-sender.ensures,
      le-ltb c.lowest_sender-sender.result most_domains (omega arith),
    )
