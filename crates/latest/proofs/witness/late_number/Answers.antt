-- `latest::witness::late_number` meets its contract: at each return, by the tests that led there. Assumes nothing.
use native.Mathlib.Omega.{arith}
use borrow.Author.Tests.{eq-eqb, le-ltb, lt-ltb, ne_eqb}
use Rattle.latest.specs.Script.{late_number}
use Rattle.latest.proofs.witness.late_number.Goals as goal

pub message_at-requires : goal.message_at-requires
message_at-requires c = omega (arith, c.requires.opening_most)

pub returns-then-position-script : goal.returns-then-position-script
unfolding late_number
returns-then-position-script c = simp (lt-ltb _ _ c.if-position-script.true, ← c.message_at.ensures, ← c.stored.ensures)

pub returns-then-position-written : goal.returns-then-position-written
unfolding late_number
returns-then-position-written c =
    simp (le-ltb _ _ c.if-position-script.false, lt-ltb _ _ c.if-position-written.true, ← c.stored-then-position-written.ensures)

pub returns-then-position-waited : goal.returns-then-position-waited
unfolding late_number
returns-then-position-waited c =
    simp (
      le-ltb _ _ c.if-position-script.false,
      le-ltb _ _ c.if-position-written.false,
      lt-ltb _ _ c.if-position-waited.true,
      ← c.stored-then-position-waited.ensures,
    )

pub returns-then-position-waited-2 : goal.returns-then-position-waited-2
unfolding late_number
returns-then-position-waited-2 c =
    simp (
      le-ltb _ _ c.if-position-script.false,
      le-ltb _ _ c.if-position-written.false,
      le-ltb _ _ c.if-position-waited.false,
      eq-eqb _ _ c.if-position-waited-2.true,
      ← c.stored-then-position-waited-2.ensures,
    )

pub returns-then-position-waited-3 : goal.returns-then-position-waited-3
unfolding late_number
returns-then-position-waited-3 c =
    simp (
      le-ltb _ _ c.if-position-script.false,
      le-ltb _ _ c.if-position-written.false,
      le-ltb _ _ c.if-position-waited.false,
      ne_eqb _ _ c.if-position-waited-2.false,
      eq-eqb _ _ c.if-position-waited-3.true,
    )

pub returns : goal.returns
unfolding late_number
returns c =
    simp (
      le-ltb _ _ c.if-position-script.false,
      le-ltb _ _ c.if-position-written.false,
      le-ltb _ _ c.if-position-waited.false,
      ne_eqb _ _ c.if-position-waited-2.false,
      ne_eqb _ _ c.if-position-waited-3.false,
    )
