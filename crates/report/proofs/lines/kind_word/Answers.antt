-- `report::lines::kind_word` meets its contract, word by word. Assumes nothing.
use mathlib.Core.Path.{refl}
use native.Mathlib.Omega.{arith}
use borrow.Author.Tests.{ne_eqb}
use Rattle.lists.specs.Ascii.{bytes_of}
use Rattle.report.proofs.lines.kind_word.Goals as goal

pub returns-in-1 : goal.returns-in-1
unfolding bytes_of
returns-in-1 c = rw c.in-1.is refl

pub returns-in-2 : goal.returns-in-2
unfolding bytes_of
returns-in-2 c = rw c.in-2.is refl

pub returns-in-3 : goal.returns-in-3
unfolding bytes_of
returns-in-3 c = rw c.in-3.is refl

pub returns-in-4 : goal.returns-in-4
unfolding bytes_of
returns-in-4 c = rw c.in-4.is refl

pub returns-in-5 : goal.returns-in-5
unfolding bytes_of
returns-in-5 c = rw c.in-5.is refl

pub returns-in-6 : goal.returns-in-6
unfolding bytes_of
returns-in-6 c = rw c.in-6.is refl

pub returns-in-7 : goal.returns-in-7
unfolding bytes_of
returns-in-7 c = rw c.in-7.is refl

pub returns-in-8 : goal.returns-in-8
unfolding bytes_of
returns-in-8 c = rw c.in-8.is refl

pub returns-in-9 : goal.returns-in-9
unfolding bytes_of
returns-in-9 c = rw c.in-9.is refl

pub returns-in_default : goal.returns-in_default
unfolding bytes_of
returns-in_default c =
    let kind = c.args.kind in
    simp (
      ne_eqb kind 1 (omega (arith, c.in_default)),
      ne_eqb kind 2 (omega (arith, c.in_default)),
      ne_eqb kind 3 (omega (arith, c.in_default)),
      ne_eqb kind 4 (omega (arith, c.in_default)),
      ne_eqb kind 5 (omega (arith, c.in_default)),
      ne_eqb kind 6 (omega (arith, c.in_default)),
      ne_eqb kind 7 (omega (arith, c.in_default)),
      ne_eqb kind 8 (omega (arith, c.in_default)),
      ne_eqb kind 9 (omega (arith, c.in_default)),
    )
