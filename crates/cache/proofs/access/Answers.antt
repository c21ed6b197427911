-- `access` meets its contract: where L1 holds the line only its L1 number is stored, and else what stands at its index is
-- put out before the line is sought. Assumes nothing.
use mathlib.Core.Bool.{false, true}
use mathlib.Core.Path.{◌≡◌, ◌∙◌, sym}
use native.Mathlib.Omega.{arith}
use lib.ListN.{get_or}
use borrow.Author.Tests.{le-ltb, lt-ltb}
use Rattle.cache.specs.Access.{replace_ticks}
use Rattle.cache.specs.Lines.{entry_for, l1_index}
use Rattle.cache.proofs.Outcome.{back_small, held_outcome, lacked_outcome}
use Rattle.cache.proofs.access.Goals as goal
use Rattle.cache.proofs.access.Goals.{then-writes, else-writes, then-writes-2, else-writes-2}
use Rattle.cache.proofs.access.Goals.{then-held-gt-DIRTY_MARK, else-held-gt-DIRTY_MARK}

pub returns-then-held-clean : goal.returns-then-held-clean
returns-then-held-clean c =
    let args = c.args in
    held_outcome args.writes args.line args.table.now _ c.if-held-clean.true
    (elim c.if-writes.branch [
      | then-writes w ↦ rw w.if-writes.true w.table-is
      | else-writes w ↦ rw w.if-writes.false w.table-is
    ])

pub seek-known-requires : goal.seek-known-requires
seek-known-requires c = (
  c.requires.0,
  omega (arith, c.requires.1),
  λ other is. back_small _ (omega arith) other (sym c.put_out-back.ensures ∙ is),
)

pub returns-then-known : goal.returns-then-known
returns-then-known c =
    let sought = c.seek-known in
    let out = c.put_out-back in
    let args = c.args in
    let entered : c.if-writes-2.table ≡ entry_for args.writes args.line =
    elim c.if-writes-2.branch [
      | then-writes-2 w ↦ rw w.if-writes-2.true w.table-is
      | else-writes-2 w ↦ rw w.if-writes-2.false w.table-is
    ] in
    let late : c.if-held-gt-DIRTY_MARK.replaced ≡ replace_ticks (get_or args.table.now (l1_index args.line) 0) =
    elim c.if-held-gt-DIRTY_MARK.branch [
      | then-held-gt-DIRTY_MARK w ↦ rw (lt-ltb _ _ w.if-held-gt-DIRTY_MARK.true) w.replaced-is
      | else-held-gt-DIRTY_MARK w ↦ rw (le-ltb _ _ w.if-held-gt-DIRTY_MARK.false) w.replaced-is
    ] in
    lacked_outcome args.writes args.line args.table.now c.requires.0 c.if-held-clean.false
    true _ _ _ _ out.ensures (sym c.if-known.true ∙ sought.ensures.0) sought.ensures.1 entered late

pub returns-else-known : goal.returns-else-known
returns-else-known c =
    let sought = c.seek-known in
    let out = c.put_out-back in
    let args = c.args in
    let entered : c.if-writes-2.table ≡ entry_for args.writes args.line =
    elim c.if-writes-2.branch [
      | then-writes-2 w ↦ rw w.if-writes-2.true w.table-is
      | else-writes-2 w ↦ rw w.if-writes-2.false w.table-is
    ] in
    let late : c.if-held-gt-DIRTY_MARK.replaced ≡ replace_ticks (get_or args.table.now (l1_index args.line) 0) =
    elim c.if-held-gt-DIRTY_MARK.branch [
      | then-held-gt-DIRTY_MARK w ↦ rw (lt-ltb _ _ w.if-held-gt-DIRTY_MARK.true) w.replaced-is
      | else-held-gt-DIRTY_MARK w ↦ rw (le-ltb _ _ w.if-held-gt-DIRTY_MARK.false) w.replaced-is
    ] in
    lacked_outcome args.writes args.line args.table.now c.requires.0 c.if-held-clean.false
    false _ _ _ _ out.ensures (sym c.if-known.false ∙ sought.ensures.0) sought.ensures.1 entered late
