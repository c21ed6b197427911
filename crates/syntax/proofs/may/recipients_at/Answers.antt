-- `syntax::may::recipients_at` meets its contract. Assumes nothing.
use native.Mathlib.Omega.{arith}
use mathlib.Core.Path.{sym, ap, ◌∙◌}
use Rattle.std.specs.Prelude.{Ok}
use borrow.Author.Rules.{rules}
use Rattle.syntax.proofs.Listing.{left_first, left_next, left_done, left_refused, listed, rights_most, shifted}
use Rattle.syntax.proofs.may.recipients_at.Goals as goal

pub loop-item-init : goal.loop-item-init
loop-item-init c = (left_first _ _ _ _, search rules)

pub overflow_shl-rights : goal.overflow_shl-rights
overflow_shl-rights c =
    let fresh = listed _ _ _ _ c.recipient_at.ensures (c.in-Ok.is ∙ ap Ok c.in-Next.is) in
    omega (arith, fresh.domain)

pub overflow_add-rights : goal.overflow_add-rights
overflow_add-rights c =
    let fresh = listed _ _ _ _ c.recipient_at.ensures (c.in-Ok.is ∙ ap Ok c.in-Next.is) in
    omega (arith, rights_most _ _ _ _ _ _ _ fresh c.loop-item.invariant.1)

pub note_mention-requires : goal.note_mention-requires
note_mention-requires c =
    let fresh = listed _ _ _ _ c.recipient_at.ensures (c.in-Ok.is ∙ ap Ok c.in-Next.is) in
    (omega (arith, fresh.domain), omega (arith, fresh.some, fresh.most))

pub loop-item-smaller : goal.loop-item-smaller
loop-item-smaller c =
    let fresh = listed _ _ _ _ c.recipient_at.ensures (c.in-Ok.is ∙ ap Ok c.in-Next.is) in
    omega (arith, fresh.least, fresh.some, fresh.most)

pub loop-item-preserved : goal.loop-item-preserved
loop-item-preserved c =
    let fresh = listed _ _ _ _ c.recipient_at.ensures (c.in-Ok.is ∙ ap Ok c.in-Next.is) in
    let loop = c.loop-item in
    let next =
    left_next _ _ _ _ _ _ loop.invariant.0 _ _ _
    (sym c.recipient_at.ensures ∙ (c.in-Ok.is ∙ ap Ok c.in-Next.is)) in
    (rw (shifted _ _ _ _ _ _ _ fresh, c.note_mention.ensures) next, rights_most _ _ _ _ _ _ _ fresh loop.invariant.1)

pub returns-in-Done : goal.returns-in-Done
returns-in-Done c =
    left_done _ _ _ _ _ _ c.loop-item.invariant.0 _
    (sym c.recipient_at.ensures ∙ (c.in-Ok.is ∙ ap Ok c.in-Done.is))

pub returns-in-Err : goal.returns-in-Err
returns-in-Err c =
    left_refused _ _ _ _ _ _ c.loop-item.invariant.0 _
    (sym c.recipient_at.ensures ∙ c.in-Err.is)
