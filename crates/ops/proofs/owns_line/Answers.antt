-- `ops::owns_line` meets its contract. Assumes nothing.
use mathlib.Core.Bool.{false≢true}
use mathlib.Core.Path.{◌∙◌, ap₂, refl}
use borrow.Author.Tests.{le-ltb, lt-ltb}
use Rattle.ops.specs.Ops.{owns_line}
use Rattle.plan.specs.Colours.{has_bit}
use Rattle.ops.proofs.owns_line.Goals as goal

pub returns-then-line-gt-MOST_LINE : goal.returns-then-line-gt-MOST_LINE
unfolding owns_line
returns-then-line-gt-MOST_LINE c = (λ owns. absurd (false≢true owns), λ plan handed. rw (lt-ltb _ _ c.if-line-gt-MOST_LINE.true) refl)

pub returns : goal.returns
unfolding owns_line
returns c =
    let within = c.if-line-gt-MOST_LINE.false in (
      λ owns.
          within,
      λ plan handed. rw (le-ltb _ _ within, handed)
          (c.has_bit.ensures ∙ ap₂ has_bit c.from.ensures refl),
    )
