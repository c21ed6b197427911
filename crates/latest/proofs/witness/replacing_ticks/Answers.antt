-- `latest::witness::replacing_ticks` meets its contract. Assumes nothing.
use Rattle.latest.specs.Script.{replacing_ticks}
use Rattle.latest.proofs.Ranges.{domain_below}
use Rattle.latest.proofs.witness.replacing_ticks.Goals as goal

pub returns-then-starts_run : goal.returns-then-starts_run
unfolding replacing_ticks
returns-then-starts_run c = simp (← c.starts_run.ensures, c.if-starts_run.true)

pub has_box-requires : goal.has_box-requires
has_box-requires c = domain_below _ _ c.requires

pub returns-then-not-has_box : goal.returns-then-not-has_box
unfolding replacing_ticks
returns-then-not-has_box c =
    simp (
      ← c.starts_run.ensures,
      c.if-starts_run.false,
      ← c.has_box.ensures,
      c.if-not-has_box.true,
    )

pub returns-then-meets_kernel : goal.returns-then-meets_kernel
unfolding replacing_ticks
returns-then-meets_kernel c =
    simp (
      ← c.starts_run.ensures,
      c.if-starts_run.false,
      ← c.has_box.ensures,
      c.if-not-has_box.false,
      ← c.meets_kernel.ensures,
      c.if-meets_kernel.true,
    )

pub returns-else-meets_kernel : goal.returns-else-meets_kernel
unfolding replacing_ticks
returns-else-meets_kernel c =
    simp (
      ← c.starts_run.ensures,
      c.if-starts_run.false,
      ← c.has_box.ensures,
      c.if-not-has_box.false,
      ← c.meets_kernel.ensures,
      c.if-meets_kernel.false,
    )
