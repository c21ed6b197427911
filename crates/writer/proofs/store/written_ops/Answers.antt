-- `writer::store::written_ops` meets its contract. Assumes nothing.
use mathlib.Core.Path.{refl}
use native.Mathlib.Omega.{arith}
use borrow.Author.Tests.{le-ltb, lt-ltb}
use Rattle.script.proofs.ScriptEnd.{ends_at}
use Rattle.writer.specs.Scripts.{written_ops}
use Rattle.writer.proofs.store.written_ops.Goals as goal

pub returns-then-domain-domains : goal.returns-then-domain-domains
unfolding written_ops
returns-then-domain-domains c =
    let args = c.args in (
      rw (lt-ltb args.domain args.domains c.if-domain-domains.true) c.stored_ops.ensures,
      omega (arith, c.stored_ops.ensures, (ends_at args.scripts.now args.domain).within),
    )

pub returns : goal.returns
unfolding written_ops
returns c =
    let args = c.args in
    (rw (le-ltb args.domain args.domains c.if-domain-domains.false) refl, omega arith)
