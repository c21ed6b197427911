-- `machine::stepping::next_slot` meets its contract. Assumes nothing.
use mathlib.Core.Path.{◌≡◌, ap, sym, ◌∙◌}
use Prim.Native.Nat.{ℕ, ◌+◌, ◌%◌}
use native.Mathlib.Nat.{mod-eq_of_lt, mod_self}
use native.Mathlib.Omega.{arith}
use Rattle.machine.proofs.stepping.next_slot.Goals as goal

pub returns-then-next-declared : goal.returns-then-next-declared
returns-then-next-declared c = sym (mod-eq_of_lt c.if-next-declared.true)

pub returns-else-next-declared : goal.returns-else-next-declared
returns-else-next-declared c =
    let declared = c.args.declared in
    let all : c.args.slot + 1 ≡ declared = omega (arith, c.if-next-declared.false, c.requires) in
    sym (ap (λ (n : ℕ). n % declared) all ∙ mod_self declared)
