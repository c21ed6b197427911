-- The rights below a domain, bit by bit: one domain more adds its bit or nothing, and a domain is never among those below it. Assumes nothing.
use Prim.Native.Nat.{ℕ, ◌+◌, ◌/◌, ◌%◌, ◌^◌, ◌≤◌, ◌<◌}
use native.Mathlib.Nat.{lt_of_lt_of_le, mod-eq_of_lt, mod-lt}
use native.Mathlib.Omega.{arith}
use mathlib.Core.Bool.{Bool, true, false}
use mathlib.Core.Path.{◌≡◌, refl}
use lib.Dec.{ltb}
use lib.Pow.{mod-pow-add, pow_mono, pow_pos}
use borrow.Author.Tests.{eqb-false, eqb-true, ltb-false, ltb-true}
use Rattle.plan.specs.Colours.{has_bit}
use Rattle.plan.specs.Limits.{most_domains}
use Rattle.plan.proofs.Bits.{no_high_bit}

pub bit_set : (rights domain : ℕ) → has_bit rights domain ≡ true → rights % 2 ^ (domain + 1) ≡ rights % 2 ^ domain + 2 ^ domain
unfolding has_bit
bit_set rights domain has =
    let one : rights / 2 ^ domain % 2 ≡ 1 = eqb-true _ _ has in
    let turned : domain + 1 ≡ 1 + domain = omega arith in
    rw (turned, mod-pow-add rights 1 domain, one) (omega arith)

pub bit_clear : (rights domain : ℕ) → has_bit rights domain ≡ false → rights % 2 ^ (domain + 1) ≡ rights % 2 ^ domain
unfolding has_bit
bit_clear rights domain lacks =
    let some : (rights / 2 ^ domain % 2 ≡ 1 → ⊥) = eqb-false _ _ lacks in
    let none : rights / 2 ^ domain % 2 ≡ 0 = omega arith in
    let turned : domain + 1 ≡ 1 + domain = omega arith in
    rw (turned, mod-pow-add rights 1 domain, none) (omega arith)

not_bit : (mask index : ℕ) → (has_bit mask index ≡ true → ⊥) → has_bit mask index ≡ false
not_bit mask index never = go (has_bit mask index) refl
  where
    go : (b : Bool) → has_bit mask index ≡ b → has_bit mask index ≡ false
    go true e = absurd (never e)
    go false e = e

-- a domain is new to the rights below it
pub bit_new : (rights domain : ℕ) → has_bit (rights % 2 ^ domain) domain ≡ false
bit_new rights domain = not_bit _ domain (no_high_bit _ domain domain (mod-lt rights (pow_pos domain)) (omega arith))

-- the rights of eight domains are all there are
pub bits_all : (rights count : ℕ) → rights < 2 ^ count → count ≤ most_domains → rights % 2 ^ most_domains ≡ rights
bits_all rights count small few = mod-eq_of_lt (lt_of_lt_of_le small (pow_mono {i = count} {j = most_domains} few))

-- a bit of rights below 2 ^ count is a domain below count
pub bit_below : (rights count domain : ℕ) → rights < 2 ^ count → has_bit rights domain ≡ true → domain < count
bit_below rights count domain small has = go (ltb domain count) refl
  where
    go : (b : Bool) → ltb domain count ≡ b → domain < count
    go true e = ltb-true domain count e
    go false e = absurd (no_high_bit rights count domain small (ltb-false domain count e) has)
