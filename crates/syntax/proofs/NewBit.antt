-- A bit that is added to a number which lacks it: how large the number gets, and that no other bit is new. Assumes nothing.
use Prim.Native.Nat.{ℕ, suc, ◌+◌, ◌*◌, ◌/◌, ◌%◌, ◌^◌, ◌<◌}
use native.Mathlib.Nat.{add-zero, div-add-mod', mod-lt, one-mul}
use native.Mathlib.Omega.{arith}
use mathlib.Core.Bool.{Bool, true, false}
use mathlib.Core.Path.{◌≡◌, refl, sym, ap, ◌∙◌, subst}
use lib.Bits.{bit_and, bit_or, and_block, and_mask, and_zero_r, or_disjoint, or_lt, or_shr, or_step}
use lib.Dec.{eqb, ltb}
use lib.Pow.{pow-lt, pow_pos}
use borrow.Author.Tests.{eq-eqb, eqb-false, eqb-true, ltb-false, ltb-true}
use Rattle.plan.specs.Colours.{has_bit}
use Rattle.plan.proofs.Bits.{no_high_bit, no_low_bit}

-- the number and the new bit have none in common
free_and : (number index : ℕ) → has_bit number index ≡ false → bit_and number (2 ^ index) ≡ 0
unfolding has_bit
free_and number index free =
    let above = number / 2 ^ index in
    let below = number % 2 ^ index in
    let even : above % 2 ≡ 0 = let odd = eqb-false (above % 2) 1 free in omega arith in
    let split : bit_and number (2 ^ index) ≡ bit_and (above * 2 ^ index + below) (1 * 2 ^ index + 0) =
    rw (div-add-mod', one-mul, add-zero) refl in
    let halves = and_block index above 1 below 0 (mod-lt number (pow_pos index)) (pow_pos index) in
    let parity : bit_and above 1 ≡ 0 = and_mask above 1 ∙ even in
    split ∙ halves ∙ rw (parity, and_zero_r below) (omega arith)

joined : (number index : ℕ) → has_bit number index ≡ false → bit_or number (2 ^ index) ≡ number + 2 ^ index
joined number index free = or_disjoint number (2 ^ index) (free_and number index free)

pub new_bit_most : (number width index : ℕ) → number < 2 ^ width → index < width → has_bit number index ≡ false → number + 2 ^ index < 2 ^ width
new_bit_most number width index small below free =
    subst (λ (n : ℕ). n < 2 ^ width) (joined number index free) (or_lt width number (2 ^ index) small (pow-lt below))

-- a power of two has one bit
one_bit : (index other : ℕ) → (other ≡ index → ⊥) → 2 ^ index / 2 ^ other % 2 ≡ 0
unfolding has_bit
one_bit index other differ = go (ltb other index) refl
  where
    no_bit : (has_bit (2 ^ index) other ≡ true → ⊥) → 2 ^ index / 2 ^ other % 2 ≡ 0
    no_bit none = by_test_lem (eqb (2 ^ index / 2 ^ other % 2) 1) refl
      where
        by_test_lem : (b : Bool) → eqb (2 ^ index / 2 ^ other % 2) 1 ≡ b → 2 ^ index / 2 ^ other % 2 ≡ 0
        by_test_lem true e = absurd (none e)
        by_test_lem false e = let odd = eqb-false (2 ^ index / 2 ^ other % 2) 1 e in omega arith

    go : (b : Bool) → ltb other index ≡ b → 2 ^ index / 2 ^ other % 2 ≡ 0
    go true e = no_bit (λ has. no_low_bit 1 index other (ltb-true other index e) (rw (one-mul (2 ^ index)) has))
    go false e =
        let past : index < other = let least = ltb-false other index e in omega arith in
        no_bit (λ has. no_high_bit (2 ^ index) (suc index) other (pow-lt (omega arith)) past has)

pub new_bit_other : (number index other : ℕ) → has_bit number index ≡ false → has_bit (number + 2 ^ index) other ≡ true → (other ≡ index → ⊥)
    → has_bit number other ≡ true
unfolding has_bit
new_bit_other number index other free has differ =
    let bit = number / 2 ^ other % 2 in
    let halves : (number + 2 ^ index) / 2 ^ other ≡ bit_or (number / 2 ^ other) (2 ^ index / 2 ^ other) =
    ap (λ (n : ℕ). n / 2 ^ other) (sym (joined number index free)) ∙ or_shr number (2 ^ index) other in
    let parity = or_step (number / 2 ^ other) (2 ^ index / 2 ^ other) in
    let odd : (number + 2 ^ index) / 2 ^ other % 2 ≡ 1 = eqb-true _ _ has in
    eq-eqb bit 1 (omega (arith, one_bit index other differ))
